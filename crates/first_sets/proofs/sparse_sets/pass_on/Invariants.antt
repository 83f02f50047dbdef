-- The settled cells so far have their sets, and their places are noted.
use Rattle.std.proofs.Common.{◌≡◌}
use Rattle.first_sets.specs.Steps.{IsPassed}
use Rattle.first_sets.proofs.Filling.{ArePlaces}
use Rattle.first_sets.proofs.sparse_sets.pass_on.Given as goal

abbrev pub invariant-loop-index : goal.invariant-loop-index
invariant-loop-index l = record {
  order : l.cell-items ≡ l.search.settled;
  wide : l.width ≡ l.grid.width;
  passed : IsPassed l.grid l.source l.search l.index l.sets;
  noted : ArePlaces l.grid l.search.settled l.source l.index l.places;
}
