use Rattle.std.proofs.Common.{◌≡◌, length}
use Rattle.bake_parts.specs.Homes.{SetsHomes}
use Rattle.bake_parts.proofs.homes.set_homes.Given as goal

abbrev pub invariant-loop-index : goal.invariant-loop-index
invariant-loop-index l = record {
  size : length l.homes ≡ length l.fn.homes;
  set : SetsHomes l.width l.number l.component l.index l.fn.homes l.homes;
}
