use Rattle.std.proofs.Common.{◌≡◌, ◌⊎◌}
use Rattle.std.specs.List.{Contains}
use Rattle.moves.specs.Maps.{IsInside, terrain_of}
use Rattle.components.proofs.Below.{AllBelow}
use Rattle.components.proofs.edits.differing.Given as goal

abbrev pub invariant-loop-cell : goal.invariant-loop-cell
invariant-loop-cell l =
    AllBelow (λ c. IsInside l.old c → Contains l.cells.items c ⊎ (terrain_of l.new c ≡ terrain_of l.old c))
    l.changed l.cell-index
