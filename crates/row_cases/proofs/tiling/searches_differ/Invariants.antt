-- Both keep their room.
use Rattle.std.proofs.Common.{◌≡◌, ◌*◌}
use Rattle.row_cases.proofs.tiling.searches_differ.Given as goal

abbrev pub invariant-loop-place : goal.invariant-loop-place
invariant-loop-place l = (l.search.room ≡ l.grid.width * l.grid.height) × (l.sets.room ≡ l.grid.width * l.grid.height)
