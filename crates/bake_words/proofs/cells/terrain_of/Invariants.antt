use Rattle.std.proofs.Common.{take}
use Rattle.bake_words.specs.Cells.{AreCells}
use Rattle.bake_words.proofs.cells.terrain_of.Given as goal

abbrev pub invariant-loop-place : goal.invariant-loop-place
invariant-loop-place l = AreCells (take l.place l.cells) l.terrain.items
