use Rattle.std.proofs.Common.{◌≡◌, length}
use Rattle.build_pool.specs.Pieces.{AreSome}
use Rattle.bake_words.proofs.alone.tiled_rows.Given as goal

abbrev pub invariant-loop-first : goal.invariant-loop-first
invariant-loop-first l = (l.tiles.count ≡ length l.near) × (length l.wanted.items ≡ length l.near) × AreSome l.cells l.rows
