use Rattle.std.proofs.Common.{◌≡◌, ◌*◌, ◌++◌, map, take, drop}
use Rattle.map_read.specs.MapText.{glyph}
use Rattle.map_read.proofs.writing.push_row.Given as goal

abbrev pub invariant-loop-x : goal.invariant-loop-x
invariant-loop-x l = l.text.items ≡ l.initial.text.items ++ map glyph (take l.x (drop (l.y * l.grid.width) l.grid.terrain))
