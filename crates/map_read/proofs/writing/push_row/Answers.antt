use Rattle.std.proofs.Common.{◌∙◌}
use Rattle.moves.specs.declared.Cell.{Cell}
use Rattle.map_read.proofs.WritingLemmas.{glyphs_more}
use Rattle.map_read.proofs.writing.push_row.Goals as goal

pub loop-x-preserved : goal.loop-x-preserved
loop-x-preserved c =
    let lt = rw c.width-x-end.ensures.width at c.loop-x-test.true in
    let cell : Cell = record { x = c.loop-x.x; y = c.args.y } in
    let more = glyphs_more c.args.grid.now cell c.terrain.result c.loop-x.text.items c.args.text.now.items
    c.width-x-end.ensures.whole lt c.requires (c.terrain.ensures.inside (record { column = lt; row = c.requires })) c.loop-x.invariant in
    c.in_ok-push.ensures.items ∙ rw c.glyph.ensures more
