use Rattle.std.proofs.Common.{ap, ◌∙◌, arith}
use Rattle.std.proofs.lemmas.List.{get_or_default}
use Rattle.lane_rows.specs.Tables.{index_of}
use Rattle.lane_rows.proofs.Indexing.{indexed_more}
use Rattle.lane_rows.proofs.places.number.Goals as goal

pub loop-place-preserved : goal.loop-place-preserved
loop-place-preserved c =
    let at = c.index_in.ensures ∙ ap (index_of c.args.left c.args.top c.args.width) (get_or_default c.args.cells.now c.loop-place.place _ (record { x = 0; y = 0 }) c.loop-place-test.true) in
    let room = c.requires.room c.loop-place.place (record { x = 0; y = 0 }) c.loop-place-test.true in
    indexed_more _ _ _ _ _ _ _ c.requires.numbered.once c.requires.inside c.loop-place-test.true at (omega (arith, at, room)) c.loop-place.invariant
