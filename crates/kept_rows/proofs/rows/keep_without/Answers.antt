use Rattle.std.proofs.Common.{refl, length, ap}
use Rattle.kept_rows.proofs.Gaps.{gap_small}
use Rattle.kept_rows.proofs.NewRows.{kept_without}
use Rattle.kept_rows.proofs.rows.keep_without.Goals as goal

pub put_row-requires-clause-words : goal.put_row-requires-clause-words
put_row-requires-clause-words c =
    rw c.deref.ensures.value
    (kept_without c.args.lists.now.former.now c.requires.comp c.args.lists.now.former.now.cells c.args.lists.now.cells.now c.args.lists.now.gaps.now _ _ _ _ c.requires.surveyed c.args.place c.in-Some.known.sets c.in-Some.known.own c.requires.place
    (rw c.cells.ensures.cells at c.in-Some.ensures.stay) (rw c.cells.ensures.cells at c.in-Some.ensures.sets) (rw c.cells.ensures.cells at c.in-Some.ensures.own) _ c.in_ok-note_holes.ensures _ _ _ refl c.requires.board
    _ _ c.place_past-there.ensures.past c.row-words.ensures.row c.moved.result c.moved.ensures c.in_ok-note_known.ensures (ap length c.cells-count.ensures.cells) (c.in_ok-take_out.ensures.row c.if-branch.true))

pub note_holes-requires-clause-small : goal.note_holes-requires-clause-small
note_holes-requires-clause-small c = gap_small _ _ _ c.requires.surveyed.cells c.requires.surveyed.numbered.few
