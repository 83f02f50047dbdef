use Rattle.std.proofs.Common.{◌∙◌, ap, not, sym}
use Rattle.path_replay.proofs.ChangesRead.{read_more, read_not, read_past, word_left}
use Rattle.path_replay.proofs.reading.edit_with.Goals as goal

pub returns-in_err-change : goal.returns-in_err-change
returns-in_err-change c =
    let some = word_left _ _ (c.is_none.ensures ∙ ap not c.if-is_none.false) c.cut_word.ensures in
    rw c.from_residual.ensures (read_not _ _ _ _ c.loop-count.invariant some c.loop-count-test.true c.in_err-change.ensures)

pub loop-count-preserved : goal.loop-count-preserved
loop-count-preserved c =
    let some = word_left _ _ (c.is_none.ensures ∙ ap not c.if-is_none.false) c.cut_word.ensures in
    read_more _ _ _ _ _ _ c.loop-count.invariant some c.loop-count-test.true c.in_ok-change.ensures

pub returns-then-is_some : goal.returns-then-is_some
returns-then-is_some c =
    let some = word_left _ _ (sym c.is_some.ensures ∙ c.if-is_some.true) c.cut_word-2.ensures in
    read_past _ _ _ _ c.loop-count.invariant some c.loop-count-test.false
