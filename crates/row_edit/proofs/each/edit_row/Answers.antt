use Rattle.std.proofs.Common.{◌≡◌, ◌-◌, rules}
use Rattle.std.proofs.lemmas.Bool.{MatchBool-at_true}
use Rattle.row_edit.proofs.Going.{edits_out}
use Rattle.row_edit.proofs.each.edit_row.Goals as goal

pub returns-then-done : goal.returns-then-done
returns-then-done c =
    let left : c.saturating_sub.result ≡ c.args.places - 1 = search rules in
    rw (c.in-Out.is, left) (edits_out _ _ _ _ _ _ (MatchBool-at_true _ _ c.if-done.true c.in_ok-done-in-Out.ensures.done))
