use Rattle.std.proofs.Common.{inl, inr, sym}
use Rattle.kept_rows.proofs.GateLoops.{more_by_one, classed_last}
use Rattle.kept_rows.proofs.classes.note_class.Goals.{then-is_same-via-then-is_same, then-is_same-via-else-is_same+then-has_class}
use Rattle.kept_rows.proofs.classes.note_class.Goals as goal

pub returns-then-is_same-clause-classed : goal.returns-then-is_same-clause-classed
returns-then-is_same-clause-classed c = λ _ off none. (
  c.in-Some.class,
  c.in-Some.ensures,
  elim c.then-is_same.branch [
    | then-is_same-via-then-is_same w ↦ inl (c.is_same.ensures w.if-is_same.true)
    | then-is_same-via-else-is_same+then-has_class w ↦ inr (rw (sym w.deref.ensures.value) (w.has_class.ensures w.if-has_class.true))
  ],
)

pub returns-clause-more : goal.returns-clause-more
returns-clause-more c = more_by_one _ _ _ _ _ _ _ c.in-Some.ensures c.in_ok-push.ensures.items

pub returns-clause-classed : goal.returns-clause-classed
returns-clause-classed c = λ _. classed_last _ _ _ _ _ _ _ _ c.in-Some.ensures c.in_ok-push.ensures.items
