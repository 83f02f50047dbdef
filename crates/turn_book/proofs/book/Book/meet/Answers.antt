use Rattle.std.proofs.Common.{rules, ◌≢◌, ap, sym, subst, ◌∙◌, None}
use Rattle.turn_book.proofs.Joining.{joins, learns}
use Rattle.turn_book.proofs.book.Book.meet.Goals as goal

pub join_seat-requires : goal.join_seat-requires
join_seat-requires g c = let idle = c.requires.idle in let note = c.requires.note in (
  search rules,
  search rules,
  ap (λ m. m.1) note.me,
  search rules,
  joins g.S.Serial.list g.S.Serial.base g.S.Serial.names _ _ _ _ (ap (λ m. m.0.phase) idle.me) (ap (λ m. m.0.phase) note.me) idle.based,
)

pub load-requires : goal.load-requires
load-requires g c = let idle = c.requires.idle in let met = c.join_seat.ensures.2 in (
  search rules,
  search rules,
  learns g.S.Serial.list g.S.Serial.base g.S.Serial.names _ _ _ (ap (λ m. m.0.phase) met ∙ ap (λ m. m.0.phase) idle.me) (subst (λ m. m.0.base ≢ None) (sym met) idle.based),
)
