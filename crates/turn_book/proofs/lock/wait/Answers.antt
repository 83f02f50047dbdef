use Rattle.std.proofs.Common.{rules, ◌≢◌, ap, sym, subst, ◌∙◌, None}
use Rattle.turn_book.proofs.Keeps.{serves, there}
use Rattle.turn_book.proofs.lock.wait.Goals as goal

pub load-serving-requires : goal.load-serving-requires
load-serving-requires g c = let t = c.requires.waits in let same = c.loop.invariant.2 in let is = same ∙ t.2.me in (
  search rules,
  search rules,
  serves g.S.Serial.list g.S.Serial.base g.S.Serial.names _ _ _ t.0 (ap (λ m. m.0.phase) is) (there _ _ (ap (λ m. m.0.number) is))
      (subst (λ m. m.0.base ≢ None) (sym same) t.2.based),
)
