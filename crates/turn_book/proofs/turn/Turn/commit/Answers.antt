use Rattle.std.proofs.Common.{rules, ◌≢◌, ap, sym, subst, ◌∙◌, ◌++◌, ◌∷◌, [], Some, None}
use Rattle.turn_book.proofs.Keeps.{commits}
use Rattle.turn_book.proofs.turn.Turn.commit.Goals as goal

pub fetch_add-requires : goal.fetch_add-requires
fetch_add-requires g c = let turn = c.requires.turn in let given = c.give_back.ensures.given in (
  search rules,
  search rules,
  commits g.S.Serial.list g.S.Serial.base g.S.Serial.names _ _ _ turn.ticket c.args.self.state _ c.args.entry
      (ap (λ m. m.0.phase) given ∙ ap (λ m. m.0.phase) turn.served.me)
      (ap (λ m. m.1) given)
      (c.requires.list ∙ ap (λ m. m.0.seen ++ c.args.entry ∷ []) (sym given))
      (ap (λ m. m.0.number) given ∙ (ap (λ m. m.0.number) turn.served.me ∙ ap Some (sym c.requires.own)))
      (ap (λ m. m.0.joined) given ∙ ap (λ m. m.0.joined) turn.served.me)
      (subst (λ m. m.0.base ≢ None) (sym given) turn.served.based)
      (g.S.Serial.short c.args.self.state),
)
