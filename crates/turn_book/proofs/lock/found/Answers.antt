use Rattle.std.proofs.Common.{rules, ap, ◌∙◌, ◌∷◌, [], Some}
use Rattle.turn_book.proofs.Keeps.{opens, founds}
use Rattle.turn_book.proofs.lock.found.Goals as goal

pub load-requires : goal.load-requires
load-requires g c = (search rules, search rules, opens g.S.Serial.list g.S.Serial.base g.S.Serial.names _ _ _ c.requires.first)

pub load-requires-2 : goal.load-requires-2
load-requires-2 g c = (
  search rules,
  search rules,
  founds g.S.Serial.list g.S.Serial.base g.S.Serial.names _ _ _ c.args.state (c.give_back.ensures.given ∙ ap (λ m. (m.0, (0, Some c.args.state) ∷ [])) c.load.ensures.2) c.requires.empty,
)
