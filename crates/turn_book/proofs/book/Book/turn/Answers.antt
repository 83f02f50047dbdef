use Rattle.std.proofs.Common.{rules, ap}
use Rattle.turn_book.proofs.Keeps.{draws, there}
use Rattle.turn_book.proofs.book.Book.turn.Goals as goal

pub fetch_add-ticket-requires : goal.fetch_add-ticket-requires
fetch_add-ticket-requires g c = let idle = c.requires.idle.me in (
  search rules,
  search rules,
  draws g.S.Serial.list g.S.Serial.base g.S.Serial.names _ _ _ (ap (λ m. m.0.phase) idle) (there _ _ (ap (λ m. m.0.number) idle)) c.requires.idle.based,
)
