use Rattle.std.proofs.Common.{rules, ap}
use Rattle.turn_book.proofs.Keeps.{there}
use Rattle.turn_book.proofs.Joining.{counts_all}
use Rattle.turn_book.proofs.book.Book.count.Goals as goal

pub load-requires : goal.load-requires
load-requires g c = let idle = c.requires.idle.me in (
  search rules,
  search rules,
  counts_all g.S.Serial.list g.S.Serial.base g.S.Serial.names _ _ _ (ap (λ m. m.0.phase) idle) (there _ _ (ap (λ m. m.0.number) idle)) c.requires.idle.based,
)
