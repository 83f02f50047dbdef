use Rattle.std.proofs.Common.{rules, ap}
use Rattle.turn_book.proofs.Joining.{splits_note}
use Rattle.turn_book.proofs.book.Book.note.Goals as goal

pub split_seat-requires : goal.split_seat-requires
split_seat-requires g c = let idle = c.requires.idle.me in
    (search rules, search rules, splits_note g.S.Serial.list g.S.Serial.base g.S.Serial.names _ _ (ap (λ m. m.0.phase) idle) c.requires.idle.based)

pub returns-clause-seat : goal.returns-clause-seat
returns-clause-seat g c = let t = c.split_seat.ensures in λ i. record { marker = c.args.seat.now.marker; table_id = t.0 i; id = t.1 i; me = t.2 i }
