use Rattle.std.proofs.Common.{rules}
use Rattle.turn_book.proofs.Keeps.{passes}
use Rattle.turn_book.proofs.lock.pass_on.Goals as goal

pub fetch_add-served-requires : goal.fetch_add-served-requires
fetch_add-served-requires g c = let t = c.requires.full in
    (search rules, search rules, passes g.S.Serial.list g.S.Serial.base g.S.Serial.names _ _ _ t.0 _ c.requires.served t.1 t.2 t.3)
