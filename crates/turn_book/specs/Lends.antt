-- What a turn ends as, where its state is lent.
use Rattle.std.specs.Prelude.{[]}
use Rattle.std.specs.Borrow.{Lends, MutBor, Fml, RattleType}
use mir.Syntax.{named}
use Rattle.turn_book.specs.declared.serial.Serial.{Ghosts}
use Rattle.turn_book.specs.declared.turn.Turn.{Turn}
use Rattle.turn_book.specs.contracts.turn.Turn.{the_row}

abbrev pub with_state : {S E B : Type 0} → Turn S E B → S → Turn S E B
with_state turn state = record turn { state = state }

module _ (S E B : RattleType) (ghosts : Ghosts S.Denot E.Denot B.Denot) where
  -- once the borrow ends, the turn has the state that was written through it
  abbrev pub LendsState : MutBor (Turn S.Denot E.Denot B.Denot) → MutBor S.Denot → Fml
  LendsState turn state = Lends (the_row (record { mir = named 1; lft = [] }) S E B ghosts) S turn state (with_state turn.now)
