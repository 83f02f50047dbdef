use Rattle.std.proofs.Common.{rules, ◌≡◌, ap, subst, ◌∙◌, ◌++◌, ◌∷◌, []}
use Rattle.turn_book.specs.Gathered.{IsGathered}
use Rattle.turn_book.specs.Histories.{StartsWith}
use Rattle.turn_book.specs.Steps.{met}
use Rattle.turn_book.proofs.Joining.{joins}
use Rattle.turn_book.proofs.Ending.{idle_next, book_next, gathers_more}
use Rattle.turn_book.proofs.closing.gather.Goals as goal

pub join_seat-requires : goal.join_seat-requires
join_seat-requires g c = let kept = c.loop-next.invariant in let left = c.pop-in-loop-next.new.self.items in let next = c.in-Some.next in
    let is : c.loop-next.rest.items ≡ left ++ next ∷ [] = c.in-Some.ensures.items in let starts = subst (StartsWith c.args.seats.items) is kept.starts in
    let idle = (idle_next g.S.Serial.names c.args.lock.now.table_id g.T.Sits.seat c.args.seats.items c.requires.seats left next starts).me in let seat = c.into_seat.ensures in (
      kept.book,
      ap (λ s. s.table_id) seat ∙ book_next g.S.Serial.names c.args.lock.now.table_id g.T.Sits.seat c.args.seats.items c.requires.seats left next starts,
      ap (λ s. s.me.1) seat ∙ ap (λ m. m.1) idle,
      search rules,
      joins g.S.Serial.list g.S.Serial.base g.S.Serial.names _ _ _ _ kept.idle (ap (λ s. s.me.0.phase) seat ∙ ap (λ m. m.0.phase) idle) kept.based,
    )

pub loop-next-preserved : goal.loop-next-preserved
loop-next-preserved g c = let kept = c.loop-next.invariant in let left = c.pop-in-loop-next.new.self.items in let next = c.in-Some.next in
    let is : c.loop-next.rest.items ≡ left ++ next ∷ [] = c.in-Some.ensures.items in let all = c.loop-next.all in let join = c.join_seat.ensures in
    gathers_more g.S.Serial.names c.args.lock.now.table_id g.T.Sits.seat c.args.seats.items c.requires.seats left next all c.join_seat.new.seat
    (subst (λ xs. IsGathered g.S.Serial.names c.args.lock.now.table_id g.T.Sits.seat c.args.seats.items xs all) is kept)
    (join.0 ∙ kept.book) (join.2 ∙ ap (λ s. (met all.me.0 s.me.0, all.me.1)) c.into_seat.ensures)
