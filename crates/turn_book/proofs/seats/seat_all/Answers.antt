use Rattle.std.proofs.Common.{rules, ◌≡◌, ◌≢◌, ◌+◌, ◌^◌, ◌<◌, ap, sym, subst, None, Some, length, slice_index_or, []}
use Rattle.turn_book.specs.Rule.{view_of}
use Rattle.turn_book.specs.Books.{IsNewSeat}
use Rattle.turn_book.specs.Turns.{base_of}
use Rattle.turn_book.specs.declared.view.Phase.TheVariants.{Idle}
use Rattle.turn_book.proofs.Joining.{splits_seat}
use Rattle.turn_book.proofs.Dealing.{new_seat, one_more_seat}
use Rattle.turn_book.proofs.seats.seat_all.Goals as goal

pub split_seat-next-requires : goal.split_seat-next-requires
split_seat-next-requires g c = let kept = c.loop-made.invariant in let small : c.loop-made.made + 1 < 2 ^ 63 = search rules in (
  search rules,
  search rules,
  splits_seat g.S.Serial.list g.S.Serial.base g.S.Serial.names _ c.loop-made.made _ (ap (λ m. m.0.phase) kept.3)
      (subst (λ m. m.0.base ≢ None) (sym kept.3) c.requires.based) (ap (λ m. m.0.made) kept.3) small,
)

pub loop-made-preserved : goal.loop-made-preserved
loop-made-preserved g c =
    let kept = c.loop-made.invariant in let cut = c.split_seat-next.ensures in
    let last = c.split_seat-next.new.seat in let place = length c.loop-made.all.items in
    let is : last.me ≡ (view_of (Some place) Idle [] 0 (base_of c.args.first) None, []) = search rules in
    let new : IsNewSeat c.args.first.table_id (base_of c.args.first) c.args.seats place last = new_seat _ _ _ _ None last (search rules) is c.requires.based (λ end. absurd (search rules)) in (
      search rules,
      search rules,
      search rules,
      search rules,
      subst
          (λ xs. (k : _) (default : _) → k < length xs → IsNewSeat c.args.first.table_id (base_of c.args.first) c.args.seats k (slice_index_or xs k default))
          (sym c.push_reserved.ensures.items) (one_more_seat _ _ _ _ last kept.4 new),
    )
