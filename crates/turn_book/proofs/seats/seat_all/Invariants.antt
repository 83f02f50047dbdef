use Rattle.std.proofs.Common.{◌≡◌, ◌+◌, ◌-◌, ◌<◌, [], Some, length, slice_index_or}
use Rattle.std.specs.Prelude.{vec_capacity}
use Rattle.turn_book.specs.Books.{IsNewSeat}
use Rattle.turn_book.specs.Rule.{view_of}
use Rattle.turn_book.specs.Turns.{base_of}
use Rattle.turn_book.specs.declared.view.Phase.TheVariants.{Idle}
use Rattle.turn_book.proofs.seats.seat_all.Given as goal

abbrev pub invariant-loop-made : goal.invariant-loop-made
invariant-loop-made g l = (length l.all.items + 1 ≡ l.made) × (vec_capacity l.all ≡ vec_capacity l.fn.room)
    × (l.last.table_id ≡ l.fn.first.table_id)
    × (l.last.me ≡ (view_of (Some (l.made - 1)) Idle [] 0 (base_of l.fn.first) (Some l.made), []))
    × ((place : _) (default : _) → place < length l.all.items → IsNewSeat l.fn.first.table_id (base_of l.fn.first) l.fn.seats place (slice_index_or l.all.items place default))
