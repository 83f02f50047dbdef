-- Passes are dealt, one for each seat.
use Rattle.std.proofs.Common.{◌≡◌, ℕ, ◌+◌, ◌-◌, ◌<◌, ◌≤◌, List, [], ◌∷◌, ◌++◌, length, get_or, All, Option, Some, refl, sym, ap, ◌∙◌, subst, arith, inl, inr}
use Rattle.std.specs.List.{ReversedBelow}
use Rattle.std.proofs.lemmas.Bool.{cases_lt}
use Rattle.std.proofs.lemmas.List.{get_or_append_left, get_or_push, length_push}
use Rattle.std.proofs.lemmas.List.Elements.{All-nil, All-push}
use Rattle.atomic_table.specs.Seated.{TableId}
use Rattle.atomic_table.specs.declared.shared.Seat.{Seat}
use Rattle.turn_book.specs.Books.{AreNewSeats, IsNewSeat}
use Rattle.turn_book.specs.Turns.{base_of}
use Rattle.turn_book.specs.Turns.{seen_of as seen_at}
use Rattle.turn_book.specs.declared.view.View.{View}
use Rattle.versions.specs.Databases.{Versioned}
use Rattle.path_core.specs.declared.entry.Entry.{Entry}
use Rattle.path_core.specs.Boards.{Boarded}
use Rattle.path_core.specs.Histories.{map_at, published_prefix, IsVersionAt}
use Rattle.path_board.specs.declared.state.BoardState.{BoardState}
use Rattle.path_board.specs.declared.state.Foundation.{Foundation}
use Rattle.path_board.specs.declared.pass.Pass.{Pass}
use Rattle.path_board.specs.Foundations.{foundation_of}
use Rattle.path_board.specs.Holding.{foundation_or, IsHeld}
use Rattle.path_board.specs.Dealing.{AreCopies, DealsTo, HasDeal, IsDeal}
use Rattle.path_board.specs.Passes.{held_of}
use Rattle.path_board.specs.SharedBoards.{AreNewPasses, IsNewPass}

abbrev BoardSeat : Type 0
BoardSeat = Seat (Option BoardState) (View Entry Foundation)

-- what holds of all holds of all but the last, and of the last
all_init : {X : Type 0} (P : X → Type 0) (xs : List X) (x : X) → All P (xs ++ x ∷ []) → All P xs
all_init P xs x all = λ k d early. let long : length (xs ++ x ∷ []) ≡ length xs + 1 = length_push xs x in
    subst P (get_or_append_left xs (x ∷ []) d k early) (all k d (omega arith))

all_last : {X : Type 0} (P : X → Type 0) (xs : List X) (x : X) → All P (xs ++ x ∷ []) → P x
all_last P xs x all = let long : length (xs ++ x ∷ []) ≡ length xs + 1 = length_push xs x in
    subst P (get_or_push xs x x (length xs) refl) (all (length xs) x (omega arith))

-- the copies that were made
pub copies_none : {A : Type 0} (value : A → Versioned) (board : Boarded) (copies : List A)
    → IsVersionAt board.start board.order board.history (published_prefix board.history) board.version → copies ≡ [] → AreCopies value board 0 copies
copies_none value board copies published empty = record {
  count_is = ap length empty;
  published = published;
  each = subst (All (λ copy. value copy ≡ board.version)) (sym empty) (All-nil (λ copy. value copy ≡ board.version));
}

pub copies_more : {A : Type 0} (value : A → Versioned) (board : Boarded) (count : ℕ) (copies after : List A) (copy : A) → AreCopies value board count copies
    → value copy ≡ board.version → after ≡ copies ++ copy ∷ [] → AreCopies value board (count + 1) after
copies_more value board count copies after copy p is grown = record {
  count_is = ap length grown ∙ length_push copies copy ∙ ap (λ n. n + 1) p.count_is;
  published = p.published;
  each = subst (All (λ c. value c ≡ board.version)) (sym grown) (All-push (λ c. value c ≡ board.version) copies copy p.each is);
}

-- so many passes are dealt, and the seats that are left stand the other way round
pub record IsDealt {A : Type 0} (value : A → Versioned) (id : TableId) (board : Boarded) (count : ℕ) (seats : List BoardSeat) (copies : List A) (passes : List Pass) : Type 0 where
  pub total : length passes + length seats ≡ count
  pub same : length copies ≡ length seats
  pub values : All (λ copy. value copy ≡ board.version) copies
  pub dealt : (place : ℕ) (default : Pass) → place < length passes → IsNewPass id board count place (get_or passes place default)
  pub left : (place : ℕ) (default : BoardSeat) → place < length seats → IsNewSeat id (Some (foundation_of board)) count (count - 1 - place) (get_or seats place default)

pub dealt_none : {A : Type 0} (value : A → Versioned) (id : TableId) (board : Boarded) (seats turned : List BoardSeat) (copies : List A) (passes : List Pass)
    → IsDeal value id board seats copies → ReversedBelow seats turned (length seats) → length turned ≡ length seats → passes ≡ []
    → IsDealt value id board (length seats) turned copies passes
dealt_none value id board seats turned copies passes deal turns long empty =
    let none : length passes ≡ 0 = ap length empty in
    record {
      total = omega arith;
      same = deal.copies_are.count_is ∙ sym long;
      values = deal.copies_are.each;
      dealt = λ place default early. absurd (omega arith);
      left = λ place default early. subst (IsNewSeat id (Some (foundation_of board)) (length seats) (length seats - 1 - place)) (sym (turns place default (omega arith)))
          (deal.seats_are.each (length seats - 1 - place) default (omega arith));
    }

-- the seat that is dealt next is new, and its number is how many passes there are
pub next_seat : {A : Type 0} (value : A → Versioned) (id : TableId) (board : Boarded) (count : ℕ) (seats : List BoardSeat) (seat : BoardSeat) (copies : List A) (passes : List Pass)
    → IsDealt value id board count (seats ++ seat ∷ []) copies passes → IsNewSeat id (Some (foundation_of board)) count (length passes) seat
next_seat value id board count seats seat copies passes d =
    let long : length (seats ++ seat ∷ []) ≡ length seats + 1 = length_push seats seat in
    let total = d.total in
    let number : count - 1 - length seats ≡ length passes = omega arith in
    subst (λ n. IsNewSeat id (Some (foundation_of board)) count n seat) number
    (subst (IsNewSeat id (Some (foundation_of board)) count (count - 1 - length seats)) (get_or_push seats seat seat (length seats) refl) (d.left (length seats) seat (omega arith)))

-- a new seat and the board's version make a new pass
new_pass : (id : TableId) (board : Boarded) (count place : ℕ) (pass : Pass) → IsNewSeat id (Some (foundation_of board)) count place pass.seat
    → pass.number ≡ place → held_of pass ≡ board.version → pass.count ≡ 0 → IsNewPass id board count place pass
new_pass id board count place pass new number held none = record {
  of = new.book;
  number = number;
  seen = new.seen;
  looks = new.looks;
  held = held;
  entries = none;
  base = ap foundation_or new.base_is;
  last = new.last;
}

-- such a pass holds the published version
pub new_holds : (id : TableId) (board : Boarded) (count place : ℕ) (seat : BoardSeat) (version : Versioned) → IsNewSeat id (Some (foundation_of board)) count place seat
    → board.history ≡ [] → IsVersionAt board.start board.order board.history (published_prefix board.history) board.version → version ≡ board.version
    → IsHeld (foundation_or (base_of seat)) (seen_at seat) 0 version
new_holds id board count place seat version new empty published is =
    let at : IsVersionAt board.start board.order [] 0 board.version =
    subst (λ l. IsVersionAt board.start board.order l (published_prefix l) board.version) empty published in
    subst (λ v. IsHeld (foundation_or (base_of seat)) (seen_at seat) 0 v) (sym is)
    (subst (λ b. IsHeld b (seen_at seat) 0 board.version) (sym (ap foundation_or new.base_is))
    (subst (λ l. IsHeld (foundation_of board) l 0 board.version) (sym new.seen) (record {
      few = omega arith;
      prefix_is = at.after;
      accepted = subst (λ k. k ≤ 0) (sym at.after) (omega arith);
      map_is = subst (λ k. board.version.map ≡ map_at board.start [] k) (sym at.after) at.map;
      order_is = at.order;
    })))

pub dealt_more : {A : Type 0} (value : A → Versioned) (id : TableId) (board : Boarded) (count : ℕ) (seats : List BoardSeat) (seat : BoardSeat) (copies : List A) (copy : A)
    (passes after : List Pass) (pass : Pass) → IsDealt value id board count (seats ++ seat ∷ []) (copies ++ copy ∷ []) passes
    → pass.seat ≡ seat → pass.number ≡ length passes → held_of pass ≡ value copy → pass.count ≡ 0 → after ≡ passes ++ pass ∷ []
    → IsDealt value id board count seats copies after
dealt_more value id board count seats seat copies copy passes after pass d sits number held none grown =
    let long : length (seats ++ seat ∷ []) ≡ length seats + 1 = length_push seats seat in
    let wide : length (copies ++ copy ∷ []) ≡ length copies + 1 = length_push copies copy in
    let more : length after ≡ length passes + 1 = ap length grown ∙ length_push passes pass in
    let total = d.total in
    let same = d.same in
    let seat_new : IsNewSeat id (Some (foundation_of board)) count (length passes) pass.seat =
    subst (IsNewSeat id (Some (foundation_of board)) count (length passes)) (sym sits) (next_seat value id board count seats seat (copies ++ copy ∷ []) passes d) in
    let last : IsNewPass id board count (length passes) pass =
    new_pass id board count (length passes) pass seat_new number (held ∙ all_last (λ c. value c ≡ board.version) copies copy d.values) none in
    record {
      total = omega arith;
      same = omega arith;
      values = all_init (λ c. value c ≡ board.version) copies copy d.values;
      dealt = λ place default early. subst (λ l. IsNewPass id board count place (get_or l place default)) (sym grown)
          (elim (cases_lt place (length passes)) [
            | inl before ↦ subst (IsNewPass id board count place) (sym (get_or_append_left passes (pass ∷ []) default place before)) (d.dealt place default before)
            | inr at ↦ let here : length passes ≡ place = omega arith in
                subst (λ k. IsNewPass id board count k (get_or (passes ++ pass ∷ []) k default)) here
                (subst (IsNewPass id board count (length passes)) (sym (get_or_push passes pass default (length passes) refl)) last)
          ]);
      left = λ place default early. subst (IsNewSeat id (Some (foundation_of board)) count (count - 1 - place)) (get_or_append_left seats (seat ∷ []) default place early)
          (d.left place default (omega arith));
    }

pub dealt_all : {A : Type 0} (value : A → Versioned) (id : TableId) (board : Boarded) (count : ℕ) (seats : List BoardSeat) (copies : List A) (passes : List Pass)
    → IsDealt value id board count seats copies passes → length seats ≡ 0 → AreNewPasses id board count passes
dealt_all value id board count seats copies passes d none = let total = d.total in record { count_is = omega arith; each = d.dealt }

-- the seats of a new book over a board with no entries
pub is_deal : {A : Type 0} (value : A → Versioned) (id : TableId) (board : Boarded) (count : ℕ) (seats : List BoardSeat) (copies : List A)
    → AreNewSeats id (Some (foundation_of board)) count seats → board.history ≡ [] → AreCopies value board count copies → IsDeal value id board seats copies
is_deal value id board count seats copies new empty made = record {
  seats_are = subst (λ n. AreNewSeats id (Some (foundation_of board)) n seats) (sym new.count_is) new;
  empty = empty;
  copies_are = subst (λ n. AreCopies value board n copies) (sym new.count_is) made;
}

pub has_deal : {A : Type 0} (value : A → Versioned) (id : TableId) (board : Boarded) (count : ℕ) (seats : List BoardSeat) (copies : List A)
    → AreNewSeats id (Some (foundation_of board)) count seats → board.history ≡ [] → AreCopies value board count copies → HasDeal value seats copies
has_deal value id board count seats copies new empty made = record { id = id; board = board; is = is_deal value id board count seats copies new empty made }

pub dealt_to : {A : Type 0} (value : A → Versioned) (id : TableId) (board : Boarded) (count : ℕ) (seats : List BoardSeat) (copies : List A) (passes : List Pass)
    → AreNewSeats id (Some (foundation_of board)) count seats → board.history ≡ [] → AreCopies value board count copies → DealsTo value seats copies passes
    → AreNewPasses id board count passes
dealt_to value id board count seats copies passes new empty made deals =
    subst (λ n. AreNewPasses id board n passes) new.count_is (deals id board (is_deal value id board count seats copies new empty made))

-- the same of whatever board these seats and copies are, with room for the passes to come
pub record IsDealing {A : Type 0} (value : A → Versioned) (all : List BoardSeat) (every : List A) (capacity : ℕ) (seats : List BoardSeat) (copies : List A) (passes : List Pass) : Type 0 where
  pub dealt : (id : TableId) (board : Boarded) → IsDeal value id board all every → IsDealt value id board (length all) seats copies passes
  pub total : length passes + length seats ≡ length all
  pub same : length copies ≡ length seats
  pub room : length all ≤ capacity

pub dealing_none : {A : Type 0} (value : A → Versioned) (all turned : List BoardSeat) (every : List A) (capacity : ℕ) (passes : List Pass) → HasDeal value all every
    → ReversedBelow all turned (length all) → length turned ≡ length all → passes ≡ [] → length all ≤ capacity → IsDealing value all every capacity turned every passes
dealing_none value all turned every capacity passes has turns long empty room =
    let d = dealt_none value has.id has.board all turned every passes has.is turns long empty in
    record {
      dealt = λ id board deal. dealt_none value id board all turned every passes deal turns long empty;
      total = d.total;
      same = d.same;
      room = room;
    }

pub dealing_more : {A : Type 0} (value : A → Versioned) (all : List BoardSeat) (every : List A) (capacity wide : ℕ) (was seats : List BoardSeat) (seat : BoardSeat)
    (had copies : List A) (copy : A) (passes after : List Pass) (pass : Pass) → IsDealing value all every capacity was had passes
    → was ≡ seats ++ seat ∷ [] → had ≡ copies ++ copy ∷ [] → wide ≡ capacity
    → pass.seat ≡ seat → pass.number ≡ length passes → held_of pass ≡ value copy → pass.count ≡ 0 → after ≡ passes ++ pass ∷ []
    → IsDealing value all every wide seats copies after
dealing_more value all every capacity wide was seats seat had copies copy passes after pass d was_is had_is same_room sits number held none grown =
    let long : length was ≡ length seats + 1 = ap length was_is ∙ length_push seats seat in
    let wide_is : length had ≡ length copies + 1 = ap length had_is ∙ length_push copies copy in
    let more : length after ≡ length passes + 1 = ap length grown ∙ length_push passes pass in
    let total = d.total in
    let same = d.same in
    let room = d.room in
    record {
      dealt = λ id board deal. dealt_more value id board (length all) seats seat copies copy passes after pass
          (subst (λ s. IsDealt value id board (length all) s (copies ++ copy ∷ []) passes) was_is
          (subst (λ h. IsDealt value id board (length all) was h passes) had_is (d.dealt id board deal))) sits number held none grown;
      total = omega arith;
      same = omega arith;
      room = omega arith;
    }

pub dealing_all : {A : Type 0} (value : A → Versioned) (all : List BoardSeat) (every : List A) (capacity : ℕ) (seats : List BoardSeat) (copies : List A) (passes : List Pass)
    → IsDealing value all every capacity seats copies passes → length seats ≡ 0 → DealsTo value all every passes
dealing_all value all every capacity seats copies passes d none = λ id board deal. dealt_all value id board (length all) seats copies passes (d.dealt id board deal) none

-- the seat that is dealt next makes a pass
pub next_of_deal : {A : Type 0} (value : A → Versioned) (all : List BoardSeat) (every : List A) (capacity : ℕ) (was seats : List BoardSeat) (seat : BoardSeat)
    (copies : List A) (passes : List Pass) (has : HasDeal value all every) → IsDealing value all every capacity was copies passes → was ≡ seats ++ seat ∷ []
    → IsNewSeat has.id (Some (foundation_of has.board)) (length all) (length passes) seat
next_of_deal value all every capacity was seats seat copies passes has d was_is =
    next_seat value has.id has.board (length all) seats seat copies passes
    (subst (λ s. IsDealt value has.id has.board (length all) s copies passes) was_is (d.dealt has.id has.board has.is))

-- and its version is the board's
pub next_value : {A : Type 0} (value : A → Versioned) (all : List BoardSeat) (every : List A) (capacity : ℕ) (seats : List BoardSeat) (had copies : List A) (copy : A)
    (passes : List Pass) (has : HasDeal value all every) → IsDealing value all every capacity seats had passes → had ≡ copies ++ copy ∷ []
    → value copy ≡ has.board.version
next_value value all every capacity seats had copies copy passes has d had_is =
    all_last (λ c. value c ≡ has.board.version) copies copy
    (subst (All (λ c. value c ≡ has.board.version)) had_is (d.dealt has.id has.board has.is).values)
