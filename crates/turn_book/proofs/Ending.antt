-- The seats of a book come together as it ends.
use Rattle.std.proofs.Common.{◌≡◌, ◌≢◌, ℕ, ◌+◌, ◌-◌, ◌<◌, List, [], ◌∷◌, ◌++◌, length, length-append, get_or, sym, refl, ap, ◌∙◌, subst, arith, ⊎_elim, Option, Some, None}
use Rattle.std.specs.List.{AllByRecursion}
use Rattle.std.proofs.lemmas.List.{get_or_append_left, get_or_push, length_push, append-nil}
use mathlib.Core.Option.{some, some-injective}
use mathlib.Core.Logic.{dite}
use native.Mathlib.Decide.{ℕ_discrete}
use lib.ListN.{get_elem?}
use Rattle.atomic_table.specs.Seated.{TableId}
use Rattle.atomic_table.specs.Table.{State, Final, Seen}
use Rattle.atomic_table.specs.declared.shared.Seat.{Seat}
use Rattle.turn_book.specs.Histories.{StartsWith, AddsNoneOf, longer_of}
use Rattle.turn_book.specs.Rule.{HasSlot, unless_spent, numbered, weight, view_of, own_list, IsNumbered, Running, Kept}
use Rattle.turn_book.specs.Steps.{AddsNoneOfOwn, Tells, own_end, either_made, met}
use Rattle.turn_book.specs.Turns.{book_of, number_of, made_of, base_of, seen_of, number_or, IsIdle}
use Rattle.turn_book.specs.Books.{AreFirstSeats, AreAllSeats}
use Rattle.turn_book.specs.Gathered.{Says, IsGathered}
use Rattle.turn_book.specs.declared.view.View.{View}
use Rattle.turn_book.specs.declared.view.Phase.TheVariants.{Idle}
use Rattle.turn_book.proofs.Lists.{total_two, each_left, each_right, each_pushed, same_place, starts_on}
use Rattle.turn_book.proofs.Keeps.{some_or, alive, lives, with_slot, weighed, there, has_number, running, tells}
use Rattle.turn_book.proofs.Joining.{first_stays, one_end}

some_weight : (number : Option ℕ) → number ≢ None → numbered number ≡ 1
some_weight None h = absurd (h refl)
some_weight (Some n) h = refl

module _ {S E B : Type 0} (list : S → List E) (base_of : S → B) (names : E → ℕ) where
  -- where one view answers for all numbers, no other view has the slot
  home_at_end : (s : State (Option S) (View E B)) (id : ℕ) (v : View E B) → Kept list base_of names s → get_elem? s.views id ≡ some v
      → v.base ≢ None → v.phase ≡ Idle → v.number ≢ None
      → v.made ≡ Some (length v.ended + 1)
      → (state : S) × (get_elem? s.homes 0 ≡ some (some (Some state))) × (v.base ≡ Some (base_of state)) × Tells names v (list state)
  home_at_end s id v kept at based idle some_number made = let r = running list base_of names s id v kept at based in let g = r.now in
      let f = r.each id v at (lives v Idle idle (alive Idle tt)) in
      let all : length v.ended + 1 ≡ g.made = (subst (Rattle.turn_book.specs.Rule.Keeps names r.base g id) made f.keeps).0 in
      let mine : weight v ≡ numbered v.number + length v.ended = ap (λ p. unless_spent p (numbered v.number + length v.ended)) idle in
      let one = some_weight v.number some_number in let most = r.seats in
      ⊎_elim
      (λ home. (
        home.0,
        ap (λ hs. get_elem? hs 0) home.1,
        f.same_base ∙ ap Some (sym home.3),
        subst (Tells names v) (sym home.2) (tells list base_of names r.base g id v r.known f),
      ))
      (λ out. let fits = r.each out.0 out.1 out.3 (with_slot out.1.phase out.4) in
      let other : id ≢ out.0 = λ same.
      (let here : out.1 ≡ v = same_place s.views id out.1 v (subst (λ k. get_elem? s.views k ≡ some out.1) (sym same) out.3) at in
      subst HasSlot (ap (λ (u : View E B). u.phase) here ∙ idle) out.4) in
      let theirs : weight out.1 ≡ numbered out.1.number + length out.1.ended =
      weighed out.1.phase (numbered out.1.number + length out.1.ended) (with_slot out.1.phase out.4) in
      let theirs_one = some_weight out.1.number (has_number names r.base g out.0 out.1.number out.1.phase (own_list out.1) fits.number out.4) in
      let both = total_two weight s.views id out.0 v out.1 other at out.3 in absurd (omega arith))
      r.slot

  pub closes : (words : List ℕ) (slots : List (Option S)) (id : ℕ) (v : View E B) → Final (Seen (Kept list base_of names) id v) words slots
      → v.base ≢ None → v.phase ≡ Idle → v.number ≢ None
      → v.made ≡ Some (length v.ended + 1)
      → (state : S) × (get_elem? slots 0 ≡ some (Some state)) × (v.base ≡ Some (base_of state)) × Tells names v (list state)
  closes words slots id v end based idle some_number made =
      let t = home_at_end end.0 id v end.1.0 end.1.1 based idle some_number made in
      (t.0, end.4 0 (Some t.0) t.1, t.2, t.3)

  -- the state that comes out of the slot
  pub closes_with : (words : List ℕ) (slots : List (Option S)) (id : ℕ) (v : View E B) (found : Option S) (result : S)
      → Final (Seen (Kept list base_of names) id v) words slots → v.base ≢ None → v.phase ≡ Idle
      → v.number ≢ None → v.made ≡ Some (length v.ended + 1)
      → get_elem? slots 0 ≡ some found → found ≡ Some result → (v.base ≡ Some (base_of result)) × Tells names v (list result)
  closes_with words slots id v found result end based idle some_number made at is =
      let t = closes words slots id v end based idle some_number made in
      let same : t.0 ≡ result = ap (some_or t.0) (some-injective (Some t.0) found (sym t.1 ∙ at) ∙ is) in
      subst (λ x. (v.base ≡ Some (base_of x)) × Tells names v (list x)) same (t.2, t.3)

module _ {E B : Type 0} (names : E → ℕ) where
  -- what two joined views say, each of them says
  says_first : (v w : View E B) (history : List E) → Says names (met v w) history → Says names v history
  says_first v w history t = (
    subst (λ own. AddsNoneOfOwn names v.number own history) (first_stays (longer_of v.seen w.seen) v.seen v.joined (w.seen ∷ [])) t.0,
    each_left (λ e. AddsNoneOf names e.number e.seen history) v.ended (w.ended ++ own_end w.number w.seen) t.1,
  )

  says_second : (v w : View E B) (n : ℕ) (history : List E) → w.number ≡ Some n → Says names (met v w) history → AddsNoneOf names n w.seen history
  says_second v w n history is t = (subst (λ k. AllByRecursion (λ e. AddsNoneOf names e.number e.seen history) (own_end k w.seen)) is
      (each_right (λ e. AddsNoneOf names e.number e.seen history) w.ended (own_end w.number w.seen)
      (each_right (λ e. AddsNoneOf names e.number e.seen history) v.ended (w.ended ++ own_end w.number w.seen) t.1))).0

module _ {S E B T : Type 0} (names : E → ℕ) (id : TableId) (seat_in : T → Seat (Option S) (View E B)) (seats : List T) (whole : AreAllSeats id seat_in seats) where
  -- a seat of the list, where it stands
  placed : (left : List T) (next : T) → StartsWith seats (left ++ next ∷ []) → (default : T) → get_or seats (length left) default ≡ next
  placed left next starts default = ap (λ xs. get_or xs (length left) default) starts.is
      ∙ (get_or_append_left (left ++ next ∷ []) starts.more default (length left) (omega (arith, length_push left next)) ∙ get_or_push left next default (length left) refl)

  inside_of : (left : List T) (next : T) → StartsWith seats (left ++ next ∷ []) → length left < length seats
  inside_of left next starts = omega (arith, ap length starts.is, length-append (left ++ next ∷ []) starts.more, length_push left next)

  drops : (left : List T) (next : T) → StartsWith seats (left ++ next ∷ []) → StartsWith seats left
  drops left next starts = starts_on seats (left ++ next ∷ []) left starts record { more = next ∷ []; is = refl }

  -- the facts of that seat
  pub idle_next : (left : List T) (next : T) → StartsWith seats (left ++ next ∷ []) → IsIdle (seat_in next)
  idle_next left next starts = subst (λ (t : T). IsIdle (seat_in t)) (placed left next starts next) (whole.first.idle (length left) next (inside_of left next starts))

  pub book_next : (left : List T) (next : T) → StartsWith seats (left ++ next ∷ []) → (seat_in next).table_id ≡ id
  book_next left next starts = subst (λ (t : T). (seat_in t).table_id ≡ id) (placed left next starts next) (whole.first.book (length left) next (inside_of left next starts))

  number_next : (left : List T) (next : T) → StartsWith seats (left ++ next ∷ []) → (seat_in next).me.0.number ≡ Some (length left)
  number_next left next starts = ap (λ (m : View E B × List (ℕ × Option S)). m.0.number) (idle_next left next starts).me
      ∙ ap Some (subst (λ (t : T). number_or (seat_in t).me.0.number ≡ length left) (placed left next starts next) (whole.first.number (length left) next (inside_of left next starts)))

  pub gathers_first : (left : List T) (last : T) (all : Seat (Option S) (View E B)) → seats ≡ left ++ last ∷ [] → all ≡ seat_in last → IsGathered names id seat_in seats left all
  gathers_first left last all is same = subst (IsGathered names id seat_in seats left) (sym same) record {
    book = book_next left last starts;
    bare = ap (λ (m : View E B × List (ℕ × Option S)). m.1) (idle_next left last starts).me;
    idle = ap (λ (m : View E B × List (ℕ × Option S)). m.0.phase) (idle_next left last starts).me;
    some_number = there (seat_in last).me.0.number (length left) (number_next left last starts);
    based = (idle_next left last starts).based;
    base_is = λ default. ap (λ (t : T). base_of (seat_in t)) (sym (last_is default));
    made = subst (λ (t : T). (seat_in t).me.0.made ≡ Some (length seats)) (last_is last) (whole.last last);
    ended = omega (arith, long, ap (λ (m : View E B × List (ℕ × Option S)). length m.0.ended) (idle_next left last starts).me);
    starts = drops left last starts;
    says = λ history t place default low high.
        (let here : place ≡ length left = omega (arith, long) in
        let own : AddsNoneOf names (length left) (own_list (seat_in last).me.0) history =
        subst (λ k. AddsNoneOfOwn names k (own_list (seat_in last).me.0) history) (number_next left last starts) t.0 in
        let seen : AddsNoneOf names (length left) (seen_of (seat_in last)) history =
        subst (λ own. AddsNoneOf names (length left) own history) (ap (λ (m : View E B × List (ℕ × Option S)). own_list m.0) (idle_next left last starts).me) own in
        let at_place : AddsNoneOf names (length left) (seen_of (seat_in (get_or seats (length left) default))) history =
        subst (λ (u : T). AddsNoneOf names (length left) (seen_of (seat_in u)) history) (sym (placed left last starts default)) seen in
        subst (λ k. AddsNoneOf names k (seen_of (seat_in (get_or seats k default))) history) (sym here) at_place);
  }
    where
      starts : StartsWith seats (left ++ last ∷ [])
      starts = record { more = []; is = is ∙ sym (append-nil (left ++ last ∷ [])) }

      long : length seats ≡ length left + 1
      long = ap length is ∙ length_push left last

      last_is : (default : T) → get_or seats (length seats - 1) default ≡ last
      last_is default = let at : length seats - 1 ≡ length left = omega (arith, long) in ap (λ k. get_or seats k default) at ∙ placed left last starts default

  pub gathers_more : (left : List T) (next : T) (all : Seat (Option S) (View E B)) (new : Seat (Option S) (View E B))
      → IsGathered names id seat_in seats (left ++ next ∷ []) all
      → new.table_id ≡ id → new.me ≡ (met all.me.0 (seat_in next).me.0, all.me.1) → IsGathered names id seat_in seats left new
  gathers_more left next all new g of is = record {
    book = of;
    bare = ap (λ (m : View E B × List (ℕ × Option S)). m.1) is ∙ g.bare;
    idle = ap (λ (m : View E B × List (ℕ × Option S)). m.0.phase) is ∙ g.idle;
    some_number = subst (λ (m : View E B × List (ℕ × Option S)). m.0.number ≢ None) (sym is) g.some_number;
    based = subst (λ (m : View E B × List (ℕ × Option S)). m.0.base ≢ None) (sym is) g.based;
    base_is = λ default. ap (λ (m : View E B × List (ℕ × Option S)). m.0.base) is ∙ g.base_is default;
    made = ap (λ (m : View E B × List (ℕ × Option S)). m.0.made) is ∙ ap (λ k. either_made k (seat_in next).me.0.made) g.made;
    ended = omega (arith, g.ended, count, length_push left next);
    starts = drops left next g.starts;
    says = λ history t place default low high.
        let both : Says names (met v w) history = subst (λ (m : View E B × List (ℕ × Option S)). Says names m.0 history) is t in
        dite (ℕ_discrete place (length left))
        (λ here. subst (λ k. AddsNoneOf names k (seen_of (seat_in (get_or seats k default))) history) (sym here)
        (subst (λ (u : T). AddsNoneOf names (length left) (seen_of (seat_in u)) history) (sym (placed left next g.starts default))
        (says_second names v w (length left) history (number_next left next g.starts) both)))
        (λ above. g.says history (says_first names v w history both) place default (omega (arith, length_push left next)) high);
  }
    where
      v : View E B
      v = all.me.0

      w : View E B
      w = (seat_in next).me.0

      count : length new.me.0.ended ≡ length all.me.0.ended + 1
      count = ap (λ (m : View E B × List (ℕ × Option S)). length m.0.ended) is
          ∙ (length-append v.ended (w.ended ++ own_end w.number w.seen)
          ∙ ap (λ n. length v.ended + n) (length-append w.ended (own_end w.number w.seen)
          ∙ (ap (λ n. length w.ended + n) (one_end w.number w.seen ∙ ap numbered (number_next left next g.starts))
          ∙ ap (λ (m : View E B × List (ℕ × Option S)). length m.0.ended + 1) (idle_next left next g.starts).me)))

-- for callers: a list of seats is built from its first one on
module _ {S E B T : Type 0} (id : TableId) (seat_in : T → Seat (Option S) (View E B)) where
  pub no_seats : (seats : List T) → length seats ≡ 0 → AreFirstSeats id seat_in seats
  no_seats seats none_there = record {
    book = λ place default inside. absurd (omega arith);
    idle = λ place default inside. absurd (omega arith);
    number = λ place default inside. absurd (omega arith);
  }

  pub next_seat : (seats : List T) (seat : T)
      → AreFirstSeats id seat_in seats → book_of (seat_in seat) ≡ id → IsIdle (seat_in seat) → number_of (seat_in seat) ≡ length seats
      → AreFirstSeats id seat_in (seats ++ seat ∷ [])
  next_seat seats seat first book idle number = record {
    book = each_pushed (λ k t. book_of (seat_in t) ≡ id) seats seat first.book book;
    idle = each_pushed (λ k t. IsIdle (seat_in t)) seats seat first.idle idle;
    number = each_pushed (λ k t. number_of (seat_in t) ≡ k) seats seat first.number number;
  }

  pub last_seat : (seats : List T) (seat : T) → AreFirstSeats id seat_in seats → book_of (seat_in seat) ≡ id → IsIdle (seat_in seat)
      → number_of (seat_in seat) ≡ length seats → made_of (seat_in seat) ≡ Some (length seats + 1)
      → AreAllSeats id seat_in (seats ++ seat ∷ [])
  last_seat seats seat first book idle number made = let long = length_push seats seat in record {
    some = omega arith;
    first = next_seat seats seat first book idle number;
    last = λ default. let at : length (seats ++ seat ∷ []) - 1 ≡ length seats = omega arith in
        ap (λ (t : T). made_of (seat_in t)) (ap (λ k. get_or (seats ++ seat ∷ []) k default) at ∙ get_or_push seats seat default (length seats) refl) ∙ (made ∙ ap Some (sym long));
  }

  -- and taken apart from its last one on
  pub seat_off : (seats : List T) (seat : T) → AreFirstSeats id seat_in (seats ++ seat ∷ [])
      → AreFirstSeats id seat_in seats × (book_of (seat_in seat) ≡ id) × IsIdle (seat_in seat) × (number_of (seat_in seat) ≡ length seats)
  seat_off seats seat first = (
    record {
      book = before (λ k t. book_of (seat_in t) ≡ id) first.book;
      idle = before (λ k t. IsIdle (seat_in t)) first.idle;
      number = before (λ k t. number_of (seat_in t) ≡ k) first.number;
    },
    at_end_of (λ k t. book_of (seat_in t) ≡ id) first.book,
    at_end_of (λ k t. IsIdle (seat_in t)) first.idle,
    at_end_of (λ k t. number_of (seat_in t) ≡ k) first.number,
  )
    where
      before : (P : ℕ → T → Type 0)
          → ((place : ℕ) (default : T) → place < length (seats ++ seat ∷ []) → P place (get_or (seats ++ seat ∷ []) place default))
          → (place : ℕ) (default : T) → place < length seats → P place (get_or seats place default)
      before P all place default inside = subst (P place) (get_or_append_left seats (seat ∷ []) default place inside) (all place default (omega (arith, length_push seats seat)))

      at_end_of : (P : ℕ → T → Type 0)
          → ((place : ℕ) (default : T) → place < length (seats ++ seat ∷ []) → P place (get_or (seats ++ seat ∷ []) place default))
          → P (length seats) seat
      at_end_of P all = subst (P (length seats)) (get_or_push seats seat seat (length seats) refl) (all (length seats) seat (omega (arith, length_push seats seat)))
