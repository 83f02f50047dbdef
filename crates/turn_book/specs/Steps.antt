-- What each atomic step tells the seat that makes it: of the step, what the seat was, the word that was found and what the
-- seat is then.
use Rattle.std.specs.Prelude.{◌≡◌, ◌≢◌, ℕ, ◌+◌, ◌%◌, ◌^◌, ◌<◌, List, [], ◌∷◌, ◌++◌, length, Option, Some, None}
use Rattle.std.specs.List.{AllByRecursion}
use Rattle.atomic_table.specs.Table.{Me, Step, rest}
use Rattle.turn_book.specs.Histories.{StartsWith, AddsNoneOf, longer_of}
use Rattle.turn_book.specs.Rule.{view_of, own_list, newcomer}
use Rattle.turn_book.specs.declared.view.Ended.{Ended}
use Rattle.turn_book.specs.declared.view.View.{View}
use Rattle.turn_book.specs.declared.view.Phase.TheVariants.{Idle, Waiting, Served, Done, Spent}

module _ {E : Type 0} (names : E → ℕ) where
  -- none of what the history adds is the seat's own
  abbrev pub AddsNoneOfOwn : Option ℕ → List E → List E → Type 0
  AddsNoneOfOwn None own history = Unit {0}
  AddsNoneOfOwn (Some n) own history = AddsNoneOf names n own history

-- what a view knows of the history once it has seen it
pub record Tells {E B : Type 0} (names : E → ℕ) (v : View E B) (history : List E) : Type 0 where
  pub seen : StartsWith history v.seen
  pub own : AddsNoneOfOwn names v.number (own_list v) history
  pub joined : AllByRecursion (StartsWith history) v.joined
  pub ended : AllByRecursion (λ e. AddsNoneOf names e.number e.seen history) v.ended
  pub known : (n : ℕ) → v.made ≡ Some n → AllByRecursion (λ e. names e < n) history

module _ {S E B : Type 0} where
  -- the empty slot goes out to the first seat
  abbrev pub opened : Step (Option S) → Me (Option S) (View E B) → ℕ → Me (Option S) (View E B) → Type 0
  opened st m n m' = m' ≡ (newcomer (Served 0), (0, None) ∷ m.1)

  -- the slot comes home with a state, and there is one seat
  abbrev pub founded : (S → B) → Step (Option S) → Me (Option S) (View E B) → ℕ → Me (Option S) (View E B) → Type 0
  founded base_of st m n m' = (state : S) → m.1 ≡ (0, Some state) ∷ rest m.1
      → m' ≡ (view_of (Some 0) Idle [] 0 (Some (base_of state)) (Some 1), rest m.1)

  -- the number found is the ticket
  abbrev pub drew : Step (Option S) → Me (Option S) (View E B) → ℕ → Me (Option S) (View E B) → Type 0
  drew st m n m' = (t : ℕ) × (n ≡ t % 2 ^ 64) × (m' ≡ (record m.0 { phase = Waiting t }, m.1))

  module _ (list : S → List E) (base_of : S → B) (names : E → ℕ) where
    -- the slot goes out to the seat, which has then seen the history
    abbrev pub Enters : Me (Option S) (View E B) → ℕ → Me (Option S) (View E B) → Type 0
    Enters m t m' = (state : S)
        × (m' ≡ (record m.0 { phase = Served t; seen = list state; looks = m.0.looks + 1; joined = [] }, (0, Some state) ∷ m.1))
        × (m.0.base ≡ Some (base_of state)) × Tells names m.0 (list state)

    -- the lock serves the ticket, or the seat goes on waiting
    abbrev pub served : Step (Option S) → Me (Option S) (View E B) → ℕ → Me (Option S) (View E B) → Type 0
    served st m n m' = (t : ℕ) → m.0.phase ≡ Waiting t → (n ≡ t % 2 ^ 64 → Enters m t m') × (n ≢ t % 2 ^ 64 → m' ≡ m)

  -- the history is then what the state in the slot stands for
  abbrev pub committed : (S → List E) → Step (Option S) → Me (Option S) (View E B) → ℕ → Me (Option S) (View E B) → Type 0
  committed list st m n m' = (state : S) → m.1 ≡ (0, Some state) ∷ rest m.1 → (t : ℕ) → m.0.phase ≡ Served t
      → m' ≡ (record m.0 { phase = Done t; seen = list state }, m.1)

  -- the slot comes home
  abbrev pub passed_on : Step (Option S) → Me (Option S) (View E B) → ℕ → Me (Option S) (View E B) → Type 0
  passed_on st m n m' = m' ≡ (record m.0 { phase = Idle }, rest m.1)

  -- the number found is the length of the history, which the seat has then seen
  abbrev pub counted : (E → ℕ) → Step (Option S) → Me (Option S) (View E B) → ℕ → Me (Option S) (View E B) → Type 0
  counted names st m n m' = (history : List E) × (n ≡ length history)
      × (m' ≡ (record m.0 { seen = history; looks = m.0.looks + 1; joined = [] }, m.1)) × Tells names m.0 history

  -- what was joined is told, and forgotten
  abbrev pub learnt : (E → ℕ) → Step (Option S) → Me (Option S) (View E B) → ℕ → Me (Option S) (View E B) → Type 0
  learnt names st m n m' = (m' ≡ (record m.0 { joined = [] }, m.1)) × Tells names m.0 m.0.seen

-- one more, where there is a number
abbrev pub one_more : Option ℕ → Option ℕ
one_more None = None
one_more (Some n) = Some (n + 1)

-- the first of two that is there
abbrev pub either_made : Option ℕ → Option ℕ → Option ℕ
either_made None m = m
either_made (Some n) m = Some n

-- a seat that ends, with what it had seen; a note leaves nothing
abbrev pub own_end : {E : Type 0} → Option ℕ → List E → List (Ended E)
own_end None seen = []
own_end (Some n) seen = (record { number = n; seen = seen }) ∷ []

module _ {E B : Type 0} where
  abbrev pub same_view : View E B → View E B
  same_view v = v

  -- a snapshot of what was seen, with no number
  abbrev pub note_of : View E B → View E B
  note_of v = view_of None Idle v.seen 0 v.base None

  -- the seat before the next one no longer knows how many there are
  abbrev pub hands_on : View E B → View E B
  hands_on v = record v { made = None }

  -- the next seat, which knows it
  abbrev pub next_of : View E B → View E B
  next_of v = view_of v.made Idle v.seen 0 v.base (one_more v.made)

  -- a view that has taken in another
  abbrev pub met : View E B → View E B → View E B
  met v w = record v {
    seen = longer_of v.seen w.seen;
    joined = v.joined ++ v.seen ∷ w.seen ∷ [];
    ended = v.ended ++ (w.ended ++ own_end w.number w.seen);
    made = either_made v.made w.made;
  }

  abbrev pub spent : View E B
  spent = view_of None Spent [] 0 None None
