-- The rule of a ticket lock whose state stands for a list of entries, the history.
-- (Reed and Kanodia 1979; Mellor-Crummey and Scott 1991)
--
-- A seat draws a ticket by a fetch-and-add, waits until the lock serves that number, takes the state out of its slot, may add
-- one entry, puts the state back and passes the lock on by a fetch-and-add. What a seat knows is its view. The rule says how
-- the three words, the slot and all views fit together between any two atomic steps.
use Rattle.std.specs.Prelude.{◌≡◌, ◌≢◌, ◌⊎◌, ℕ, ◌+◌, ◌%◌, ◌^◌, ◌<◌, ◌≤◌, List, [], ◌∷◌, length, Option, Some, None}
use Rattle.std.specs.List.{AllByRecursion}
use mathlib.Core.Option.{some, none}
use mathlib.Core.Option as maybe
use lib.ListN.{get_elem?}
use Rattle.atomic_table.specs.Table.{State}
use Rattle.turn_book.specs.Histories.{total, StartsWith, AddsNoneOf, first_or}
use Rattle.turn_book.specs.declared.view.Ended.{Ended}
use Rattle.turn_book.specs.declared.view.View.{View}
use Rattle.turn_book.specs.declared.view.Phase.{Phase}
use Rattle.turn_book.specs.declared.view.Phase.TheVariants.{Idle, Waiting, Served, Done, Spent}

-- 1 from the draw of a ticket until the turn is passed on
abbrev pub queued : Phase → ℕ
queued Idle = 0
queued (Waiting t) = 1
queued (Served t) = 1
queued (Done t) = 1
queued Spent = 0

-- the slot is out with this seat
abbrev pub HasSlot : Phase → Type 0
HasSlot Idle = ⊥
HasSlot (Waiting t) = ⊥
HasSlot (Served t) = Unit {0}
HasSlot (Done t) = Unit {0}
HasSlot Spent = ⊥

-- a view that was joined to another counts for nothing
abbrev pub unless_spent : Phase → ℕ → ℕ
unless_spent Idle n = n
unless_spent (Waiting t) n = n
unless_spent (Served t) n = n
unless_spent (Done t) n = n
unless_spent Spent n = 0

-- 1 for a seat, 0 for a note
abbrev pub numbered : Option ℕ → ℕ
numbered None = 0
numbered (Some n) = 1

module _ {E B : Type 0} where
  abbrev pub in_queue : View E B → ℕ
  in_queue v = queued v.phase

  -- how many numbers of seats the view answers for: its own and those of the seats that were joined to it
  abbrev pub weight : View E B → ℕ
  weight v = unless_spent v.phase (numbered v.number + length v.ended)

  -- a view with nothing joined to it
  abbrev pub view_of : Option ℕ → Phase → List E → ℕ → Option B → Option ℕ → View E B
  view_of number phase seen looks base made = record {
    number = number;
    phase = phase;
    seen = seen;
    looks = looks;
    joined = [];
    ended = [];
    base = base;
    made = made;
  }

  -- what the seat itself had seen, whatever was joined to it since
  abbrev pub own_list : View E B → List E
  own_list v = first_or v.seen v.joined

-- What no word of the lock tells: the history, how many tickets were drawn and how many turns were passed on, without the
-- remainders of the words, the view that drew each ticket, how many seats were made, the view that has each number of a seat,
-- and the view that knows how many there are.
pub record Ledger (E : Type 0) : Type 0 where
  pub history : List E
  pub drawn : ℕ
  pub passed : ℕ
  pub by : ℕ → ℕ
  pub made : ℕ
  pub owner : ℕ → ℕ
  pub keeper : ℕ

module _ {E B : Type 0} (names : E → ℕ) (base : B) (g : Ledger E) (id : ℕ) where
  -- a ticket is one of those that were drawn and not passed on, and one view's alone; a seat that is served has seen all
  abbrev pub Stands : List E → Phase → Type 0
  Stands seen Idle = Unit {0}
  Stands seen (Waiting t) = (g.passed ≤ t) × (t < g.drawn) × (g.by t ≡ id)
  Stands seen (Served t) = (t ≡ g.passed) × (t < g.drawn) × (g.by t ≡ id) × (seen ≡ g.history)
  Stands seen (Done t) = (t ≡ g.passed) × (t < g.drawn) × (g.by t ≡ id) × (seen ≡ g.history)
  Stands seen Spent = Unit {0}

  -- the number is this view's alone, and no entry past what was seen names it
  abbrev pub HasNumber : ℕ → List E → Type 0
  HasNumber n seen = (n < g.made) × (g.owner n ≡ id) × AddsNoneOf names n seen g.history

  -- a note has no number, and draws no ticket
  abbrev pub IsNumbered : Option ℕ → Phase → List E → Type 0
  IsNumbered None phase seen = phase ≡ Idle
  IsNumbered (Some n) phase seen = HasNumber n seen

  abbrev pub HasEnded : Option ℕ → List E → Ended E → Type 0
  HasEnded number seen e = HasNumber e.number e.seen × StartsWith seen e.seen × (number ≢ Some e.number)

  abbrev pub Keeps : Option ℕ → Type 0
  Keeps None = Unit {0}
  Keeps (Some n) = (n ≡ g.made) × (g.keeper ≡ id)

  -- what holds of each view
  pub record Fits (v : View E B) : Type 0 where
    pub seen : StartsWith g.history v.seen
    pub same_base : v.base ≡ Some base
    pub number : IsNumbered v.number v.phase (own_list v)
    pub joined : AllByRecursion (StartsWith v.seen) v.joined
    pub ended : AllByRecursion (HasEnded v.number v.seen) v.ended
    pub keeps : Keeps v.made
    pub stands : Stands v.seen v.phase

module _ {S E B : Type 0} (list : S → List E) (base_of : S → B) (base : B) (s : State (Option S) (View E B)) where
  -- the slot has a state that stands for the history, and no seat is served
  abbrev pub AtHome : List E → Type 0
  AtHome history = (state : S) × (s.homes ≡ some (Some state) ∷ []) × (list state ≡ history) × (base_of state ≡ base)
      × ((id : ℕ) (v : View E B) → get_elem? s.views id ≡ some v → ¬ HasSlot v.phase)

  -- the slot is out with a seat that is served
  abbrev pub Out : Type 0
  Out = (id : ℕ) × (v : View E B) × (s.homes ≡ none ∷ []) × (get_elem? s.views id ≡ some v) × HasSlot v.phase

module _ {S E B : Type 0} (list : S → List E) (base_of : S → B) (names : E → ℕ) where
  -- the rule once there is a state
  pub record Running (s : State (Option S) (View E B)) : Type 0 where
    pub base : B
    pub now : Ledger E
    pub words : s.words ≡ now.drawn % 2 ^ 64 ∷ now.passed % 2 ^ 64 ∷ length now.history ∷ []
    pub queue : now.passed + total in_queue s.views ≡ now.drawn
    pub seats : total weight s.views ≤ now.made
    pub some_made : 0 < now.made
    pub few : now.made < 2 ^ 63
    pub known : AllByRecursion (λ e. names e < now.made) now.history
    pub each : (id : ℕ) (v : View E B) → get_elem? s.views id ≡ some v → v.phase ≢ Spent → Fits names base now id v
    pub slot : AtHome list base_of base s now.history ⊎ Out list base_of base s

-- the first view, before and while it puts the state into the slot
abbrev pub newcomer : {E B : Type 0} → Phase → View E B
newcomer phase = view_of (Some 0) phase [] 0 None (Some 0)

-- the lock with that view alone
abbrev pub empty_lock : {S E B : Type 0} → maybe.Option (Option S) → Phase → State (Option S) (View E B)
empty_lock home phase = record { words = 0 ∷ 0 ∷ 0 ∷ []; homes = home ∷ []; views = newcomer phase ∷ [] }

-- The rule: the slot is still empty, or it is out with the first seat, which fills it, or there is a state
abbrev pub Kept : {S E B : Type 0} → (S → List E) → (S → B) → (E → ℕ) → State (Option S) (View E B) → Type 0
Kept list base_of names s = (s ≡ empty_lock (some None) Idle) ⊎ ((s ≡ empty_lock none (Served 0)) ⊎ Running list base_of names s)
