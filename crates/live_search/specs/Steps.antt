-- What the steps of a search do, over each version whose image the words are.
use Rattle.std.specs.Prelude.{◌≡◌, ◌≢◌, ℕ, zero, suc, ◌+◌, ◌*◌, ◌/◌, ◌%◌, ◌^◌, ◌<◌, ◌≤◌, ◌==◌, Bool, true, false, List, ◌∷◌, length, slice_index, if◌then◌else◌, Option, Some, None}
use Rattle.root_cost.specs.Keys.{step_key}
use Rattle.moves.specs.declared.Cell.{Cell}
use Rattle.moves.specs.declared.Move.{Move}
use Rattle.moves.specs.Maps.{place_of}
use Rattle.moves.specs.Moves.{IsLegal, IsTarget, is_diagonal, number_of}
use Rattle.versions.specs.Databases.{Versioned}
use Rattle.versions.specs.Answers.{IsWalk}
use Rattle.path_image.specs.declared.walking.Walk.{Walk}
use Rattle.path_image.specs.Answers.{IsHomeOf}
use Rattle.path_image.specs.Reading.{cell_of_word, width_in}
use Rattle.path_image.specs.Walks.{IsAhead}
use Rattle.live_maps.specs.Live.{is_marked}
use Rattle.live_maps.specs.Told.{Living}
use Rattle.live_search.specs.declared.expanding.Leg.{Leg}
use Rattle.live_search.specs.declared.expanding.Look.{Look}
use Rattle.live_search.specs.declared.noting.Followed.{Followed}
use Rattle.live_search.specs.declared.seeking.Seek.{Seek}
use Rattle.live_search.specs.Sound.{IsAbout, IsReachedFor, IsSound, at, now}
use Rattle.live_search.specs.declared.TheConstants.{NEVER}
use Rattle.live_search.specs.State.{Grows, IsSameLinks, IsSameList, IsSameState, cost_in, link_cell_in, link_in, mark_in}

-- ---- what is told

-- a step as a word: sixteen times the place, twice the number of the move, and one more where it is free
abbrev pub link_of : ℕ → Move → Bool → ℕ
link_of place by free = place * 16 + number_of by * 2 + (if free then 1 else 0)

-- what is told from where a step begins: its key and the other, and free where both are
abbrev pub told_before : ℕ → ℕ → ℕ
told_before told link =
    ((told / 2 + step_key (link / 2 % 2 == 1)) % 2 ^ 32 * 2 % 2 ^ 32 + told % 2 * (link % 2)) % 2 ^ 32

-- the cell has no bit
abbrev pub HasNoBit : Living → Cell → Type 0
HasNoBit live cell = is_marked live.bits (place_of (width_in live.words) cell) ≡ false

-- a step, as a word and with the word of the cell where it begins, begins a walk of the version to the goal and leads to that cell
pub record IsLink (version : Versioned) (live : Living) (seek : Seek) (goal : Cell) (link word : ℕ) (next : Cell) : Type 0 where
  pub move : Move
  pub rest : List Move
  pub number : number_of move ≡ link / 2 % 8
  pub within : link / 16 < seek.size
  pub home : IsHomeOf version (cell_of_word word) seek.goal.label (link / 16)
  pub walk : IsWalk version.map version.comps (cell_of_word word) goal (move ∷ rest)
  pub target : IsTarget (cell_of_word word) move next
  pub free : link % 2 ≡ 1 → HasNoBit live (cell_of_word word) → IsLegal (now version live) (cell_of_word word) move next

-- the first steps of the list lead from one cell to another, one after the other
abbrev pub IsChain : Versioned → Living → Seek → Cell → List ℕ → Cell → ℕ → Cell → Type 0
IsChain version live seek goal state first zero next = first ≡ next
IsChain version live seek goal state first (suc index) next =
    IsLink version live seek goal (link_in state seek.size index) (link_cell_in state seek.size index) next
    × IsChain version live seek goal state first index (cell_of_word (link_cell_in state seek.size index))

-- the steps lead from where the walk stood to the cell of a place that is known
pub record IsFollowedTo (version : Versioned) (live : Living) (seek : Seek) (goal first : Cell) (state : List ℕ) (steps known : ℕ) : Type 0 where
  pub to : Cell
  pub home : IsHomeOf version to seek.goal.label known
  pub marked : mark_in state known ≢ 0
  pub chain : IsChain version live seek goal state first steps to

abbrev pub IsFollowedFor : Versioned → Living → Seek → Cell → Cell → List ℕ → Option Followed → Type 0
IsFollowedFor version live seek goal first state None = ⊥
IsFollowedFor version live seek goal first state (Some found) = IsFollowedTo version live seek goal first state found.steps found.known

-- a walk to the goal is followed to a place that is known; nothing is new but the steps
pub record Follows (live : Living) (seek : Seek) (old new : List ℕ) (walk : Walk) (found : Option Followed) : Type 0 where
  pub same : IsSameState seek.size old new
  pub listed : IsSameList seek.size old new
  pub over : (version : Versioned) (start goal : Cell) → IsAbout version live seek start goal → mark_in old seek.goal.place ≢ 0
      → (moves : List Move) → IsAhead live.words version walk moves → walk.goal ≡ seek.goal.place
      → IsFollowedFor version live seek goal walk.at new found

-- the search stays sound, and knows what it knew
pub record GoesOn (version : Versioned) (live : Living) (seek : Seek) (start goal : Cell) (old new : List ℕ) : Type 0 where
  pub sound : IsSound version live seek start goal new
  pub grows : Grows seek.size old new

-- the place where a step begins becomes known, behind one that is known
pub record StepsBack (seek : Seek) (old new : List ℕ) (step next place : ℕ) : Type 0 where
  pub within : place < seek.size
  pub links : IsSameLinks seek.size old new
  pub over : (version : Versioned) (live : Living) (start goal : Cell) → IsAbout version live seek start goal → IsSound version live seek start goal old
      → mark_in old next ≢ 0 → IsLink version live seek goal (link_in old seek.size step) (link_cell_in old seek.size step) (at old seek next)
      → GoesOn version live seek start goal old new × (mark_in new place ≢ 0)
      × (at new seek place ≡ cell_of_word (link_cell_in old seek.size step))

-- the places of the steps become known
abbrev pub KnowsAll : Seek → List ℕ → List ℕ → Followed → Type 0
KnowsAll seek old new found =
    (version : Versioned) (live : Living) (start goal first : Cell) → IsAbout version live seek start goal → IsSound version live seek start goal old
    → IsFollowedTo version live seek goal first old found.steps found.known
    → GoesOn version live seek start goal old new × IsReachedFor seek new first NEVER

-- the place of a cell becomes known
pub record Notes (live : Living) (seek : Seek) (old new : List ℕ) (cell : Cell) (place : ℕ) (done : Bool) : Type 0 where
  pub over : (version : Versioned) (start goal : Cell) → IsAbout version live seek start goal → IsSound version live seek start goal old
      → IsHomeOf version cell seek.goal.label place
      → (done ≡ true) × GoesOn version live seek start goal old new × (mark_in new place ≢ 0)

-- ---- moves that are looked at

-- the place that a move leads to, where no bit is set; and where there is none, a number above each place
pub record IsPlaceBehind (live : Living) (seek : Seek) (cell : Cell) (by : Move) (place : ℕ) : Type 0 where
  pub some : place < seek.size → (version : Versioned) (start goal : Cell) → IsAbout version live seek start goal
      → (to : Cell) × IsTarget cell by to × IsHomeOf version to seek.goal.label place × HasNoBit live to
  pub none : seek.size ≤ place → (version : Versioned) (start goal : Cell) → IsAbout version live seek start goal
      → (to : Cell) (there : ℕ) → IsTarget cell by to → IsHomeOf version to seek.goal.label there → HasNoBit live to → ⊥

-- the places around a cell, in the order of the moves
pub record IsRound (live : Living) (seek : Seek) (cell : Cell) (near : List ℕ) : Type 0 where
  pub whole : length near ≡ 8
  pub each : (by : Move) → IsPlaceBehind live seek cell by (slice_index near (number_of by))

-- the two cells beside a diagonal move are among them
abbrev pub HasCorners : List ℕ → ℕ → ℕ → Type 0
HasCorners near size number =
    number % 2 ≡ 1 → (slice_index near ((number + 1) % 8) < size) × (slice_index near ((number + 7) % 8) < size)

-- the step leads from a place that is known and costs no more than that, by a move of the live map
pub record IsLegFor (version : Versioned) (live : Living) (seek : Seek) (state : List ℕ) (leg : Leg) : Type 0 where
  pub known : mark_in state leg.place ≢ 0
  pub from : at state seek leg.place ≡ leg.cell
  pub cheap : cost_in state seek.size leg.place ≤ leg.cost
  pub most : leg.cost < NEVER
  pub next : Cell
  pub legal : IsLegal (now version live) leg.cell leg.by next
  pub home : IsHomeOf version next seek.goal.label leg.to

-- where a step leads is known
pub record NotesStep (live : Living) (seek : Seek) (old new : List ℕ) (leg : Leg) (done : Bool) : Type 0 where
  pub over : (version : Versioned) (start goal : Cell) → IsAbout version live seek start goal → IsSound version live seek start goal old
      → IsLegFor version live seek old leg → (done ≡ true) × GoesOn version live seek start goal old new × (mark_in new leg.to ≢ 0)

-- a step is looked at: where it leads costs no more than this way now
pub record Reaches (live : Living) (seek : Seek) (old new : List ℕ) (leg : Leg) (done : Bool) : Type 0 where
  pub over : (version : Versioned) (start goal : Cell) → IsAbout version live seek start goal → IsSound version live seek start goal old
      → (leg_for : IsLegFor version live seek old leg)
      → (done ≡ true) × GoesOn version live seek start goal old new
      × IsReachedFor seek new leg_for.next (leg.cost + step_key (is_diagonal leg.by))

-- so far the moves below a number were looked at
pub record IsLookedAt (live : Living) (seek : Seek) (old state : List ℕ) (place : ℕ) (cell : Cell) (cost number : ℕ) : Type 0 where
  pub over : (version : Versioned) (start goal : Cell) → IsAbout version live seek start goal → IsSound version live seek start goal old
      → mark_in old place ≢ 0 → cost_in old seek.size place < NEVER
      → GoesOn version live seek start goal old state
      × ((move : Move) (to : Cell) → number_of move < number → IsLegal (now version live) cell move to
      → IsReachedFor seek state to (cost + step_key (is_diagonal move)))

-- a move is looked at, so that one more was
pub record LooksAlong (live : Living) (seek : Seek) (old new near : List ℕ) (look : Look) (done : Bool) : Type 0 where
  pub over : (first : List ℕ) → IsLookedAt live seek first old look.place look.cell look.cost look.number → look.place < seek.size
      → look.cell ≡ at first seek look.place → look.cost ≡ cost_in first seek.size look.place → IsRound live seek look.cell near
      → ((version : Versioned) (start goal : Cell) → IsAbout version live seek start goal → IsSound version live seek start goal first
      → mark_in first look.place ≢ 0 → cost_in first seek.size look.place < NEVER → done ≡ true)
      × (done ≡ true → IsLookedAt live seek first new look.place look.cell look.cost (look.number + 1))

-- all moves of a place are looked at; the search stays sound
pub record Expands (live : Living) (seek : Seek) (old new : List ℕ) (place : ℕ) (done : Bool) : Type 0 where
  pub over : (version : Versioned) (start goal : Cell) → IsAbout version live seek start goal → IsSound version live seek start goal old
      → mark_in old place ≢ 0 → cost_in old seek.size place < NEVER
      → (done ≡ true) × GoesOn version live seek start goal old new
