-- What holds of a search under way, over a version and its live map. Nothing is said of the queue.
use Rattle.std.specs.Prelude.{◌≡◌, ◌≢◌, ◌⊎◌, ℕ, ◌+◌, ◌/◌, ◌%◌, ◌<◌, ◌≤◌, false, List}
use Rattle.root_cost.specs.Keys.{key_of, step_key}
use Rattle.moves.specs.declared.Cell.{Cell}
use Rattle.moves.specs.declared.Move.{Move}
use Rattle.moves.specs.declared.TheConstants.{MAX_PASSABLE}
use Rattle.moves.specs.Maps.{Map, place_of}
use Rattle.moves.specs.Moves.{IsLegal, is_diagonal, number_of}
use Rattle.moves.specs.Paths.{Leads, cost_of}
use Rattle.versions.specs.Databases.{Versioned}
use Rattle.versions.specs.Answers.{IsWalk}
use Rattle.path_image.specs.Answers.{IsHomeOf}
use Rattle.path_image.specs.Images.{IsImageOf}
use Rattle.path_image.specs.Reading.{StandsIn, cell_of_word, size_at, start_in, width_in}
use Rattle.live_maps.specs.Live.{is_marked, live_map}
use Rattle.live_maps.specs.Told.{Living}
use Rattle.live_search.specs.declared.TheConstants.{NEVER}
use Rattle.live_search.specs.declared.seeking.Seek.{Seek}
use Rattle.live_search.specs.State.{IsListed, cell_in, cost_in, from_in, mark_in, told_in}

-- what is sought stands inside the image: the goal in its component, whose cells are so many, and the start there too
pub record IsSought (live : Living) (seek : Seek) : Type 0 where
  pub goal : StandsIn live.words seek.goal.label seek.goal.place
  pub first : seek.first < seek.size
  pub size : seek.size ≡ size_at live.words (start_in live.words seek.goal.label)
  pub few : seek.size ≤ MAX_PASSABLE

-- over a version, these are the two ends, and no bit is set at them
pub record IsAbout (version : Versioned) (live : Living) (seek : Seek) (start goal : Cell) : Type 0 where
  pub image : IsImageOf live.words version
  pub from : IsHomeOf version start seek.goal.label seek.first
  pub to : IsHomeOf version goal seek.goal.label seek.goal.place
  pub leaves : is_marked live.bits (place_of (width_in live.words) start) ≡ false
  pub arrives : is_marked live.bits (place_of (width_in live.words) goal) ≡ false

-- the live map
abbrev pub now : Versioned → Living → Map
now version live = live_map version.map live.bits

-- the cell of a place that is known
abbrev pub at : List ℕ → Seek → ℕ → Cell
at state seek place = cell_of_word (cell_in state seek.size place)

-- The walk of the version from a cell has this key, half of the number; where the number is odd, and no bit is set at the
-- cell, it is a path of the live map.
pub record IsTold (version : Versioned) (live : Living) (goal cell : Cell) (told : ℕ) : Type 0 where
  pub moves : List Move
  pub walk : IsWalk version.map version.comps cell goal moves
  pub key : told / 2 ≡ key_of (cost_of moves)
  pub free : told % 2 ≡ 1 → is_marked live.bits (place_of (width_in live.words) cell) ≡ false → Leads (now version live) cell moves goal

-- the place was reached from another that is known, by a move of the live map, and costs at least as much more
pub record IsBehind (version : Versioned) (live : Living) (seek : Seek) (state : List ℕ) (place : ℕ) : Type 0 where
  pub move : Move
  pub number : number_of move ≡ from_in state seek.size place % 8
  pub within : from_in state seek.size place / 8 < seek.size
  pub known : mark_in state (from_in state seek.size place / 8) ≢ 0
  pub legal : IsLegal (now version live) (at state seek (from_in state seek.size place / 8)) move (at state seek place)
  pub dearer : cost_in state seek.size (from_in state seek.size place / 8) + step_key (is_diagonal move) ≤ cost_in state seek.size place

-- a cell is known, and costs no more than that
pub record IsReachedFor (seek : Seek) (state : List ℕ) (to : Cell) (cost : ℕ) : Type 0 where
  pub place : ℕ
  pub within : place < seek.size
  pub known : mark_in state place ≢ 0
  pub there : at state seek place ≡ to
  pub cheap : cost_in state seek.size place ≤ cost

-- each legal move from the cell on the live map leads to a cell that costs at most one step more
abbrev pub AreRelaxed : Versioned → Living → Seek → List ℕ → Cell → ℕ → Type 0
AreRelaxed version live seek state from cost =
    (move : Move) (to : Cell) → IsLegal (now version live) from move to → IsReachedFor seek state to (cost + step_key (is_diagonal move))

-- What holds of each place that is known: its cell, what is told from it, what reached it and, where it is closed, that all its
-- moves were looked at. The two ends are known. NEVER stands where no path was found.
pub record IsSound (version : Versioned) (live : Living) (seek : Seek) (start goal : Cell) (state : List ℕ) : Type 0 where
  pub cells : (place : ℕ) → place < seek.size → mark_in state place ≢ 0 → IsHomeOf version (at state seek place) seek.goal.label place
  pub told : (place : ℕ) → place < seek.size → mark_in state place ≢ 0
      → IsTold version live goal (at state seek place) (told_in state seek.size place)
  pub costs : (place : ℕ) → place < seek.size → mark_in state place ≢ 0 → cost_in state seek.size place ≤ NEVER
  pub reached : (place : ℕ) → place < seek.size → mark_in state place ≢ 0 → cost_in state seek.size place < NEVER
      → (place ≡ seek.first) ⊎ IsBehind version live seek state place
  pub closed : (place : ℕ) → place < seek.size → mark_in state place ≡ 2
      → AreRelaxed version live seek state (at state seek place) (cost_in state seek.size place)
  pub goal_known : mark_in state seek.goal.place ≢ 0
  pub listed : IsListed seek.size state

-- and the search has begun: it costs nothing to come to the start
pub record IsBegun (seek : Seek) (state : List ℕ) : Type 0 where
  pub known : mark_in state seek.first ≢ 0
  pub nothing : cost_in state seek.size seek.first ≡ 0
