-- The two queues of a search. A search settles cells by rising key, so the keys that it reaches by straight steps rise
-- too, and so do those by diagonal steps: each of the two queues is in order by itself.
use Rattle.std.specs.Prelude.{◌≡◌, ℕ, ◌+◌, ◌*◌, ◌<◌, ◌≤◌, ◌⊎◌, List, [], ◌∷◌, ◌++◌}
use Rattle.std.specs.Prelude.{length, slice_index_or, slice_set, replicate, All, AllPairs, Contains}
use Rattle.moves.specs.declared.Cell.{Cell}
use Rattle.moves.specs.declared.Move.{Move}
use Rattle.moves.specs.Maps.{Map, IsInside, IsPassable, passable_count, place_of}
use Rattle.grid_search.specs.declared.queue.Waiting.{Waiting}
use Rattle.grid_search.specs.Keys.{key_at}
use Rattle.grid_search.specs.Settling.{IsReached, IsRelaxed}
use Rattle.root_cost.specs.declared.TheConstants.{NO_KEY, STRAIGHT_KEY, DIAGONAL_KEY, GREATEST_KEY}

-- a queue: the number of entries it has room for, all entries pushed, and how many of those were taken
pub record Pushes : Type 0 where
  pub room : ℕ
  pub pushed : List Waiting
  pub taken : ℕ

-- the entry is the first one not taken
abbrev pub IsFirst : Pushes → Waiting → Type 0
IsFirst queue entry = (queue.taken < length queue.pushed) × (slice_index_or queue.pushed queue.taken entry ≡ entry)

-- that is the key of the first entry not taken, if there is one
abbrev pub FirstHasKey : Pushes → ℕ → Type 0
FirstHasKey queue key = (entry : Waiting) → IsFirst queue entry → key ≡ entry.key

-- the entry was pushed but not taken
abbrev pub IsLeft : Pushes → Waiting → Type 0
IsLeft queue entry = (k : ℕ) × (queue.taken ≤ k) × (k < length queue.pushed)
    × (slice_index_or queue.pushed k entry ≡ entry)

-- one entry more, one entry taken
abbrev pub push_to : Pushes → Waiting → Pushes
push_to queue entry = record queue { pushed = queue.pushed ++ entry ∷ [] }

abbrev pub rest_of : Pushes → Pushes
rest_of queue = record queue { taken = queue.taken + 1 }

-- the first entry not taken is taken
abbrev pub TakesFirst : Pushes → Waiting → Pushes → Type 0
TakesFirst before entry after = IsFirst before entry × (after ≡ rest_of before)

-- all entries were taken
abbrev pub HasNoneLeft : Pushes → Type 0
HasNoneLeft queue = length queue.pushed ≤ queue.taken

-- all these entries have a key
abbrev pub AreFound : List Waiting → Type 0
AreFound entries = All (λ entry. entry.key < NO_KEY) entries

-- a queue with that much room and nothing in it
abbrev pub empty_with : ℕ → Pushes
empty_with room = record { room = room; pushed = []; taken = 0 }

-- The entry was taken from one queue, where it was the first, and the first of the other has no lower key.
abbrev pub IsTakenFirst : Waiting → Pushes → Pushes → Pushes → Pushes → Type 0
IsTakenFirst entry queue rest other other_rest =
    IsFirst queue entry
    × (rest ≡ rest_of queue)
    × (other_rest ≡ other)
    × ((next : Waiting) → IsFirst other next → entry.key ≤ next.key)

-- the queues of the cells reached by straight steps and by diagonal steps
pub record Queues : Type 0 where
  pub straight : Pushes
  pub diagonal : Pushes

-- two queues with that much room and nothing in them
abbrev pub empty_queues : ℕ → Queues
empty_queues room = record { straight = empty_with room; diagonal = empty_with room }

-- the source alone waits, with the key 0
abbrev pub begun_with : Queues → Cell → Queues
begun_with list source = record {
  straight = push_to (empty_with list.straight.room) (record { key = 0; cell = source });
  diagonal = empty_with list.diagonal.room;
}

-- the entry was taken from the queue whose first key is lower
abbrev pub IsFirstTaken : Waiting → Queues → Queues → Type 0
IsFirstTaken entry before after =
    IsTakenFirst entry before.straight after.straight before.diagonal after.diagonal
    ⊎ IsTakenFirst entry before.diagonal after.diagonal before.straight after.straight

-- no entry is left in either queue
abbrev pub IsUsedUp : Queues → Type 0
IsUsedUp list = HasNoneLeft list.straight × HasNoneLeft list.diagonal

-- the state of a search: the keys of the cells, row by row, and both queues
pub record Opened : Type 0 where
  pub keys : List ℕ
  pub straight : Pushes
  pub diagonal : Pushes

abbrev pub opened : List ℕ → Queues → Opened
opened keys list = record { keys = keys; straight = list.straight; diagonal = list.diagonal }

abbrev pub queues_of : Opened → Queues
queues_of front = record { straight = front.straight; diagonal = front.diagonal }

-- nothing is reached yet: no cell has a key, and the queues are empty with that much room
abbrev pub nothing_opened : ℕ → ℕ → Opened
nothing_opened cells room = opened (replicate cells NO_KEY) (empty_queues room)

-- a search begins: the source alone has a key, which is 0, and waits
abbrev pub started : Opened → ℕ → Cell → Opened
started front place source = opened (slice_set front.keys place 0) (begun_with (queues_of front) source)

-- One queue while cells are settled up to a level. Its entries are for passable cells whose keys are no higher than the
-- entries', each cell once, by rising key, at most a step above the level. An entry that is left is not below the
-- level, and if it has its cell's key, that cell is not settled.
pub record IsQueue (map : Map) (keys : List ℕ) (settled : List Cell) (level step : ℕ) (queue : Pushes) : Type 0 where
  pub counted : queue.taken ≤ length queue.pushed
  pub passable : All (λ entry. IsPassable map entry.cell) queue.pushed
  pub found : All (λ entry. entry.key < NO_KEY) queue.pushed
  pub no_higher : All (λ entry. key_at map.width keys entry.cell ≤ entry.key) queue.pushed
  pub near : All (λ entry. entry.key ≤ level + step) queue.pushed
  pub rising : AllPairs (λ a b. a.key ≤ b.key) queue.pushed
  pub once : AllPairs (λ a b. a.cell ≡ b.cell → ⊥) queue.pushed
  pub later : (entry : Waiting) → IsLeft queue entry → level ≤ entry.key
  pub open_yet : (entry : Waiting) → IsLeft queue entry → entry.key ≡ key_at map.width keys entry.cell
      → Contains settled entry.cell → ⊥

-- Both queues: two entries for the same cell have different keys, each reached cell is settled or has an entry left
-- with its key, and no settled cell is above the level.
pub record AreQueues (map : Map) (keys : List ℕ) (settled : List Cell) (level step : ℕ) (queue : Pushes)
    (other_step : ℕ) (other : Pushes) : Type 0 where
  pub first : IsQueue map keys settled level step queue
  pub second : IsQueue map keys settled level other_step other
  pub apart : (a b : Waiting) → Contains queue.pushed a → Contains other.pushed b → a.cell ≡ b.cell → a.key ≡ b.key → ⊥
  pub waiting : (cell : Cell) → IsReached map keys cell
      → Contains settled cell ⊎ (IsLeft queue (record { key = key_at map.width keys cell; cell = cell })
      ⊎ IsLeft other (record { key = key_at map.width keys cell; cell = cell }))
  pub settled_low : (cell : Cell) → Contains settled cell → key_at map.width keys cell ≤ level
  pub settled_inside : (cell : Cell) → Contains settled cell → IsInside map cell

-- how many entries were taken from the queues so far
abbrev pub taken_from : Opened → ℕ
taken_from front = front.straight.taken + front.diagonal.taken

-- both queues while cells are settled up to a level, one for straight steps and one for diagonal ones
abbrev pub AreOpened : Map → List Cell → ℕ → Opened → Type 0
AreOpened map settled level front = AreQueues map front.keys settled level STRAIGHT_KEY front.straight DIAGONAL_KEY front.diagonal

-- there is room for the key of each cell, and in both queues for each passable cell
pub record HasSpace (map : Map) (front : Opened) : Type 0 where
  pub fits : map.width * map.height ≤ length front.keys
  pub straight_room : passable_count map ≤ front.straight.room
  pub diagonal_room : passable_count map ≤ front.diagonal.room

-- the keys and the queues are right for some settled cells
pub record AreReady (map : Map) (level : ℕ) (front : Opened) : Type 0 where
  pub settled : List Cell
  pub queues : AreOpened map settled level front
  pub space : HasSpace map front

-- the entry of the cell settled last, at its place, with the key of a path: one more step has a key too
pub record IsSettledLast (map : Map) (entry : Waiting) (place : ℕ) : Type 0 where
  pub passable : IsPassable map entry.cell
  pub at : place ≡ place_of map.width entry.cell
  pub key : entry.key ≤ GREATEST_KEY

-- Some steps from the cell settled last were taken: the keys are relaxed, and the queues stay right.
pub record AreStepsTaken (map : Map) (from : Waiting) (taken : Move → Type 0) (before after : Opened) : Type 0 where
  pub relaxed : IsRelaxed map from.cell from.key taken before.keys after.keys
  pub queues : (settled : List Cell) → AreOpened map settled from.key before → AreOpened map settled from.key after
  pub rooms : (after.straight.room ≡ before.straight.room) × (after.diagonal.room ≡ before.diagonal.room)
  pub none_taken : (after.straight.taken ≡ before.straight.taken) × (after.diagonal.taken ≡ before.diagonal.taken)
  pub length_kept : length after.keys ≡ length before.keys
