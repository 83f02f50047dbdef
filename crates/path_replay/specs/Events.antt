-- The text of events. Each line that is not blank has one: its name, the number of a pass, and what the event says.
--
--     submit 0 3 4 1      query 0 0 0 5 6      look 0      begin 0      row 0      publish 0      halt 0
--
-- The edit of `submit` has 1 to 64 changes, one after the other: a column, a row, and `0` for blocked, `1` for land or
-- `2` for water. `submit 0 3 4 1 3 5 2` makes land of one cell and water of the next.
use Rattle.std.specs.Prelude.{◌≡◌, ℕ, zero, suc, ◌+◌, ◌-◌, ◌<◌, ◌++◌, if◌then◌else◌, List, [], ◌∷◌, All, Option, Some, None, Result, Ok, Err, codes}
use Rattle.std.specs.List.{AllZip}
use Rattle.std.specs.Fmt.{decimal}
use Rattle.std.specs.Str.{bytes_eq}
use Rattle.moves.specs.declared.Cell.{Cell}
use Rattle.moves.specs.declared.Terrain.{Terrain}
use Rattle.moves.specs.declared.Terrain.TheVariants.{Blocked, Land, Water}
use Rattle.edit_log.specs.declared.edit.CellChange.{CellChange}
use Rattle.edit_log.specs.declared.TheConstants.{MAX_CHANGES}
use Rattle.text_lines.specs.Lines.{lines_of}
use Rattle.text_lines.specs.Numbers.{number_at_most}
use Rattle.text_lines.specs.Words.{is_blank, words_of}
use Rattle.path_replay.specs.declared.TheConstants.{PASSES}
use Rattle.path_replay.specs.declared.reading.TheConstants.{MAX_COORDINATE}
use Rattle.path_replay.specs.declared.error.EventsError.{EventsError}
use Rattle.path_replay.specs.declared.error.EventsError.TheVariants.{Line, NoMemory}
use Rattle.path_replay.specs.declared.event.Event.{Event}
use Rattle.path_replay.specs.declared.event.Event.TheVariants.{Submit, Look, Query, Begin, Row, Publish, Halt}

-- the pass of an event
abbrev pub pass_of : Event → ℕ
pass_of (Submit pass edit) = pass
pass_of (Look pass) = pass
pass_of (Query pass start goal) = pass
pass_of (Begin pass) = pass
pass_of (Row pass) = pass
pass_of (Publish pass) = pass
pass_of (Halt pass) = pass

-- the passes of events are those of a replay
abbrev pub HavePasses : List Event → Type 0
HavePasses events = All (λ event. pass_of event < PASSES) events

-- ---- the words of a line

-- what is read from the first words of a line, and the words after them
abbrev pub Read : Type 0 → Type 0
Read A = Option (A × List (List ℕ))

-- one step after another, if each finds what it wants
infixl 10 ◌>>=◌
abbrev pub ◌>>=◌ : {A B : Type 0} → Option A → (A → Option B) → Option B
None >>= next = None
(Some x) >>= next = next x

-- the number in the first word, from 0 to the greatest
abbrev pub first_number : ℕ → List (List ℕ) → Read ℕ
first_number most [] = None
first_number most (word ∷ words) = number_at_most most word >>= λ number. Some (number, words)

-- the pass in the first word
abbrev pub first_pass : List (List ℕ) → Read ℕ
first_pass words = first_number (PASSES - 1) words

-- the cell in the first two words: its column and its row
abbrev pub first_cell : List (List ℕ) → Read Cell
first_cell words = do
  x ← first_number MAX_COORDINATE words
  y ← first_number MAX_COORDINATE x.1
  Some (record { x = x.0; y = y.0 }, y.1)

-- what stands at a cell, in the first word: the one character `0`, `1` or `2`
abbrev pub first_terrain : List (List ℕ) → Read Terrain
first_terrain [] = None
first_terrain (word ∷ words) =
    if bytes_eq word (codes "0") then Some (Blocked, words)
    else (if bytes_eq word (codes "1") then Some (Land, words)
    else (if bytes_eq word (codes "2") then Some (Water, words) else None))

-- the change in the first three words: its cell, and what stands there from then on
abbrev pub first_change : List (List ℕ) → Read CellChange
first_change words = do
  cell ← first_cell words
  terrain ← first_terrain cell.1
  Some (record { cell = cell.0; terrain = terrain.0 }, terrain.1)

-- the changes before these words and those that they say, up to so many, until no word is left
abbrev pub changes_with : ℕ → List CellChange → List (List ℕ) → Option (List CellChange)
changes_with most before [] = Some before
changes_with zero before (word ∷ words) = None
changes_with (suc most) before (word ∷ words) = do
  change ← first_change (word ∷ words)
  changes_with most (before ++ change.0 ∷ []) change.1

-- the changes that the words say: one, and up to 63 more
unfoldable pub changes_said : List (List ℕ) → Option (List CellChange)
changes_said words = do
  first ← first_change words
  changes_with (MAX_CHANGES - 1) (first.0 ∷ []) first.1

-- the value, if no word is left
abbrev pub ended : {A : Type 0} → List (List ℕ) → A → Option A
ended [] value = Some value
ended (word ∷ words) value = None

-- ---- a line

-- what a line says: an event, whose edit has these changes
pub data Said : Type 0 where
  submit : ℕ → List CellChange → Said
  look : ℕ → Said
  query : ℕ → Cell → Cell → Said
  begin : ℕ → Said
  row : ℕ → Said
  publish : ℕ → Said
  halt : ℕ → Said

-- the pass in the one word that is left
unfoldable pub only_pass : List (List ℕ) → Option ℕ
only_pass words = do
  pass ← first_pass words
  ended pass.1 pass.0

-- an event of which the words say no more than the pass
abbrev pub pass_said : (ℕ → Said) → List (List ℕ) → Option Said
pass_said event words = do
  pass ← only_pass words
  Some (event pass)

unfoldable pub submit_said : List (List ℕ) → Option Said
submit_said words = do
  pass ← first_pass words
  changes ← changes_said pass.1
  Some (submit pass.0 changes)

unfoldable pub query_said : List (List ℕ) → Option Said
query_said words = do
  pass ← first_pass words
  start ← first_cell pass.1
  goal ← first_cell start.1
  ended goal.1 (query pass.0 start.0 goal.0)

-- the event of that name, with the words after it
abbrev pub named : List ℕ → List (List ℕ) → Option Said
named name words =
    if bytes_eq name (codes "submit") then submit_said words
    else (if bytes_eq name (codes "look") then pass_said look words
    else (if bytes_eq name (codes "query") then query_said words
    else (if bytes_eq name (codes "begin") then pass_said begin words
    else (if bytes_eq name (codes "row") then pass_said row words
    else (if bytes_eq name (codes "publish") then pass_said publish words
    else (if bytes_eq name (codes "halt") then pass_said halt words
    else None))))))

-- what the words of a line say, if they say an event
unfoldable pub words_said : List (List ℕ) → Option Said
words_said [] = None
words_said (name ∷ words) = named name words

-- the event is what is said
abbrev pub IsSaid : Said → Event → Type 0
IsSaid (submit number changes) (Submit pass edit) = (pass ≡ number) × (edit ≡ changes)
IsSaid (look number) (Look pass) = pass ≡ number
IsSaid (query number from to) (Query pass start goal) = (pass ≡ number) × (start ≡ from) × (goal ≡ to)
IsSaid (begin number) (Begin pass) = pass ≡ number
IsSaid (row number) (Row pass) = pass ≡ number
IsSaid (publish number) (Publish pass) = pass ≡ number
IsSaid (halt number) (Halt pass) = pass ≡ number
IsSaid _ _ = ⊥

-- ---- the whole text

-- the next line's event, or the line's number as the refusal
abbrev pub after_line : ℕ → Option Said → (Said → Result (List Said) ℕ) → Result (List Said) ℕ
after_line number None next = Err number
after_line number (Some said) next = next said

-- what was said before, and what the lines say, of which the first has this number; blank lines say nothing
unfoldable pub lines_said : ℕ → List Said → List (List ℕ) → Result (List Said) ℕ
lines_said number before [] = Ok before
lines_said number before (line ∷ lines) =
    if is_blank line then lines_said (number + 1) before lines
    else after_line number (words_said (words_of line)) (λ said. lines_said (number + 1) (before ++ said ∷ []) lines)

-- what a text says, or the number of its first line that is neither blank nor an event
abbrev pub text_said : List ℕ → Result (List Said) ℕ
text_said text = lines_said 1 [] (lines_of text)

-- the events are those of the text
pub record AreEventsOf (text : List ℕ) (events : List Event) : Type 0 where
  pub said : List Said
  pub reads : text_said text ≡ Ok said
  pub are : AllZip IsSaid said events

-- why a text is refused
abbrev pub IsEventsError : List ℕ → EventsError → Type 0
IsEventsError text (Line line) = text_said text ≡ Err line
IsEventsError text NoMemory = Unit {0}

-- and in words
abbrev pub error_text : EventsError → List ℕ
error_text (Line line) = codes "line " ++ decimal line
error_text NoMemory = codes "out of memory"
