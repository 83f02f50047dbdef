-- The history of a board: what was entered on it, in one list.
use Rattle.std.specs.Prelude.{◌≡◌, ℕ, ◌<◌, ◌≤◌, Bool, true, false, List, [], ◌∷◌, ◌++◌, length, take, count_by, IsTrue}
use Rattle.std.specs.List.{flat_map, fold, list_any}
use Rattle.moves.specs.declared.Cell.{Cell}
use Rattle.moves.specs.Maps.{Map}
use Rattle.cell_order.specs.declared.OrderKind.{OrderKind}
use Rattle.versions.specs.Databases.{Versioned, IsVersion}
use Rattle.versions.specs.Answers.{Answer, IsAnswer}
use Rattle.edit_log.specs.declared.edit.Edit.{Edit}
use Rattle.edit_log.specs.Edits.{map_after}
use Rattle.edit_log.specs.Verdicts.{MayBeAccepted}
use Rattle.path_core.specs.declared.entry.Entry.{Entry}
use Rattle.path_core.specs.declared.entry.Entry.TheVariants.{Accept, Publish, Halt}

-- the edit that an entry accepts, if it accepts one
abbrev pub edit_of : Entry → List Edit
edit_of (Accept pass edit) = edit ∷ []
edit_of (Publish pass prefix) = []
edit_of (Halt pass) = []

-- the accepted edits in order
abbrev pub edits_of : List Entry → List Edit
edits_of history = flat_map edit_of history

-- the number of accepted edits
abbrev pub accepted_count : List Entry → ℕ
accepted_count history = length (edits_of history)

-- the prefix of the published version after an entry, given that before it
abbrev pub prefix_after : ℕ → Entry → ℕ
prefix_after before (Accept pass edit) = before
prefix_after before (Publish pass prefix) = prefix
prefix_after before (Halt pass) = before

-- the prefix of the version published last: how many edits it includes, or 0 if none was published
abbrev pub published_prefix : List Entry → ℕ
published_prefix history = fold prefix_after 0 history

-- whether an entry is a publication
abbrev pub is_publication : Entry → Bool
is_publication (Accept pass edit) = false
is_publication (Publish pass prefix) = true
is_publication (Halt pass) = false

-- the number of published versions
abbrev pub published_count : List Entry → ℕ
published_count history = count_by is_publication history

-- whether an entry is a halt
abbrev pub is_halt : Entry → Bool
is_halt (Accept pass edit) = false
is_halt (Publish pass prefix) = false
is_halt (Halt pass) = true

-- the board is halting: a halt was entered
abbrev pub IsHalting : List Entry → Type 0
IsHalting history = IsTrue (list_any is_halt history)

-- the map after this number of the accepted edits
abbrev pub map_at : Map → List Entry → ℕ → Map
map_at start history prefix = map_after start (take prefix (edits_of history))

-- the map after all of them
abbrev pub map_now : Map → List Entry → Map
map_now start history = map_after start (edits_of history)

-- the version of a history at a prefix: that of the map after this number of edits, in the board's order
pub record IsVersionAt (start : Map) (kind : OrderKind) (history : List Entry) (prefix : ℕ) (version : Versioned) : Type 0 where
  pub map : version.map ≡ map_at start history prefix
  pub after : version.prefix ≡ prefix
  pub order : version.order ≡ kind
  pub whole : IsVersion version

-- the entry may come after that history
abbrev pub MayFollow : Map → List Entry → Entry → Type 0
MayFollow start history (Accept pass edit) = MayBeAccepted (map_now start history) (accepted_count history) edit
MayFollow start history (Publish pass prefix) = (published_prefix history < prefix) × (prefix ≤ accepted_count history)
MayFollow start history (Halt pass) = IsHalting history → ⊥

-- a history is legal if each entry may come after those before it
unfoldable pub IsLegal : Map → List Entry → Type 0
IsLegal start history =
    (before : List Entry) (entry : Entry) (later : List Entry) → history ≡ before ++ entry ∷ later → MayFollow start before entry

-- The answer to a query after a history, by the version at a prefix. The answer after a history is that at its
-- published prefix.
pub record IsAnswerAt (start : Map) (kind : OrderKind) (history : List Entry) (prefix : ℕ)
    (from goal : Cell) (answer : Answer) : Type 0 where
  pub version : Versioned
  pub is_version : IsVersionAt start kind history prefix version
  pub answers : IsAnswer version from goal answer
