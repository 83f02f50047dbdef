-- Keys of cells in a list that goes row by row. (root_cost defines the key of a cost.)
use Rattle.std.specs.Prelude.{◌≡◌, ℕ, List, slice_index_or}
use Rattle.root_cost.specs.Keys.{step_key}
use Rattle.root_cost.specs.declared.TheConstants.{NO_KEY}
use Rattle.moves.specs.declared.Cell.{Cell}
use Rattle.moves.specs.declared.Move.{Move}
use Rattle.moves.specs.Maps.{place_of}
use Rattle.moves.specs.Moves.{is_diagonal}

-- the key of the step that a move makes
abbrev pub move_key : Move → ℕ
move_key move = step_key (is_diagonal move)

-- the key of a cell in a list that goes row by row
abbrev pub key_at : ℕ → List ℕ → Cell → ℕ
key_at width keys cell = slice_index_or keys (place_of width cell) NO_KEY

-- the list has no key
abbrev pub HasNoKeys : List ℕ → Type 0
HasNoKeys keys = (place : ℕ) → slice_index_or keys place NO_KEY ≡ NO_KEY
