-- The request that the words of `ask` after its port spell.
--
--     query 0 0 2 0      change 1 0 0      build      status      bye      stop
--
-- A change has a column, a row, and `0` for blocked or `1` for land. Of the requests of the second protocol none is spelled.
use Rattle.std.specs.Prelude.{if◌then◌else◌, Bool, false, true, List, [], ◌∷◌, Option, Some, None, codes, map, ℕ}
use Rattle.std.specs.Borrow.{Bor}
use Rattle.std.specs.Str.{bytes_eq}
use Rattle.clap.specs.Walk.{Text}
use Rattle.moves.specs.declared.Cell.{Cell}
use Rattle.moves.specs.Maps.{land_if}
use Rattle.edit_log.specs.declared.edit.CellChange.{CellChange}
use Rattle.query_proto.specs.declared.requests.Request.{Request}
use Rattle.query_proto.specs.declared.requests.Request.TheVariants as request
use Rattle.path_replay.specs.Events.{◌>>=◌, Read, ended}
use Rattle.path_commands.specs.declared.asked.Asking.{Asking}
use Rattle.path_commands.specs.declared.asked.Asking.TheVariants as asking
use Rattle.path_commands.specs.Words.{coordinate_in}

-- the texts of words
abbrev pub spelled : List (Bor Text) → List Text
spelled words = map (λ word. word.now) words

-- what a request says: a path between two cells, changes of cells, or a word that stands alone
pub data Said : Type 0 where
  query : Cell → Cell → Said
  change : List CellChange → Said
  hello : Said
  build : Said
  status : Said
  bye : Said
  stop : Said

-- what a request says
abbrev pub said_of : Request → Said
said_of (request.Query start goal) = query start goal
said_of (request.Change edit) = change edit
said_of request.Hello = hello
said_of request.Build = build
said_of request.Status = status
said_of request.Bye = bye
said_of request.Stop = stop

-- what the words of `ask` say
abbrev pub said_by : Asking → Said
said_by (asking.Query start goal) = query start goal
said_by (asking.Change to) = change (to ∷ [])
said_by asking.Build = build
said_by asking.Status = status
said_by asking.Bye = bye
said_by asking.Stop = stop

-- the column or the row in the first word
abbrev pub first_coordinate : List Text → Read ℕ
first_coordinate [] = None
first_coordinate (word ∷ words) = coordinate_in word >>= λ number. Some (number, words)

-- the cell in the first two words: its column and its row
unfoldable pub first_cell : List Text → Read Cell
first_cell words = do
  x ← first_coordinate words
  y ← first_coordinate x.1
  Some (record { x = x.0; y = y.0 }, y.1)

-- whether a cell is land, in the first word: the one character `0` or `1`
abbrev pub first_passable : List Text → Read Bool
first_passable [] = None
first_passable (word ∷ words) =
    if bytes_eq word (codes "0") then Some (false, words)
    else (if bytes_eq word (codes "1") then Some (true, words) else None)

-- the words after `query`
unfoldable pub query_said : List Text → Option Said
query_said words = do
  start ← first_cell words
  goal ← first_cell start.1
  ended goal.1 (query start.0 goal.0)

-- the words after `change`
unfoldable pub change_said : List Text → Option Said
change_said words = do
  cell ← first_cell words
  passable ← first_passable cell.1
  ended passable.1 (change (record { cell = cell.0; terrain = land_if passable.0 } ∷ []))

-- the request of that name, with the words after it
abbrev pub named_said : Text → List Text → Option Said
named_said name words =
    if bytes_eq name (codes "query") then query_said words
    else (if bytes_eq name (codes "change") then change_said words
    else (if bytes_eq name (codes "build") then ended words build
    else (if bytes_eq name (codes "status") then ended words status
    else (if bytes_eq name (codes "bye") then ended words bye
    else (if bytes_eq name (codes "stop") then ended words stop
    else None)))))

-- the request that the words spell, if they spell one
unfoldable pub request_said : List Text → Option Said
request_said [] = None
request_said (name ∷ words) = named_said name words
