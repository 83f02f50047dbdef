-- The words of a command, as clap reads them, and what a value of a command may be.
use Rattle.std.specs.Prelude.{◌≡◌, ◌<◌, ◌≤◌, ℕ, Bool, true, ◌&&◌, List, [], ◌∷◌, Option, Some, None, String}
use Rattle.std.specs.Prelude.{map, option_map, length, codes, nat_lt, nat_le, if◌then◌else◌, string_bytes}
use Rattle.std.specs.Prelude.{IsTrue}
use Rattle.std.specs.Char.{is_ascii_digit}
use Rattle.std.specs.Global.{Global}
use Rattle.std.specs.List.{list_all}
use Rattle.std.specs.Str.{bytes_eq}
use Rattle.std.specs.Str.Parse.{digits_value}
use Rattle.clap.specs.Walk.{Rule, Text, all_of, first_of, is_empty}
use Rattle.clap.specs.Lexer.{usize_max}
use Rattle.clap.specs.declared.parser.matches.Found.{Found}
use Rattle.clap.specs.Simple.{App, matches_of, new_rule, new_shape}
use Rattle.clap.specs.Matches.{first_value, found_of, matched_of, raw_values}
use Rattle.clap.specs.Faults.{fault_of}
use Rattle.clap.specs.declared.builder.action.ArgAction.TheVariants.{Set}
use Rattle.clap.specs.declared.parser.matches.ArgMatches.{ArgMatches}
use Rattle.cell_order.specs.declared.OrderKind.{OrderKind}
use Rattle.cell_order.specs.declared.OrderKind.TheVariants.{Rows, Dfs}
use Rattle.build_pool.specs.declared.TheConstants.{MAX_WORKERS}
use Rattle.moves.specs.declared.TheConstants.{MAX_SIDE}
use Rattle.path_core.specs.declared.TheConstants.{MAX_ENTRIES}
use Rattle.session.specs.declared.boards.TheConstants.{MAX_DOORS}
use Rattle.path_commands.specs.declared.words.TheConstants.{MAX_ROUNDS}
use Rattle.path_commands.specs.declared.words.NumberKind.{NumberKind}
use Rattle.path_commands.specs.declared.words.NumberKind.TheVariants as number

-- the bytes of each word
abbrev pub texts_of : List (String Global) → List Text
texts_of = map string_bytes

-- ---- a command

-- an argument that is required, and has the last value that is given for it
abbrev pub required_rule : Text → Rule
required_rule id = record (new_rule id) { required = true; action = Some Set }

-- such an argument with one or more values, which follows the others
abbrev pub several_rule : Text → Rule
several_rule id = record (required_rule id) { range = Some (record { start_inclusive = 1; end_inclusive = usize_max }) }

-- an option `--id VALUE` or `--id=VALUE`, which may be left out
abbrev pub option_rule : Text → Rule
option_rule id = record (new_rule id) { long = Some id; action = Some Set }

-- the command with this name and these arguments and options: it has not even the flags for help
-- and for the version
unfoldable pub command_app : Text → List Rule → App
command_app name rules = record {
  top = record (new_shape name) {
    rules = rules;
    disable_help_flag = true;
    disable_version_flag = true;
  };
  subs = [];
}

-- clap finds no fault with the words, of which the first stands in the program's place
unfoldable pub is_taken : App → List Text → Bool
is_taken app words = is_empty (fault_of app words)

-- the value that clap finds in the words for the argument or option of this name
unfoldable pub value_of : App → List Text → Text → Option Text
value_of app words id = first_of id (matches_of app words)

-- all values that clap finds in the words for the argument of this name
unfoldable pub values_of : App → List Text → Text → Option (List Text)
values_of app words id = all_of id (matches_of app words)

-- all values that a parse found for the argument of this name
abbrev pub every_value : Found → Text → Option (List Text)
every_value found id = option_map raw_values (matched_of found id)

-- clap takes the words, and a parse found each value that they have
pub record HasValues (app : App) (words : List Text) (matches : ArgMatches) : Type 0 where
  pub taken : IsTrue (is_taken app words)
  pub values : (id : Text) → first_value (found_of matches) id ≡ value_of app words id
  pub every : (id : Text) → every_value (found_of matches) id ≡ values_of app words id

-- ---- the values

-- 1 to 10 decimal digits and nothing else
abbrev pub is_number : Text → Bool
is_number text = nat_lt 0 (length text) && (nat_le (length text) 10 && list_all is_ascii_digit text)

-- the number that the digits spell, with leading zeros allowed
unfoldable pub number_in : Text → Option ℕ
number_in text = if is_number text then Some (digits_value 10 text) else None

-- the least number of each kind, and the greatest
abbrev pub least : NumberKind → ℕ
least number.Coordinate = 0
least number.Side = 1
least number.Seed = 0
least number.Workers = 1
least number.Room = 0
least number.Port = 1
least number.Doors = 1
least number.Rounds = 0

abbrev pub most : NumberKind → ℕ
most number.Coordinate = 65535
most number.Side = MAX_SIDE
most number.Seed = 4294967295
most number.Workers = MAX_WORKERS
most number.Room = MAX_ENTRIES
most number.Port = 65535
most number.Doors = MAX_DOORS
most number.Rounds = MAX_ROUNDS

-- the number where it is from the one to the other
abbrev pub between : ℕ → ℕ → Option ℕ → Option ℕ
between low high (Some value) = if nat_le low value && nat_le value high then Some value else None
between low high None = None

-- the number of that kind that the text spells
unfoldable pub number_as : NumberKind → Text → Option ℕ
number_as kind text = between (least kind) (most kind) (number_in text)

-- the number is of that kind
pub record IsOfKind (kind : NumberKind) (value : ℕ) : Type 0 where
  pub above : least kind ≤ value
  pub below : value ≤ most kind

-- a column or a row: a number from 0 to 65,535
abbrev pub coordinate_in : Text → Option ℕ
coordinate_in = number_as number.Coordinate

-- how many threads build a database: a number from 1 to 64
abbrev pub workers_in : Text → Option ℕ
workers_in = number_as number.Workers

-- how many entries a board reserves memory for: a number from 0 to 2,097,153
abbrev pub room_in : Text → Option ℕ
room_in = number_as number.Room

-- this many threads may build a database
pub record AreWorkers (workers : ℕ) : Type 0 where
  pub some : 0 < workers
  pub few : workers ≤ MAX_WORKERS

-- an order of cells
abbrev pub order_in : Text → Option OrderKind
order_in text = if bytes_eq text (codes "rows") then Some Rows
    else if bytes_eq text (codes "dfs") then Some Dfs else None

-- the name of a file: any text that is not empty
abbrev pub path_in : Text → Option Text
path_in [] = None
path_in (byte ∷ rest) = Some (byte ∷ rest)
