-- What command lines ask for of which no word is an option.
use Rattle.std.specs.Prelude.{◌≡◌, ◌≢◌, ◌⊎◌, ◌++◌, ℕ, List, [], ◌∷◌, Option, Some, None, codes, slice_get, slice_index}
use Rattle.std.specs.Str.{chars}
use Rattle.std.specs.List.{AllByRecursion}
use Rattle.clap.specs.Lexer.{name_and_value}
use Rattle.clap.specs.Walk.{Text}
use Rattle.cell_order.specs.declared.OrderKind.TheVariants.{Rows}
use Rattle.path_commands.specs.declared.request.BuildOptions.{BuildOptions}
use Rattle.path_commands.specs.Words.{coordinate_in, path_in}
use Rattle.path_commands.specs.Requests.{Asked, cell_from, check_from, path_from, request_of}

-- the word does not begin with a hyphen
abbrev pub IsPlain : Text → Type 0
IsPlain word = slice_index word 0 ≢ 45

-- where no option is given
abbrev pub standard_build : BuildOptions
standard_build = record { order = Rows; workers = 1 }

-- `path` takes five words: a file, and the column and row of the start and the goal
abbrev pub plain_path : List Text → Option Asked
plain_path (map ∷ sx ∷ sy ∷ gx ∷ gy ∷ []) = path_from (path_in map)
    (cell_from (coordinate_in sx) (coordinate_in sy))
    (cell_from (coordinate_in gx) (coordinate_in gy)) (Some standard_build)
plain_path _ = None

-- `check` takes one word: a file
abbrev pub plain_check : List Text → Option Asked
plain_check (map ∷ []) = check_from (path_in map) (Some standard_build)
plain_check _ = None

-- plain words go to the arguments in order: one too few or too many, and nothing is asked for
abbrev pub PlainWordsAreRead : Type 0
PlainWordsAreRead = (words : List Text) → AllByRecursion IsPlain words
    → (request_of (codes "path" ∷ words) ≡ plain_path words)
    × (request_of (codes "check" ∷ words) ≡ plain_check words)

-- no option of `path` or `check` has this name
pub record IsUnknown (name : Text) : Type 0 where
  pub order : name ≢ codes "order"
  pub workers : name ≢ codes "workers"

-- `--name`, `--name=value` and their kind, where no option has the name
abbrev pub IsOtherLong : Text → Type 0
IsOtherLong word = (first : ℕ) × (rest : Text) × (word ≡ 45 ∷ 45 ∷ first ∷ rest)
    × IsUnknown (name_and_value (first ∷ rest)).0

-- `-n`, `-nvalue` and their kind: a hyphen, and text whose first character is not a hyphen
abbrev pub IsShort : Text → Type 0
IsShort word = (rest : Text) × (first : ℕ) × (slice_get (chars rest) 0 ≡ Some first) × (first ≢ 45)
    × (word ≡ 45 ∷ rest)

-- another option after plain words is refused, whatever follows it
abbrev pub OtherOptionsAreRefused : Type 0
OtherOptionsAreRefused = (before after : List Text) (word : Text) → AllByRecursion IsPlain before
    → IsOtherLong word ⊎ IsShort word
    → (request_of (codes "path" ∷ (before ++ word ∷ after)) ≡ None)
    × (request_of (codes "check" ∷ (before ++ word ∷ after)) ≡ None)
