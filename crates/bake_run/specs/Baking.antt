-- What a run of `path_bake` is about, and how it may end. Its words follow the program's own name: a map's file, and
-- how the map's database is built.
use Rattle.std.specs.Prelude.{◌≡◌, ◌⊎◌, ℕ, List, ◌∷◌, Option, None, Some, codes}
use Rattle.std.specs.Io.KnownBytes.{Appends}
use Rattle.wire.specs.Contents.{PutsPrefix}
use Rattle.clap.specs.Walk.{Text}
use Rattle.moves.specs.Maps.{Map}
use Rattle.versions.specs.Databases.{Versioned}
use Rattle.path_image.specs.Images.{image_of}
use Rattle.path_image.specs.Writing.{bytes_of}
use Rattle.path_commands.specs.declared.request.BuildOptions.{BuildOptions}
use Rattle.path_commands.specs.declared.status.Status.{Status}
use Rattle.path_commands.specs.declared.status.Status.TheVariants as status
use Rattle.path_commands.specs.Requests.{Asked, export, in_file, of_map, request_of}
use Rattle.path_commands.specs.Runs.{HoldsMap, IsFirstVersion, IsMapFileCause, Run}
use Rattle.path_commands.specs.Statuses.{status_text}

-- the words of the main program that ask for a database of the same map, built in the same way
abbrev pub export_words : List Text → List Text
export_words words = codes "export" ∷ words

-- what the words ask for, or None if they ask for nothing
abbrev pub asked_of : List Text → Option Asked
asked_of words = request_of (export_words words)

-- the words ask for the image of the map in the file of that name, built so
abbrev pub AsksFor : Run → Text → BuildOptions → Type 0
AsksFor run name build = asked_of run.words ≡ Some (of_map (in_file name) export build)

-- the version is the first one of the map in the file that the words name, in the order that they name
pub record IsAskedFor (run : Run) (version : Versioned) : Type 0 where
  pub name : Text
  pub build : BuildOptions
  pub asks : AsksFor run name build
  pub map : Map
  pub holds : HoldsMap (run.file name) map
  pub first : IsFirstVersion map build.order version

-- the file that the words name gives no map, for that reason
pub record FailsByMap (run : Run) (cause : Status) : Type 0 where
  pub name : Text
  pub build : BuildOptions
  pub asks : AsksFor run name build
  pub fails : IsMapFileCause (run.file name) cause

-- the cause of each status except `Done` and a fault of the output; `NoMemory` needs none
abbrev pub IsCause : Run → Status → Type 0
IsCause run status.Usage = asked_of run.words ≡ None
IsCause run status.NoMemory = Unit {0}
IsCause run cause = FailsByMap run cause

-- the usage line
abbrev pub usage_text : List ℕ
usage_text = codes "usage: path_bake MAP [--order rows|dfs] [--workers N]\n"

-- the line of a status: that of the main program, except for words that ask for nothing
abbrev pub refusal_text : Status → List ℕ
refusal_text status.Usage = usage_text
refusal_text cause = status_text cause

-- the output grew by the image of that version, each word as four bytes, the lowest first
pub record PutsImage (run : Run) (old new : Option (List ℕ)) : Type 0 where
  pub version : Versioned
  pub asked : IsAskedFor run version
  pub put : Appends old new (bytes_of (image_of version))

-- the output grew by a first part of that image, less than the whole
pub record PutsSomeImage (run : Run) (old new : Option (List ℕ)) : Type 0 where
  pub version : Versioned
  pub asked : IsAskedFor run version
  pub put : PutsPrefix old new (bytes_of (image_of version))

-- the output grew by a first part, less than the whole, of the line of a status that has its cause
pub record PutsSomeLine (run : Run) (old new : Option (List ℕ)) : Type 0 where
  pub ended : Status
  pub cause : IsCause run ended
  pub put : PutsPrefix old new (refusal_text ended)

-- the output failed before all was put
abbrev pub BreaksOff : Run → Option (List ℕ) → Option (List ℕ) → Type 0
BreaksOff run old new = PutsSomeImage run old new ⊎ PutsSomeLine run old new
