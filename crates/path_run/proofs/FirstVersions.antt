-- A map has a first version in each order, whether or not it is built, and a path is what that answers.
use Rattle.std.proofs.Common.{ℕ, List, Result, Ok, Err, IfOk, IfErr, refl}
use Rattle.moves.specs.declared.Cell.{Cell}
use Rattle.moves.specs.Maps.{Map, IsSearchable}
use Rattle.cell_order.specs.declared.OrderKind.{OrderKind}
use Rattle.versions.specs.Databases.{Versioned, version_of}
use Rattle.walk_rows.specs.Existing.{IsWhole}
use Rattle.walk_rows.proofs.Existing.{databases_exist}
use Rattle.path_commands.specs.declared.status.Status.{Status}
use Rattle.path_commands.specs.declared.status.Status.TheVariants as status
use Rattle.path_commands.specs.declared.task.Task.{Task}
use Rattle.path_commands.specs.declared.task.Task.TheVariants as task
use Rattle.path_commands.specs.Runs.{IsAnswerOn, IsFirstAnswer, IsFirstCause, IsFirstPathCause, IsFirstVersion, IsVersionCause, TellsFirstAnswer}

-- want of memory is a cause for each task
memory_is_cause : (version : Versioned) (given : Task) → IsVersionCause version given status.NoMemory
memory_is_cause version (task.Path start goal) = tt
memory_is_cause version task.Check = refl
memory_is_cause version task.Near = refl
memory_is_cause version (task.NearPath start goal) = tt
memory_is_cause version (task.Scen lines) = refl
memory_is_cause version (task.Made seed) = refl
memory_is_cause version (task.Replay events) = refl
memory_is_cause version task.Export = refl

module _ (map : Map) (order : OrderKind) where
  -- what a first version answers, and why it does not
  pub version_answers : (given : Task) (version : Versioned) (answer : Result (List ℕ) Status) → IsFirstVersion map order version → IfOk answer (IsAnswerOn version given)
      → IfOk answer (IsFirstAnswer map order given)
  version_answers given version (Ok text) first h = record { version = version; first = first; answers = h }
  version_answers given version (Err cause) first h = tt

  pub version_refuses : (given : Task) (version : Versioned) (answer : Result (List ℕ) Status) → IsFirstVersion map order version → IfErr answer (IsVersionCause version given)
      → IfErr answer (IsFirstCause map order given)
  version_refuses given version (Ok text) first h = tt
  version_refuses given version (Err cause) first h = record { version = version; first = first; fails = h }

  module _ (whole : IsWhole map) (searchable : IsSearchable map) where
    first_exists : (version : Versioned) × IsFirstVersion map order version
    first_exists =
        let database = databases_exist map order whole searchable in
        (version_of map 0 order database.0, record { same_map = refl; unedited = refl; same_order = refl; whole = record { searchable = searchable; database = database.1 } })

    pub memory_fails : (given : Task) → IsFirstCause map order given status.NoMemory
    memory_fails given = record { version = first_exists.0; first = first_exists.1; fails = memory_is_cause first_exists.0 given }

    pub path_answers : (start goal : Cell) (text : List ℕ) → TellsFirstAnswer map order start goal text → IsFirstAnswer map order (task.Path start goal) text
    path_answers start goal text told = record { version = first_exists.0; first = first_exists.1; answers = told first_exists.0 first_exists.1 }

    pub path_fails : (start goal : Cell) (cause : Status) → IsFirstPathCause map order start goal cause → IsFirstCause map order (task.Path start goal) cause
    path_fails start goal cause fails = record { version = first_exists.0; first = first_exists.1; fails = fails first_exists.0 first_exists.1 }
