-- Why a run ends as it does, where its files were read one after the other.
use Rattle.std.proofs.Common.{◌≡◌, ◌≢◌, ◌≤◌, ◌<◌, ◌⊎◌, ℕ, length, Option, List, Result, IfSome, IfOk, IfErr, Ok, Err, None, inl, inr, refl, subst, arith}
use Rattle.std.specs.Io.KnownBytes.{Appends}
use Rattle.wire.specs.Causes.{Rose}
use Rattle.wire.specs.Contents.{AreRead, AtFiles, PutsPrefix}
use Rattle.clap.specs.Walk.{Text}
use Rattle.moves.specs.Maps.{Map}
use Rattle.scen_read.specs.declared.TheConstants.{MAX_SCEN_BYTES}
use Rattle.scen_read.specs.ScenText.{scenarios_of}
use Rattle.path_replay.specs.declared.TheConstants.{MAX_EVENTS_BYTES}
use Rattle.path_replay.specs.Events.{AreEventsOf, text_said}
use Rattle.cell_order.specs.declared.OrderKind.{OrderKind}
use Rattle.versions.specs.Databases.{Versioned}
use Rattle.path_commands.specs.declared.request.RequestError.{RequestError}
use Rattle.path_commands.specs.declared.request.RequestError.TheVariants as error
use Rattle.path_commands.specs.declared.status.Status.{Status}
use Rattle.path_commands.specs.declared.status.Status.TheVariants as status
use Rattle.path_commands.specs.declared.task.Task.{Task}
use Rattle.path_commands.specs.declared.task.Task.TheVariants as task
use Rattle.path_commands.specs.Statuses.{status_of, status_text}
use Rattle.path_commands.specs.Requests.{Aim, Asked, Source, asked, by_formula, check, export, in_file, made, near, nearpath, path, replay, request_of, scen}
use Rattle.path_commands.specs.Runs.{Answers, AnswersOfMap, Asks, Fails, FailsOfMap, GivesMap, GivesNoMap, GivesNoTask, GivesTask, IsDbFileCause, IsEventsFileCause, IsFileCause, IsFirstAnswer, IsFirstCause, IsRight, IsScenFileCause, IsVersionCause, IsWordsCause, Run, RunFile, file_over}
use Rattle.path_commands.specs.Serving.{Puts, PutsCause}
use Rattle.path_run.specs.declared.Printed.{Printed}
use Rattle.path_run.specs.Answering.{PutsAnswer, bytes_of}
use Rattle.path_run.specs.RunEnds.{FailsOnly, Prints, RunOutput}

-- ---- neither the end of the work nor a fault of the output is a cause

no_map_alone : (file : Text → RunFile) (source : Source) → (GivesNoMap file source status.Done → ⊥) × (GivesNoMap file source status.WriteFault → ⊥)
no_map_alone file (in_file name) = (λ h. h, λ h. h)
no_map_alone file (by_formula sides seed) = (λ h. h, λ h. h)

no_task_alone : (file : Text → RunFile) (aim : Aim) → (GivesNoTask file aim status.Done → ⊥) × (GivesNoTask file aim status.WriteFault → ⊥)
no_task_alone file (path start goal) = (λ h. h, λ h. h)
no_task_alone file _ = (λ h. h, λ h. h)

no_version_alone : (version : Versioned) (given : Task) → (IsVersionCause version given status.Done → ⊥) × (IsVersionCause version given status.WriteFault → ⊥)
no_version_alone version (task.Path start goal) = (λ h. h, λ h. h)
no_version_alone version (task.NearPath start goal) = (λ h. h, λ h. h)
no_version_alone version _ = (λ h. cc, λ h. cc)

module _ (file : Text → RunFile) (source : Source) (aim : Aim) (order : OrderKind) where
  map_done : FailsOfMap file source aim order status.Done → ⊥
  map_done (inl h) = (no_map_alone file source).0 h
  map_done (inr (inl h)) = (no_task_alone file aim).0 h.fails
  map_done (inr (inr h)) = (no_version_alone h.first.version h.task).0 h.first.fails

  map_fault : FailsOfMap file source aim order status.WriteFault → ⊥
  map_fault (inl h) = (no_map_alone file source).1 h
  map_fault (inr (inl h)) = (no_task_alone file aim).1 h.fails
  map_fault (inr (inr h)) = (no_version_alone h.first.version h.task).1 h.first.fails

  pub map_not_done : (answer : Result Printed Status) → IfErr answer (FailsOfMap file source aim order) → IfErr answer (λ cause. cause ≢ status.Done)
  map_not_done (Ok told) h = tt
  map_not_done (Err cause) h = λ same. map_done (subst (FailsOfMap file source aim order) same h)

  pub map_no_fault : (answer : Result Printed Status) → IfErr answer (FailsOfMap file source aim order) → IfErr answer (λ cause. cause ≢ status.WriteFault)
  map_no_fault (Ok told) h = tt
  map_no_fault (Err cause) h = λ same. map_fault (subst (FailsOfMap file source aim order) same h)

pub db_not_done : (file : RunFile) (answer : Result Printed Status) → IfErr answer (IsDbFileCause file) → IfErr answer (λ cause. cause ≢ status.Done)
db_not_done file (Ok told) h = tt
db_not_done file (Err cause) h = λ same. subst (IsDbFileCause file) same h

pub db_no_fault : (file : RunFile) (answer : Result Printed Status) → IfErr answer (IsDbFileCause file) → IfErr answer (λ cause. cause ≢ status.WriteFault)
db_no_fault file (Ok told) h = tt
db_no_fault file (Err cause) h = λ same. subst (IsDbFileCause file) same h

-- ---- words that ask for nothing

pub words_cause : (words : List Text) (why : RequestError) → (why ≡ error.Usage → request_of words ≡ None) → IsWordsCause words (status_of why)
words_cause words error.Usage none = none refl
words_cause words error.NoMemory none = tt

pub words_not_done : (why : RequestError) → status_of why ≢ status.Done
words_not_done error.Usage = λ same. cc
words_not_done error.NoMemory = λ same. cc

pub words_no_fault : (why : RequestError) → status_of why ≢ status.WriteFault
words_no_fault error.Usage = λ same. cc
words_no_fault error.NoMemory = λ same. cc

-- ---- what is put

-- whether the status is that of a fault of the output
is_fault : (ended : Status) → (ended ≡ status.WriteFault) ⊎ (ended ≢ status.WriteFault)
is_fault status.WriteFault = inl refl
is_fault _ = inr (λ same. cc)

module _ (before after : Option (List ℕ)) (ended : Status) where
  -- all of a text was put, or a first part of it where the output failed
  pub puts_text : (text : List ℕ) (told : Status) → (ended ≢ status.WriteFault → (ended ≡ told) × Appends before after text) → (ended ≡ status.WriteFault → PutsPrefix before after text)
      → Puts before after text told ended
  puts_text text told whole cut = elim (is_fault ended) [
    | inl fault ↦ inr (record { is = fault; put = cut fault })
    | inr other ↦ inl (record { is = (whole other).0; put = (whole other).1 })
  ]

  -- and so it was of the line of a cause, or of that of want of memory
  put_whole : (cause : Status) → (ended ≡ cause) ⊎ (ended ≡ status.NoMemory) → Appends before after (status_text ended) → PutsCause before after cause ended
  put_whole cause (inl same) put = inl (inl (record { is = same; put = subst (λ told. Appends before after (status_text told)) same put }))
  put_whole cause (inr same) put = inr (inl (record { is = same; put = subst (λ told. Appends before after (status_text told)) same put }))

  put_part : (cause told : Status) → ended ≡ status.WriteFault → (told ≡ cause) ⊎ (told ≡ status.NoMemory) → PutsPrefix before after (status_text told) → PutsCause before after cause ended
  put_part cause told fault (inl same) put = inl (inr (record { is = fault; put = subst (λ told. PutsPrefix before after (status_text told)) same put }))
  put_part cause told fault (inr same) put = inr (inr (record { is = fault; put = subst (λ told. PutsPrefix before after (status_text told)) same put }))

  pub puts_cause : (cause : Status) → (ended ≢ status.WriteFault → ((ended ≡ cause) ⊎ (ended ≡ status.NoMemory)) × Appends before after (status_text ended))
      → (ended ≡ status.WriteFault → (told : Status) × ((told ≡ cause) ⊎ (told ≡ status.NoMemory)) × PutsPrefix before after (status_text told)) → PutsCause before after cause ended
  puts_cause cause whole cut = elim (is_fault ended) [
    | inl fault ↦ let part = cut fault in put_part cause part.0 fault part.1 part.2
    | inr other ↦ let all = whole other in put_whole cause all.0 all.1
  ]

-- ---- how a printed command ends

module _ {L H E : Type 0} (run : Run) (output : RunOutput) (input : L) (house : H) (ear : E) (ended : Status) (fault : FailsOnly output ended) where
  -- a text that is right was put
  prints : (told : Status) (text : List ℕ) → IsRight run told text → Puts output.before output.after text told ended → Prints run output input input house house ear ear ended
  prints told text right put =
      record { told = told; text = text; right = right; put = put; fault = fault; unheard = refl; still = refl; deaf = refl }

  -- the line of want of memory is right
  prints_memory : Puts output.before output.after (status_text status.NoMemory) status.NoMemory ended → Prints run output input input house house ear ear ended
  prints_memory put = prints status.NoMemory (status_text status.NoMemory) (inr (record { cause = inl tt; line = refl })) put

  pub prints_refusal : (cause : Status) → IsWordsCause run.words cause → PutsCause output.before output.after cause ended → Prints run output input input house house ear ear ended
  prints_refusal cause is (inl put) = prints cause (status_text cause) (inr (record { cause = inl is; line = refl })) put
  prints_refusal cause is (inr put) = prints_memory put

  pub prints_answer : (asked : Asked) → Asks run asked → (answer : Result Printed Status) → IfOk answer (λ told. Answers run.file asked (bytes_of told)) → IfErr answer (Fails run.file asked)
      → PutsAnswer answer output.before output.after ended → Prints run output input input house house ear ear ended
  prints_answer asked asks (Ok told) done fails put =
      prints status.Done (bytes_of told) (inl (record { done = refl; answer = record { asked = asked; asks = asks; answers = done } })) put
  prints_answer asked asks (Err cause) done fails (inl put) =
      prints cause (status_text cause) (inr (record { cause = inr (record { asked = asked; asks = asks; fails = fails }); line = refl })) put
  prints_answer asked asks (Err cause) done fails (inr put) = prints_memory put

-- ---- files that were read between

module _ (old mid new : AtFiles) where
  -- what was told of the map's file is told of it in the whole run
  pub same_map : (source : Source) (map : Map) → GivesMap (file_over old mid) source map → GivesMap (file_over old new) source map
  same_map (in_file name) map h = h
  same_map (by_formula sides seed) map h = h

  module _ (read : AreRead old mid) where
    -- and so is what was told of the second file
    pub same_task : (aim : Aim) (given : Task) → GivesTask (file_over mid new) aim given → GivesTask (file_over old new) aim given
    same_task (path start goal) given h = h
    same_task check given h = h
    same_task near given h = h
    same_task (nearpath start goal) given h = h
    same_task (scen scenarios) given h = record {
      scenarios = h.scenarios;
      is = h.is;
      holds = subst (λ held. IfSome held (λ bytes. (length bytes ≤ MAX_SCEN_BYTES) × (scenarios_of bytes ≡ Ok h.scenarios.items))) (read.kept scenarios) h.holds;
    }
    same_task (made seed) given h = h
    same_task (replay events) given h = record {
      events = h.events;
      is = h.is;
      holds = subst (λ held. IfSome held (λ bytes. (length bytes ≤ MAX_EVENTS_BYTES) × AreEventsOf bytes h.events)) (read.kept events) h.holds;
    }
    same_task export given h = h

    rose_before : (a b c : ℕ) → a ≤ b → Rose b c → Rose a c
    rose_before a b c below rose = omega arith

    same_file_cause : (name : Text) (limit : ℕ) (cause : Status) → IsFileCause (file_over mid new name) limit cause
        → IsFileCause (file_over old new name) limit cause
    same_file_cause name limit status.ReadFault h = rose_before (old.faults name) (mid.faults name) (new.faults name) (read.later name) h
    same_file_cause name limit (status.TooLong told) h = (h.0, subst (λ held. IfSome held (λ bytes. limit < length bytes)) (read.kept name) h.1)
    same_file_cause name limit _ h = h

    same_scen_cause : (name : Text) (cause : Status) → IsScenFileCause (file_over mid new name) cause → IsScenFileCause (file_over old new name) cause
    same_scen_cause name (status.Scen fault) h =
        subst (λ held. IfSome held (λ bytes. (length bytes ≤ MAX_SCEN_BYTES) × (scenarios_of bytes ≡ Err fault))) (read.kept name) h
    same_scen_cause name status.ReadFault h = same_file_cause name MAX_SCEN_BYTES status.ReadFault h
    same_scen_cause name (status.TooLong limit) h = same_file_cause name MAX_SCEN_BYTES (status.TooLong limit) h
    same_scen_cause name _ h = h

    same_events_cause : (name : Text) (cause : Status) → IsEventsFileCause (file_over mid new name) cause
        → IsEventsFileCause (file_over old new name) cause
    same_events_cause name status.ReadFault h = same_file_cause name MAX_EVENTS_BYTES status.ReadFault h
    same_events_cause name (status.TooLong limit) h = same_file_cause name MAX_EVENTS_BYTES (status.TooLong limit) h
    same_events_cause name (status.Events line) h =
        subst (λ held. IfSome held (λ bytes. (length bytes ≤ MAX_EVENTS_BYTES) × (text_said bytes ≡ Err line))) (read.kept name) h
    same_events_cause name _ h = h

    same_task_cause : (aim : Aim) (cause : Status) → GivesNoTask (file_over mid new) aim cause → GivesNoTask (file_over old new) aim cause
    same_task_cause (scen scenarios) cause h = same_scen_cause scenarios cause h
    same_task_cause (replay events) cause h = same_events_cause events cause h
    same_task_cause _ cause h = h

    module _ (source : Source) (aim : Aim) (order : OrderKind) (map : Map) (gives : GivesMap (file_over old mid) source map) where
      -- there is a map, and another file is not what it has to be
      pub task_fails : (cause : Status) → GivesNoTask (file_over mid new) aim cause → FailsOfMap (file_over old new) source aim order cause
      task_fails cause h = inr (inl (record { map = map; gives = same_map source map gives; fails = same_task_cause aim cause h }))

      module _ (given : Task) (does : GivesTask (file_over mid new) aim given) where
        -- what the first version answers, and why it does not, is so of the run
        pub map_answers : (answer : Result Printed Status) → IfOk answer (λ told. IsFirstAnswer map order given (bytes_of told))
            → IfOk answer (λ told. AnswersOfMap (file_over old new) source aim order (bytes_of told))
        map_answers (Ok told) h = record { map = map; gives = same_map source map gives; task = given; does = same_task aim given does; first = h }
        map_answers (Err cause) h = tt

        pub version_fails : (answer : Result Printed Status) → IfErr answer (IsFirstCause map order given) → IfErr answer (FailsOfMap (file_over old new) source aim order)
        version_fails (Ok told) h = tt
        version_fails (Err cause) h =
            inr (inr (record { map = map; gives = same_map source map gives; task = given; does = same_task aim given does; first = h }))
