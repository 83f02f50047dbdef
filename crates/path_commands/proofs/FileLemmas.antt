-- What the bytes of a file say of its map, of its scenarios or of its events.
use Rattle.std.proofs.Common.{◌≡◌, ◌≤◌, ℕ, List, length, Option, Some, None, Ok, Err, IfSome, sym, subst}
use Rattle.moves.specs.Maps.{Map}
use Rattle.map_read.specs.declared.fault.MapFault.{MapFault}
use Rattle.map_read.specs.MapText.{map_of}
use Rattle.map_read.specs.declared.TheConstants.{MAX_MAP_BYTES}
use Rattle.scen_read.specs.declared.fault.ScenFault.{ScenFault}
use Rattle.scen_read.specs.declared.scenario.ScenLine.{ScenLine}
use Rattle.scen_read.specs.declared.TheConstants.{MAX_SCEN_BYTES}
use Rattle.scen_read.specs.ScenText.{scenarios_of}
use Rattle.path_replay.specs.declared.event.Event.{Event}
use Rattle.path_replay.specs.declared.TheConstants.{MAX_EVENTS_BYTES}
use Rattle.path_replay.specs.Events.{AreEventsOf, text_said}
use Rattle.path_commands.specs.declared.status.Status.{Status}
use Rattle.path_commands.specs.declared.status.Status.TheVariants as status
use Rattle.path_commands.specs.Runs.{RunFile, HoldsBytes, HoldsEvents, HoldsMap, HoldsNoEvents, HoldsNoMap, HoldsNoScenarios, HoldsScenarios, IsEventsFileCause, IsFileCause, IsMapFileCause, IsScenFileCause}

-- what holds of the bytes that were read holds of those that are told
of_told : (P : List ℕ → Type 0) (held : Option (List ℕ)) (limit : ℕ) (bytes : List ℕ) → IfSome held (λ told. (length told ≤ limit) × (told ≡ bytes)) → P bytes
    → IfSome held (λ told. (length told ≤ limit) × P told)
of_told P None limit bytes holds p = tt
of_told P (Some told) limit bytes holds p = (holds.0, subst P (sym holds.1) p)

pub holds_map : (file : RunFile) (bytes : List ℕ) (map : Map) → HoldsBytes file MAX_MAP_BYTES bytes → map_of bytes ≡ Ok map → HoldsMap file map
holds_map file bytes map holds is = of_told (λ bytes. map_of bytes ≡ Ok map) file.held MAX_MAP_BYTES bytes holds is

pub holds_no_map : (file : RunFile) (bytes : List ℕ) (fault : MapFault) → HoldsBytes file MAX_MAP_BYTES bytes → map_of bytes ≡ Err fault → HoldsNoMap file fault
holds_no_map file bytes fault holds is = of_told (λ bytes. map_of bytes ≡ Err fault) file.held MAX_MAP_BYTES bytes holds is

-- a file that is not read gives no map
pub file_cause : (file : RunFile) (cause : Status) → IsFileCause file MAX_MAP_BYTES cause → IsMapFileCause file cause
file_cause file status.Done h = h
file_cause file status.Usage h = h
file_cause file (status.Map fault) h = absurd h
file_cause file (status.Scen fault) h = h
file_cause file (status.Query refusal) h = h
file_cause file status.ReadFault h = h
file_cause file status.WriteFault h = h
file_cause file status.NoMemory h = h
file_cause file (status.TooLong limit) h = h
file_cause file (status.Broken why) h = absurd h
file_cause file status.BadAnswer h = absurd h
file_cause file (status.Events line) h = h
file_cause file (status.Db fault) h = h
file_cause file status.LeaderMemory h = absurd h

pub holds_scenarios : (file : RunFile) (bytes : List ℕ) (scenarios : List ScenLine) → HoldsBytes file MAX_SCEN_BYTES bytes → scenarios_of bytes ≡ Ok scenarios → HoldsScenarios file scenarios
holds_scenarios file bytes scenarios holds is = of_told (λ bytes. scenarios_of bytes ≡ Ok scenarios) file.held MAX_SCEN_BYTES bytes holds is

pub holds_no_scenarios : (file : RunFile) (bytes : List ℕ) (fault : ScenFault) → HoldsBytes file MAX_SCEN_BYTES bytes → scenarios_of bytes ≡ Err fault → HoldsNoScenarios file fault
holds_no_scenarios file bytes fault holds is = of_told (λ bytes. scenarios_of bytes ≡ Err fault) file.held MAX_SCEN_BYTES bytes holds is

-- a file that is not read gives no scenarios
pub scenario_file_cause : (file : RunFile) (cause : Status) → IsFileCause file MAX_SCEN_BYTES cause → IsScenFileCause file cause
scenario_file_cause file status.Done h = h
scenario_file_cause file status.Usage h = h
scenario_file_cause file (status.Map fault) h = h
scenario_file_cause file (status.Scen fault) h = absurd h
scenario_file_cause file (status.Query refusal) h = h
scenario_file_cause file status.ReadFault h = h
scenario_file_cause file status.WriteFault h = h
scenario_file_cause file status.NoMemory h = h
scenario_file_cause file (status.TooLong limit) h = h
scenario_file_cause file (status.Broken why) h = absurd h
scenario_file_cause file status.BadAnswer h = absurd h
scenario_file_cause file (status.Events line) h = h
scenario_file_cause file (status.Db fault) h = h
scenario_file_cause file status.LeaderMemory h = absurd h

pub holds_events : (file : RunFile) (bytes : List ℕ) (events : List Event) → HoldsBytes file MAX_EVENTS_BYTES bytes → AreEventsOf bytes events → HoldsEvents file events
holds_events file bytes events holds are = of_told (λ bytes. AreEventsOf bytes events) file.held MAX_EVENTS_BYTES bytes holds are

pub holds_no_events : (file : RunFile) (bytes : List ℕ) (line : ℕ) → HoldsBytes file MAX_EVENTS_BYTES bytes → text_said bytes ≡ Err line → HoldsNoEvents file line
holds_no_events file bytes line holds is = of_told (λ bytes. text_said bytes ≡ Err line) file.held MAX_EVENTS_BYTES bytes holds is

-- a file that is not read gives no events
pub events_file_cause : (file : RunFile) (cause : Status) → IsFileCause file MAX_EVENTS_BYTES cause → IsEventsFileCause file cause
events_file_cause file status.Done h = h
events_file_cause file status.Usage h = h
events_file_cause file (status.Map fault) h = h
events_file_cause file (status.Scen fault) h = h
events_file_cause file (status.Query refusal) h = h
events_file_cause file status.ReadFault h = h
events_file_cause file status.WriteFault h = h
events_file_cause file status.NoMemory h = h
events_file_cause file (status.TooLong limit) h = h
events_file_cause file (status.Broken why) h = absurd h
events_file_cause file status.BadAnswer h = absurd h
events_file_cause file (status.Events line) h = absurd h
events_file_cause file (status.Db fault) h = h
events_file_cause file status.LeaderMemory h = absurd h
