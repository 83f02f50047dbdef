-- What a refusal of scenarios says.
use Rattle.std.specs.Prelude.{List, ℕ, ◌++◌, codes}
use Rattle.std.specs.Fmt.{decimal}
use Rattle.scen_read.specs.declared.fault.ScenError.{ScenError}
use Rattle.scen_read.specs.declared.fault.ScenError.TheVariants.{Fault, NoMemory}
use Rattle.scen_read.specs.declared.fault.ScenFault.{ScenFault}
use Rattle.scen_read.specs.declared.fault.ScenFault.TheVariants.{Version, Fields, Number}

-- the text of a refusal
abbrev pub fault_text : ScenFault → List ℕ
fault_text Version = codes "version"
fault_text (Fields line found) = codes "line " ++ decimal line ++ codes " has " ++ decimal found ++ codes " fields"
fault_text (Number line field) = codes "line " ++ decimal line ++ codes " field " ++ decimal field

-- the text of an error
abbrev pub error_text : ScenError → List ℕ
error_text (Fault fault) = fault_text fault
error_text NoMemory = codes "out of memory"
