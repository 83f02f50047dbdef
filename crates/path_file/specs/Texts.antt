-- What a refusal of a file says.
use Rattle.std.specs.Prelude.{ℕ, List, ◌++◌, codes}
use Rattle.std.specs.Fmt.{decimal}
use Rattle.path_file.specs.declared.fault.DbError.{DbError}
use Rattle.path_file.specs.declared.fault.DbError.TheVariants.{Fault, NoMemory}
use Rattle.path_file.specs.declared.fault.DbFault.{DbFault}
use Rattle.path_file.specs.declared.fault.DbFault.TheVariants.{Magic, Size, Kind, Terrain, TooManyCells, Cut, Runs, Extra, Walk, Worse, Loose}

-- a component and two of its places, with a space before each
abbrev pub places_text : ℕ → ℕ → ℕ → List ℕ
places_text comp target source = decimal comp ++ codes " " ++ decimal target ++ codes " " ++ decimal source

-- the text of a fault
abbrev pub fault_text : DbFault → List ℕ
fault_text Magic = codes "magic"
fault_text Size = codes "size"
fault_text (Kind byte) = codes "kind " ++ decimal byte
fault_text (Terrain place byte) = codes "terrain " ++ decimal byte ++ codes " at " ++ decimal place
fault_text (TooManyCells place) = codes "too many cells at " ++ decimal place
fault_text (Cut have) = codes "cut at " ++ decimal have
fault_text (Runs comp source) = codes "runs " ++ decimal comp ++ codes " " ++ decimal source
fault_text (Extra from) = codes "extra at " ++ decimal from
fault_text (Walk comp target source) = codes "walk " ++ places_text comp target source
fault_text (Worse comp target source) = codes "worse " ++ places_text comp target source
fault_text (Loose comp target source) = codes "loose " ++ places_text comp target source

-- the text of an error
abbrev pub error_text : DbError → List ℕ
error_text (Fault fault) = fault_text fault
error_text NoMemory = codes "out of memory"
