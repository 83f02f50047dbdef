-- The texts of the errors of reading a map.
use Rattle.std.specs.Prelude.{ℕ, List, ◌++◌, codes}
use Rattle.std.specs.Fmt.{decimal}
use Rattle.map_read.specs.declared.fault.MapError.{MapError}
use Rattle.map_read.specs.declared.fault.MapError.TheVariants.{Fault, NoMemory}
use Rattle.map_read.specs.declared.fault.MapFault.{MapFault}
use Rattle.map_read.specs.declared.fault.MapFault.TheVariants.{Header, Size, RowLength, BadCell, MissingRows, Extra, TooManyCells}

-- a cell's column and row, with a space between them
abbrev pub place_text : ℕ → ℕ → List ℕ
place_text x y = decimal x ++ codes " " ++ decimal y

-- the text of a fault
abbrev pub fault_text : MapFault → List ℕ
fault_text (Header line) = codes "header at line " ++ decimal line
fault_text (Size line) = codes "size at line " ++ decimal line
fault_text (RowLength line expected found) =
    codes "line " ++ decimal line ++ codes " has " ++ decimal found ++ codes " cells" ++ (codes ", not " ++ decimal expected)
fault_text (BadCell x y byte) = codes "byte " ++ decimal byte ++ codes " at " ++ place_text x y
fault_text (MissingRows found) = decimal found ++ codes " rows found"
fault_text (Extra line) = codes "extra line " ++ decimal line
fault_text (TooManyCells x y) = codes "too many cells at " ++ place_text x y

-- the text of an error
abbrev pub error_text : MapError → List ℕ
error_text (Fault fault) = fault_text fault
error_text NoMemory = codes "out of memory"
