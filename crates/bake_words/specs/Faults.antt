-- Why nothing was baked, in words.
use Rattle.std.specs.Prelude.{ℕ, List, ◌++◌, codes}
use Rattle.std.specs.Fmt.{decimal}
use Rattle.bake_words.specs.declared.fault.BakeFault.{BakeFault}
use Rattle.bake_words.specs.declared.fault.CellsFault.{CellsFault}

abbrev pub bake_text : BakeFault → List ℕ
bake_text (BakeFault.TooSmall needed) = codes "room for too few words of " ++ decimal needed
bake_text BakeFault.NoMemory = codes "out of memory"

abbrev pub cells_text : CellsFault → List ℕ
cells_text CellsFault.Sides = codes "sides that no map may have"
cells_text CellsFault.Count = codes "more cells or fewer than the sides say"
cells_text (CellsFault.BadByte place) = codes "byte that stands for no cell at place " ++ decimal place
cells_text CellsFault.TooManyCells = codes "too many passable cells"
cells_text CellsFault.NoMemory = codes "out of memory"
