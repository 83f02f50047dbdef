-- How one list of cells follows from another.
use Rattle.std.specs.Prelude.{List}
use Rattle.moves.specs.declared.Cell.{Cell}
use Rattle.kept_rows.specs.declared.gap.Change.{Change}
use Rattle.kept_rows.specs.declared.gap.Change.TheVariants.{Out, In}
use Rattle.kept_rows.specs.Gaps.{IsPart}

-- the cells follow so from the former ones
abbrev pub IsChange : List Cell → List Cell → Change → Type 0
IsChange former cells (Out gaps) = IsPart former cells gaps.items
IsChange former cells (In gaps) = IsPart cells former gaps.items
