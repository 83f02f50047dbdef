-- Edits of a map, and the map after them.
use Rattle.std.specs.Prelude.{◌≢◌, List, All, AllPairs}
use Rattle.std.specs.List.{fold}
use Rattle.moves.specs.Maps.{Map, IsInside, with_terrain}
use Rattle.edit_log.specs.declared.edit.CellChange.{CellChange}
use Rattle.edit_log.specs.declared.edit.Edit.{Edit}

-- the map with that one cell changed
abbrev pub changed : Map → CellChange → Map
changed map change = with_terrain map change.cell change.terrain

-- the map after an edit: its changes are made together
abbrev pub edited : Map → Edit → Map
edited map edit = fold changed map edit

-- the map after edits, one after another
abbrev pub map_after : Map → List Edit → Map
map_after map edits = fold edited map edits

-- each changed cell is inside the map
abbrev pub ChangesInside : Map → Edit → Type 0
ChangesInside map edit = All (λ change. IsInside map change.cell) edit

-- each cell that one of these edits changes is inside the map
abbrev pub EditsInside : Map → List Edit → Type 0
EditsInside map edits = All (ChangesInside map) edits

-- no two changes of the edit name the same cell
abbrev pub HasNoRepeats : Edit → Type 0
HasNoRepeats edit = AllPairs (λ change other. other.cell ≢ change.cell) edit
