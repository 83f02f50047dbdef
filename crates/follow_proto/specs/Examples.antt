-- An edit for examples.
use Rattle.std.specs.Prelude.{List, [], ◌∷◌}
use Rattle.moves.specs.declared.Terrain.TheVariants.{Blocked}
use Rattle.edit_log.specs.declared.edit.CellChange.{CellChange}

-- the upper left cell becomes blocked
abbrev pub first_blocked : List CellChange
first_blocked = record { cell = record { x = 0; y = 0 }; terrain = Blocked } ∷ []
