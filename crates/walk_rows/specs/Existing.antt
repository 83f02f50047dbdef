-- Each map has one list of components and, where it may be searched, a database in each order, whether or not they are
-- built.
use Rattle.std.specs.Prelude.{◌≡◌, ◌*◌, List, length}
use Rattle.moves.specs.declared.Cell.{Cell}
use Rattle.moves.specs.Maps.{Map, IsWithinLimits, IsSearchable}
use Rattle.moves.specs.Components.{IsComponentList}
use Rattle.cell_order.specs.declared.OrderKind.{OrderKind}
use Rattle.row_store.specs.Comps.{Comp}
use Rattle.versions.specs.Databases.{IsDatabase}

-- the map says of each of its cells what stands there, and its sides are within the limits
pub record IsWhole (map : Map) : Type 0 where
  pub limits : IsWithinLimits map.width map.height
  pub cells : length map.terrain ≡ map.width * map.height

-- a map has a list of components
abbrev pub ComponentsExist : Type 0
ComponentsExist = (map : Map) → IsWhole map → (components : List (List Cell)) × IsComponentList map components

-- a map that may be searched has a database in each order
abbrev pub DatabasesExist : Type 0
DatabasesExist =
    (map : Map) (order : OrderKind) → IsWhole map → IsSearchable map → (comps : List Comp) × IsDatabase map order comps
