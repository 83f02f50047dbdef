-- What a version keeps besides its map and its database, so that it is not computed again.
use Rattle.std.specs.Prelude.{◌≡◌, List, length}
use Rattle.moves.specs.declared.Cell.{Cell}
use Rattle.moves.specs.Maps.{Map, IsSearchable, passable_count}
use Rattle.moves.specs.Components.{IsComponentList}
use Rattle.cell_order.specs.declared.OrderKind.{OrderKind}
use Rattle.row_store.specs.Comps.{Comp}
use Rattle.versions.specs.declared.version.Totals.{Totals}
use Rattle.versions.specs.Databases.{IsDatabase, runs_of}

pub record IsStored (map : Map) (order : OrderKind) (labels : List (List Cell)) (comps : List Comp) (totals : Totals) : Type 0 where
  pub searchable : IsSearchable map
  pub database : IsDatabase map order comps
  pub listed : IsComponentList map labels
  pub long : length comps ≡ length labels
  pub cells : totals.cells ≡ passable_count map
  pub components : totals.comps ≡ length comps
  pub runs : totals.runs ≡ runs_of comps
