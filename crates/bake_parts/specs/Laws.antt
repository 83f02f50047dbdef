-- Each map that may be searched has one version before all edits, in each order.
use Rattle.std.specs.Prelude.{◌≡◌}
use Rattle.moves.specs.Maps.{Map, IsSearchable}
use Rattle.cell_order.specs.declared.OrderKind.{OrderKind}
use Rattle.versions.specs.Databases.{Versioned}
use Rattle.walk_rows.specs.Existing.{IsWhole}
use Rattle.bake_parts.specs.Parts.{IsFirstVersion}

-- a version before all edits, and no other
pub record HasOneVersion (on : Map) (order : OrderKind) : Type 0 where
  pub version : Versioned
  pub first : IsFirstVersion on order version
  pub only : (other : Versioned) → IsFirstVersion on order other → other ≡ version

abbrev pub FirstVersionsExist : Type 0
FirstVersionsExist = (on : Map) (order : OrderKind) → IsWhole on → IsSearchable on → HasOneVersion on order
