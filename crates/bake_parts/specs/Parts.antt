-- A part of an image: the rows of some sources that stand one behind the other in the order of a component. No word says where the
-- part lies.
--
-- An example: of the map `...` in the order row by row, whose cells have the rows (0,E) and (0,W),(2,E) and (0,W), the part of the
-- last two sources has 8 words:
--
--     0 1 2      the number of the component, the place of the first source, and how many sources
--     2 6 18     the first row: how many runs it has, and these, each its start times 8 and the number of its move
--     1 6        and the second
--
-- (Botea 2011; Strasser, Harabor and Botea 2014)
use Rattle.std.specs.Prelude.{◌≡◌, ℕ, ◌+◌, ◌<◌, ◌≤◌, List, ◌∷◌, length, take, drop}
use Rattle.std.specs.List.{flat_map}
use Rattle.moves.specs.Maps.{Map}
use Rattle.cell_order.specs.declared.OrderKind.{OrderKind}
use Rattle.run_pack.specs.declared.Run.{Run}
use Rattle.versions.specs.Databases.{Versioned, IsVersion, comp_at}
use Rattle.path_image.specs.Images.{row_words}
use Rattle.bake_parts.specs.declared.sources.Sources.{Sources}

-- the version of a map before all edits, in that order: there is one, since a map has one database in each order
pub record IsFirstVersion (on : Map) (order : OrderKind) (version : Versioned) : Type 0 where
  pub of : version.map ≡ on
  pub first : version.prefix ≡ 0
  pub in_order : version.order ≡ order
  pub is : IsVersion version

-- the version has these sources, of which there is one at least
pub record HasSources (version : Versioned) (sources : Sources) : Type 0 where
  pub component : sources.component < length version.comps
  pub some : 0 < sources.count
  pub inside : sources.first + sources.count ≤ length (comp_at version.comps sources.component).cells

-- a row in a part: how many runs it has, and these
abbrev pub counted_row : List Run → List ℕ
counted_row row = length row ∷ row_words row

-- so many of some rows, from one of them on, as they stand in a part
abbrev pub counted_rows : List (List Run) → ℕ → ℕ → List ℕ
counted_rows rows first count = flat_map counted_row (take count (drop first rows))

-- the words of a part
unfoldable pub part_of : Versioned → Sources → List ℕ
part_of version sources =
    sources.component ∷ sources.first ∷ sources.count
    ∷ counted_rows (comp_at version.comps sources.component).rows sources.first sources.count
