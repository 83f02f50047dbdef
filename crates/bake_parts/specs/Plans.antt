-- What is known of a map whose image is baked in parts.
use Rattle.std.specs.Prelude.{◌≡◌, ℕ, ◌+◌, ◌*◌, ◌<◌, ◌≤◌, true, List, ◌∷◌, length, map, take, drop, slice_index_or, Option, IfSome}
use Rattle.moves.specs.declared.Cell.{Cell}
use Rattle.moves.specs.Maps.{Map, IsSearchable, IsWithinLimits}
use Rattle.moves.specs.declared.TheConstants.{MAX_PASSABLE}
use Rattle.moves.specs.Components.{IsComponentList}
use Rattle.run_pack.specs.declared.Run.{Run}
use Rattle.cell_order.specs.declared.OrderKind.{OrderKind}
use Rattle.cell_order.specs.Orders.{ordered}
use Rattle.row_store.specs.Rows.{AreRows}
use Rattle.build_pool.specs.Places.{AreComponent}
use Rattle.build_pool.specs.Pieces.{ArePackedOver, AreWordsOver}
use Rattle.versions.specs.Databases.{Versioned, comp_at}
use Rattle.bake_parts.specs.declared.sources.Sources.{Sources}
use Rattle.bake_parts.specs.declared.bench.Bench.{Bench}
use Rattle.bake_parts.specs.declared.plain.Plain.{Plain}
use Rattle.bake_parts.specs.Parts.{IsFirstVersion, HasSources, counted_rows, part_of}
use Rattle.bake_parts.specs.Rooms.{HasFront, GrowsFront}

-- a bake as its callers see it: the map, and the order
pub record Planned : Type 0 where
  pub on : Map
  pub order : OrderKind

-- the components of the map, with the cells of each in the order
pub record AreOrdered (on : Map) (order : OrderKind) (all : List (List Cell)) : Type 0 where
  pub limits : IsWithinLimits on.width on.height
  pub whole : length on.terrain ≡ on.width * on.height
  pub searchable : IsSearchable on
  pub components : List (List Cell)
  pub listed : IsComponentList on components
  pub are : all ≡ map (ordered order) components

-- the component with that number in a list has these cells
pub record IsAmong (all : List (List Cell)) (number : ℕ) (cells : List Cell) : Type 0 where
  pub within : number < length all
  pub is : cells ≡ slice_index_or all number cells

-- the component with that number has these cells
pub record HasComponent (version : Versioned) (number : ℕ) (cells : List Cell) : Type 0 where
  pub within : number < length version.comps
  pub are : (comp_at version.comps number).cells ≡ cells

-- these are the cells of the component with that number, in their order
pub record IsComponentOf (plan : Planned) (number : ℕ) (cells : List Cell) : Type 0 where
  pub searchable : IsSearchable plan.on
  pub component : AreComponent plan.on cells
  pub few : length cells ≤ MAX_PASSABLE
  pub kept : (version : Versioned) → IsFirstVersion plan.on plan.order version → HasComponent version number cells

-- and none has that number
abbrev pub IsNoComponentOf : Planned → ℕ → Type 0
IsNoComponentOf plan number = (version : Versioned) → IsFirstVersion plan.on plan.order version → length version.comps ≤ number

-- the sources are places of a component with so many cells, one at least
pub record ArePlaces (sources : Sources) (size : ℕ) : Type 0 where
  pub some : 0 < sources.count
  pub inside : sources.first + sources.count ≤ size

-- so many components the version has
abbrev pub CountsComponents : Planned → ℕ → Type 0
CountsComponents plan count = (version : Versioned) → IsFirstVersion plan.on plan.order version → count ≡ length version.comps

-- the version has these sources, and these are the words of their part
pub record IsPartIn (version : Versioned) (sources : Sources) (words : List ℕ) : Type 0 where
  pub has : HasSources version sources
  pub is : words ≡ part_of version sources

-- each first version of the plan's map has these sources, and these are the words of their part
abbrev pub IsPartOf : Planned → Sources → List ℕ → Type 0
IsPartOf plan sources words = (version : Versioned) → IsFirstVersion plan.on plan.order version → IsPartIn version sources words

-- the part stands at the front of the room, and what lies behind is as it was
pub record WritesPart (plan : Planned) (sources : Sources) (old new : List ℕ) (count : ℕ) : Type 0 where
  pub fits : count ≤ length old
  pub part : IsPartOf plan sources (take count new)
  pub rest : drop count new ≡ drop count old

-- no part of these sources has more words
abbrev pub IsMostFor : Planned → Sources → ℕ → Type 0
IsMostFor plan sources most = (version : Versioned) → IsFirstVersion plan.on plan.order version → length (part_of version sources) ≤ most

-- the version has no such sources
abbrev pub AreNoSources : Planned → Sources → Type 0
AreNoSources plan sources = (version : Versioned) → IsFirstVersion plan.on plan.order version → HasSources version sources → ⊥

-- ---- while a part is written

-- the words of so many rows of the cells, from one on, of which there is one list
abbrev pub AreRowWords : List Cell → ℕ → ℕ → List ℕ → Type 0
AreRowWords cells first count words = (rows : List (List Run)) → AreRows cells rows → words ≡ counted_rows rows first count

-- the row of the cell at a place is put behind what stands at the front
pub record PutsRow (cells : List Cell) (place at upto : ℕ) (old new : List ℕ) : Type 0 where
  pub words : List ℕ
  pub row : AreWordsOver cells place words
  pub end : upto ≡ at + 1 + length words
  pub grows : GrowsFront at old new (length words ∷ words)

-- the head of a part and its first rows are put
pub record PutsRows (cells : List Cell) (sources : Sources) (count upto : ℕ) (old new : List ℕ) : Type 0 where
  pub words : List ℕ
  pub rows : AreRowWords cells sources.first count words
  pub end : upto ≡ 3 + length words
  pub few : upto ≤ 3 + 32769 * count
  pub front : HasFront old new (sources.component ∷ sources.first ∷ sources.count ∷ words)

-- a bench for these cells, whose tile has rows of theirs where it says so
pub record IsReady (cells : List Cell) (bench : Bench) : Type 0 where
  pub count : bench.tiles.count ≡ length cells
  pub marks : length bench.wanted.items ≡ length cells
  pub rows : bench.has_rows ≡ true → ArePackedOver cells bench.tiles

-- there is room for a plain search over the map
abbrev pub HasRoom : Map → Plain → Type 0
HasRoom on plain = on.width * on.height ≤ plain.search.room

-- so it is where there is a plain search
abbrev pub MayHaveRoom : Map → Option Plain → Type 0
MayHaveRoom on plain = IfSome plain (HasRoom on)
