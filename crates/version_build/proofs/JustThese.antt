-- A map in which all cells but those of a component are blocked.
use Rattle.std.proofs.Common.{◌≡◌, ◌*◌, ◌<◌, Bool, false, List, map, get_or, All, sym, ap, ◌∙◌, arith}
use Rattle.std.specs.List.{Contains, range_with_len}
use Rattle.std.proofs.lemmas.List.Elements.{All-contains}
use Rattle.std.proofs.lemmas.List.FromFn.{get_or-map-range_with_len}
use Rattle.moves.specs.declared.Cell.{Cell}
use Rattle.moves.specs.Maps.{Map, IsPassable, cell_at, place_of, map_with, has_cell}
use Rattle.moves.specs.ComponentLaws.{HasJust}
use Rattle.moves.proofs.Connected.{Contains-from_has_cell, has_cell-from_contains}
use Rattle.moves.proofs.LandMaps.{land_is_like, marked_if_passable, passable_if_marked}
use Rattle.moves.proofs.RowMajor.{cell_at_place_of, place_inside}

abbrev marks_of : Map → List Cell → List Bool
marks_of m cells = map (λ place. has_cell cells (cell_at m.width place)) (range_with_len 0 (m.width * m.height))

-- the map of the same sides with just these cells
abbrev pub just_map : Map → List Cell → Map
just_map m cells = map_with m.width m.height (marks_of m cells)

module _ (m : Map) (cells : List Cell) where
  mark_at : (cell : Cell) → cell.x < m.width → cell.y < m.height → get_or (marks_of m cells) (place_of m.width cell) false ≡ has_cell cells cell
  mark_at cell column row =
      get_or-map-range_with_len (λ place. has_cell cells (cell_at m.width place)) 0 (m.width * m.height) (place_of m.width cell) (place_of m.width cell) false
      (place_inside m.width m.height cell column row) (omega arith)
      ∙ ap (has_cell cells) (cell_at_place_of m.width cell column)

  free_here : All (IsPassable m) cells → (cell : Cell) → Contains cells cell → IsPassable (just_map m cells) cell
  free_here free cell has =
      let p = All-contains (IsPassable m) cells cell free has in
      passable_if_marked m.width m.height (marks_of m cells) cell (record { column = p.inside.column; row = p.inside.row })
      (mark_at cell p.inside.column p.inside.row ∙ has_cell-from_contains cells cell has)

  pub just_these_cells : All (IsPassable m) cells → HasJust (just_map m cells) cells
  just_these_cells free = record {
    just_these = λ cell. (
      λ p. Contains-from_has_cell cells cell
          (sym (mark_at cell p.inside.column p.inside.row) ∙ marked_if_passable m.width m.height (marks_of m cells) cell p),
      free_here free cell,
    );
    one_class = λ cell other has also.
        land_is_like m.width m.height (marks_of m cells) cell other (free_here free cell has) (free_here free other also);
  }
