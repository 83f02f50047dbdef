-- The cells of a component of a map, in any order.
use Rattle.std.proofs.Common.{◌≡◌, ℕ, ◌<◌, ◌≤◌, List, length, get_or, subst, inl, inr, arith}
use Rattle.std.specs.List.{Contains}
use Rattle.std.proofs.lemmas.Bool.{cases_lt}
use Rattle.std.proofs.lemmas.List.Elements.{Contains-get_or, All-contains, All-from_get_or}
use Rattle.std.proofs.lemmas.List.Sorted.{Contains-permutation, IsPermutation-sym}
use Rattle.moves.specs.declared.Cell.{Cell}
use Rattle.moves.specs.Maps.{Map, IsPassable}
use Rattle.moves.specs.MoveSets.{Has}
use Rattle.moves.specs.Paths.{Reaches}
use Rattle.moves.specs.FirstSetLists.{cell_of, AreFirstSets}
use Rattle.moves.specs.ComponentLaws.{HasJust}
use Rattle.moves.proofs.BestPaths.{first_move_exists}
use Rattle.moves.specs.PathLaws.{back_along}
use Rattle.moves.proofs.LawsOfPaths.{leads_back}
use Rattle.moves.proofs.MovesInSets.{Has-none}
use Rattle.moves.proofs.ComponentLaws.{components_keep_first_sets}
use Rattle.run_pack.specs.Runs.{ArePackable}
use Rattle.row_store.specs.Comps.{IsPlaceOf}
use Rattle.row_store.proofs.RowLaws.{HasJust-permuted}
use Rattle.near_rows.specs.NearRows.{AreWidened}
use Rattle.build_pool.specs.Places.{AreComponent}
use Rattle.near_rows.proofs.Compasses.{square_or_not}

-- the cell at a place is one of the cells
pub has_place : (cells : List Cell) (cell : Cell) (place : ℕ) → IsPlaceOf cells cell place → Contains cells cell
has_place cells cell place is = subst (Contains cells) is.there (Contains-get_or cells place (record { x = 0; y = 0 }) is.within)

module _ (map : Map) (cells : List Cell) (part : AreComponent map cells) where
  inside : (cell : Cell) → Contains cells cell → Contains part.component cell
  inside cell has = Contains-permutation cells part.component cell part.order has

  pub part_passable : (cell : Cell) → Contains cells cell → IsPassable map cell
  part_passable cell has = All-contains (IsPassable map) part.component cell part.is.passable (inside cell has)

  pub part_reaches : (from to : Cell) → Contains cells from → Contains cells to → Reaches map from to
  part_reaches from to a b = (part.is.whole from to (inside from a)).0 (inside to b)

  pub part_has : (from to : Cell) → Contains cells from → Reaches map from to → Contains cells to
  part_has from to a reaches =
      Contains-permutation part.component cells to (IsPermutation-sym cells part.component part.order) ((part.is.whole from to (inside from a)).1 reaches)

  -- whoever reaches one of the cells is one of them
  pub part_has_back : (from to : Cell) → Contains cells to → Reaches map from to → Contains cells from
  part_has_back from to b reaches = part_has to from b (back_along reaches.0, leads_back map from to reaches.0 reaches.1)

  -- the first sets over a map of the cells alone are those over the whole map
  pub first_over_part : (other : Map) (place : ℕ) (sets : List ℕ) → HasJust other cells → place < length cells
      → AreFirstSets other (cell_of cells place) cells sets → AreFirstSets map (cell_of cells place) cells sets
  first_over_part other place sets just within first =
      let here = inside (cell_of cells place) (Contains-get_or cells place (record { x = 0; y = 0 }) within) in
      let alone = HasJust-permuted other part.component cells part.order just in
      record {
        whole = first.whole;
        bytes = first.bytes;
        each = λ k there move.
            (let same = components_keep_first_sets map part.component other part.is alone (cell_of cells place) (cell_of cells k) move here in (
              λ has. same.0 ((first.each k there move).0 has),
              λ leads. (first.each k there move).1 (same.1 leads),
            ));
      }

  -- widened sets can be packed
  pub widened_packable : (place radius : ℕ) (sets : List ℕ) → place < length cells → length cells ≤ 32768
      → AreWidened map (cell_of cells place) radius cells sets → ArePackable sets
  widened_packable place radius sets within few widened =
      let size = widened.whole in
      let nowhere : Cell = record { x = 0; y = 0 } in
      record {
        some = omega arith;
        few = omega arith;
        non_empty = All-from_get_or (λ s. 0 < s) sets 0 (λ k less.
            (let there : k < length cells = omega arith in
            elim (square_or_not (cell_of cells place) radius (cell_of cells k)) [
              | inl square ↦ rw (widened.inside k there square) (omega arith)
              | inr out ↦
                  let reached = part_reaches (cell_of cells place) (cell_of cells k) (Contains-get_or cells place nowhere within) (Contains-get_or cells k nowhere there) in
                  let move = (first_move_exists map (cell_of cells place) (cell_of cells k)).0 reached in
                  let has : Has (get_or sets k 0) move.0 = (widened.outside k there out move.0).1 move.1 in
                  elim (cases_lt 0 (get_or sets k 0)) [
                    | inl above ↦ above
                    | inr none ↦
                        let zero : get_or sets k 0 ≡ 0 = omega arith in
                        absurd (Has-none move.0 (subst (λ s. Has s move.0) zero has))
                  ]
            ]));
      }
