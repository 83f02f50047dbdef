-- Rows depend on the passable cells and their classes alone.
use Rattle.std.proofs.Common.{◌≡◌, ◌↔◌, ℕ, ◌<◌, List, [], length, get_or, sym, ◌∙◌, subst, arith}
use Rattle.std.specs.List.Sorted.{IsPermutation}
use Rattle.std.proofs.lemmas.List.{same_lists, get_or_default}
use Rattle.std.proofs.lemmas.List.Elements.{Contains-get_or}
use Rattle.std.proofs.lemmas.List.Sorted.{Contains-permutation, IsPermutation-sym}
use Rattle.run_pack.specs.declared.Run.{Run}
use Rattle.run_pack.specs.Runs.{IsTight}
use Rattle.run_pack.proofs.Fewest.{same_tight}
use Rattle.moves.specs.declared.Cell.{Cell}
use Rattle.moves.specs.declared.Move.{Move}
use Rattle.moves.specs.Maps.{Map}
use Rattle.moves.specs.ComponentLaws.{HasJust}
use Rattle.moves.specs.FirstSets.{IsFirstMove}
use Rattle.moves.specs.FirstSetLists.{cell_of, AreFirstSets}
use Rattle.moves.specs.SamePaths.{HaveSameClasses}
use Rattle.moves.proofs.MovesInSets.{sets_by_moves}
use Rattle.moves.proofs.SamePaths.{same_first_move, same_classes_back}
use Rattle.moves.proofs.ComponentLaws.{components_keep_first_sets}
use Rattle.row_store.specs.Rows.{row_at, IsRowFrom, RowsAreUnique, ComponentsKeepEachRow, ComponentsKeepRows}

-- maps that have just the same cells
pub same_just : (a b : Map) (cells : List Cell) → HasJust a cells → HasJust b cells → HaveSameClasses a b
same_just a b cells p q = record {
  passable = λ cell. (
    λ free. (q.just_these cell).1 ((p.just_these cell).0 free),
    λ free. (p.just_these cell).1 ((q.just_these cell).0 free),
  );
  alike = λ cell other free.
      let here = (p.just_these cell).0 free in (
        λ like. q.one_class cell other here ((p.just_these other).0 like.passable),
        λ like. p.one_class cell other here ((q.just_these other).0 like.passable),
      );
}

-- first sets of one source to the same cells, over maps with the same passable cells in the same classes
pub same_first_sets : (a b : Map) (from : Cell) (cells : List Cell) (s t : List ℕ) → HaveSameClasses a b → AreFirstSets a from cells s → AreFirstSets b from cells t → s ≡ t
same_first_sets a b from cells s t same p q =
    let size : length s ≡ length t = p.whole ∙ sym q.whole in
    same_lists s t size (λ k d within.
    (let place : k < length cells = omega (arith, p.whole) in
    let there : k < length t = omega arith in
    let set = sets_by_moves (get_or s k 0) (get_or t k 0) (p.bytes k 0 within) (q.bytes k 0 there) (λ move. (
      λ has. (q.each k place move).1 (same_first_move a b same from (cell_of cells k) move ((p.each k place move).0 has)),
      λ has. (p.each k place move).1 (same_first_move b a (same_classes_back a b same) from (cell_of cells k) move ((q.each k place move).0 has)),
    )) in
    get_or_default s k d 0 within ∙ set ∙ get_or_default t k 0 d there))

pub same_rows_from : (a b : Map) (cells : List Cell) (from : Cell) (r s : List Run) → HaveSameClasses a b → IsRowFrom a cells from r → IsRowFrom b cells from s → r ≡ s
same_rows_from a b cells from r s same p q =
    let sets : p.sets ≡ q.sets = same_first_sets a b from cells p.sets q.sets same p.first q.first in
    same_tight r s p.sets p.tight (subst (IsTight s) (sym sets) q.tight)

pub rows_are_unique : RowsAreUnique
rows_are_unique cells a b p q =
    let size : length a ≡ length b = p.whole ∙ sym q.whole in
    same_lists a b size (λ k d within.
    (let place : k < length cells = omega (arith, p.whole) in
    let there : k < length b = omega arith in
    let row = same_rows_from p.map q.map cells (cell_of cells k) (row_at a k) (row_at b k) (same_just p.map q.map cells p.just q.just) (p.each k place) (q.each k place) in
    get_or_default a k d [] within ∙ row ∙ get_or_default b k [] d there))

-- a row over another map that has the same first moves from its source
pub row_over : (a b : Map) (cells : List Cell) (from : Cell) (row : List Run)
    → ((to : Cell) (move : Move) → IsFirstMove a from to move ↔ IsFirstMove b from to move) → IsRowFrom a cells from row
    → IsRowFrom b cells from row
row_over a b cells from row same p = record {
  sets = p.sets;
  first = record {
    whole = p.first.whole;
    bytes = p.first.bytes;
    each = λ place within move. (
      λ has. (same (cell_of cells place) move).0 ((p.first.each place within move).0 has),
      λ first. (p.first.each place within move).1 ((same (cell_of cells place) move).1 first),
    );
  };
  tight = p.tight;
}

-- the cells in another order are the same cells
pub HasJust-permuted : (part : Map) (component cells : List Cell) → IsPermutation cells component → HasJust part cells → HasJust part component
HasJust-permuted part component cells order just =
    let back = IsPermutation-sym cells component order in
    record {
      just_these = λ cell. (
        λ free. Contains-permutation cells component cell order ((just.just_these cell).0 free),
        λ has. (just.just_these cell).1 (Contains-permutation component cells cell back has),
      );
      one_class = λ cell other in_cell in_other.
          just.one_class cell other (Contains-permutation component cells cell back in_cell)
          (Contains-permutation component cells other back in_other);
    }

pub components_keep_each_row : ComponentsKeepEachRow
components_keep_each_row map component cells part is order just from row has =
    let inside = Contains-permutation cells component from order has in
    let first = λ (to : Cell) (move : Move). components_keep_first_sets map component part is (HasJust-permuted part component cells order just) from to move inside in
    (row_over part map cells from row first, row_over map part cells from row (λ to move. ((first to move).1, (first to move).0)))

pub components_keep_rows : ComponentsKeepRows
components_keep_rows map component cells rows is order p place within =
    let has = Contains-get_or cells place (record { x = 0; y = 0 }) within in
    (components_keep_each_row map component cells p.map is order p.just (cell_of cells place) (row_at rows place) has).0 (p.each place within)
