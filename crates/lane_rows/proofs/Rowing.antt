-- The row of a lane has the first sets.
use Rattle.std.proofs.Common.{◌≡◌, ℕ, ◌<◌, ◌↔◌, List, length, get_or, slice_index, All, inl, inr, sym, ap, subst, ◌∙◌, arith}
use Rattle.std.proofs.lemmas.Bool.{cases_eq}
use Rattle.std.proofs.lemmas.List.{get_or_default}
use Rattle.moves.specs.declared.Cell.{Cell}
use Rattle.moves.specs.Maps.{Map}
use Rattle.moves.specs.MoveSets.{Has}
use Rattle.moves.specs.FirstSets.{IsFirstMove}
use Rattle.moves.proofs.MovesInSets.{Has-all, Has-none}
use Rattle.moves.specs.FirstSetLists.{cell_of, AreFirstSets}
use Rattle.lane_rows.specs.Equations.{lane_of}
use Rattle.lane_rows.specs.Laws.{IsTableOf}
use Rattle.lane_rows.specs.Tiles.{Tile, IsRowOf, IsSolved}
use Rattle.lane_rows.proofs.Exact.{one_of_cells}
use Rattle.lane_rows.proofs.First.{sets_are_first, some_move}

module _ (map : Map) (cells : List Cell) (near : List (List ℕ)) (tile : Tile) (lane : ℕ) (row : List ℕ) (l : lane < 16) (table : IsTableOf map cells near) (solved : IsSolved near tile)
    (rows : IsRowOf tile lane row) (inside : slice_index tile.sources lane < tile.count) where
  abbrev source : ℕ
  source = slice_index tile.sources lane

  all_places : tile.count ≡ length cells
  all_places = sym solved.places ∙ table.edges.whole

  home : source < length cells
  home = let a = all_places in omega arith

  pub row_is_first : ((place : ℕ) → slice_index row place < 256) → AreFirstSets map (cell_of cells source) cells row
  row_is_first bytes = record {
    whole = rows.whole ∙ all_places;
    bytes = λ place d p. subst (λ set. set < 256) (get_or_default row place 0 d p) (bytes place);
    each = λ place p move. elim (cases_eq place source) [
      | inl same ↦
          let full : slice_index row place ≡ 255 = ap (slice_index row) same ∙ rows.source in (
            λ _. inl (sym (ap (cell_of cells) same), (table.just.just_these (cell_of cells source)).1 (one_of_cells cells source home)),
            λ _. subst (λ set. Has set move) (sym full) (Has-all move),
          )
      | inr apart ↦
          let is : slice_index row place ≡ lane_of tile.sets lane place = rows.others place (let a = all_places in omega arith) apart in
          subst (λ set. Has set move ↔ IsFirstMove map (cell_of cells source) (cell_of cells place) move) (sym is)
          (sets_are_first map cells near source (lane_of tile.keys lane) (lane_of tile.sets lane) table table.pairs home (solved.lanes lane l) place move p apart)
    ];
  }

  pub row_has_moves : All (λ set. 0 < set) row
  row_has_moves = λ place d p. subst (λ set. 0 < set) (get_or_default row place 0 d p) (some place p)
    where
      some : (place : ℕ) → place < length row → 0 < get_or row place 0
      some place p = elim (cases_eq place source) [
        | inl same ↦ let full : get_or row place 0 ≡ 255 = ap (slice_index row) same ∙ rows.source in omega arith
        | inr apart ↦
            let whole = rows.whole in
            let is : get_or row place 0 ≡ lane_of tile.sets lane place = rows.others place (omega arith) apart in
            let has = some_move map cells near source (lane_of tile.keys lane) (lane_of tile.sets lane) table table.pairs home (solved.lanes lane l) place (let a = all_places in omega arith) apart in
            elim (cases_eq (get_or row place 0) 0) [
              | inl none ↦ absurd (Has-none has.0 (subst (λ set. Has set has.0) (sym is ∙ none) has.1))
              | inr more ↦ omega arith
            ]
      ]
