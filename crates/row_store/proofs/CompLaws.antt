-- What a look-up in the rows of a component finds.
use Rattle.std.proofs.Common.{◌≡◌, ◌≢◌, ℕ, ◌*◌, ◌<◌, ◌≤◌, List, [], ◌∷◌, ◌++◌, length, slice_index, Option, Some, None, MatchOption, sym, ap, subst, ◌∙◌, inl, inr, arith}
use Rattle.std.specs.Option.{UnwrapsOrElse}
use Rattle.std.proofs.lemmas.Bool.{cases_lt}
use Rattle.std.proofs.Math.Seq.{get_or-append_seam}
use Rattle.std.specs.List.Sorted.{IsPermutation}
use Rattle.std.proofs.lemmas.List.{length-append}
use Rattle.std.specs.List.{All, sum_by}
use Rattle.std.proofs.lemmas.Nat.{mul-le}
use Rattle.std.proofs.lemmas.List.Elements.{Contains-get_or, All-from_get_or}
use Rattle.std.proofs.lemmas.List.Sums.{sum_by-le}
use Rattle.std.proofs.lemmas.List.Sorted.{Contains-permutation}
use Rattle.run_pack.specs.declared.Run.{Run}
use Rattle.run_pack.specs.Sets.{Has}
use Rattle.run_pack.specs.Runs.{IsFound}
use Rattle.run_pack.proofs.Fewest.{Fits-from_tight}
use Rattle.run_pack.proofs.RowLemmas.{length-row}
use Rattle.run_pack.proofs.Words.{All-start_below, All-move_below}
use Rattle.moves.specs.declared.Cell.{Cell}
use Rattle.moves.specs.declared.Move.{Move}
use Rattle.moves.specs.declared.TheConstants.{MAX_PASSABLE}
use Rattle.moves.specs.Maps.{Map}
use Rattle.moves.specs.Moves.{number_of}
use Rattle.moves.specs.Paths.{IsBest}
use Rattle.moves.specs.Components.{IsComponent}
use Rattle.moves.specs.ComponentLaws.{HasJust}
use Rattle.moves.specs.MoveSets.{Has as HasMove}
use Rattle.moves.specs.FirstSetLists.{cell_of}
use Rattle.moves.proofs.ComponentLaws.{components_keep_best_paths}
use Rattle.moves.proofs.SamePaths.{same_first_move}
use Rattle.row_store.specs.Rows.{row_at}
use Rattle.row_store.specs.Comps.{Comp, IsComp, IsMoveOfRow, BeginsBestPath}
use Rattle.row_store.specs.Pools.{CanBeKept}
use Rattle.row_store.proofs.RowLaws.{same_just, HasJust-permuted}

-- a set of numbers is a set of moves
HasMove-from_number : (set : ℕ) (move : Move) → Has set (number_of move) → HasMove set move
unfolding Has HasMove
HasMove-from_number set move has = has

-- the move that is found by its number
number_of_found : (found : Option Move) (number : ℕ) (P : Move → Type 0) (move : Move)
    → MatchOption found (7 < number) (λ m. number_of m ≡ number) → number < 8 → UnwrapsOrElse found P move → number_of move ≡ number
number_of_found None number P move past below is = absurd (omega arith)
number_of_found (Some m) number P move same below is = ap number_of is ∙ same

-- where a number was found in a row, its move was
pub found_by_number : (found : Option Move) (number : ℕ) (P : Move → Type 0) (move : Move)
    → MatchOption found (7 < number) (λ m. number_of m ≡ number) → number < 8 → UnwrapsOrElse found P move
    → (read row : List Run) (to : ℕ) → read ≡ row → IsFound read to number → IsFound row to (number_of move)
found_by_number found number P move of below is read row to same there =
    rw (number_of_found found number P move of below is, ← same) there

module _ (comp : Comp) (is : IsComp comp) (from to : ℕ) (move : Move) (here : from < length comp.cells)
    (there : to < length comp.cells) (found : IsFound (row_at comp.rows from) to (number_of move)) where
  -- the places of two cells that are one are the same
  apart : from ≢ to → cell_of comp.cells from ≢ cell_of comp.cells to
  apart other same =
      let nowhere : Cell = record { x = 0; y = 0 } in
      elim (cases_lt from to) [
        | inl before ↦ is.once from to nowhere before there same
        | inr after ↦ is.once to from nowhere (omega (arith, other)) here (sym same)
      ]

  pub covering_move : IsMoveOfRow comp from to move
  covering_move =
      let row = is.rows.each from here in
      let size = row.first.whole in
      rw (← size) (found.covering.covering (length row.sets) row.tight.row (omega arith))

  pub begins_best : from ≢ to → BeginsBestPath comp.cells from to move
  begins_best other = record {
    begins = λ map just.
        (let row = is.rows.each from here in
        let inside : to < length row.sets = omega (arith, row.first.whole) in
        let has = HasMove-from_number (slice_index row.sets to) move (found.held.held row.sets (Fits-from_tight (row_at comp.rows from) row.sets row.tight) inside) in
        let first = (row.first.each to there move).0 has in
        elim (same_first_move is.rows.map map (same_just is.rows.map map comp.cells is.rows.just just) (cell_of comp.cells from) (cell_of comp.cells to) move first) [
          | inl same ↦ absurd (apart other same.0)
          | inr best ↦ best
        ]);
  }

module _ (comp : Comp) (is : IsComp comp) where
  -- each row can be kept as words
  pub row_kept : (place : ℕ) → place < length comp.cells → CanBeKept (row_at comp.rows place)
  row_kept place within =
      let row = is.rows.each place within in
      let size = row.first.whole in
      let starts = All-start_below (row_at comp.rows place) row.sets row.tight in
      let moves = All-move_below (row_at comp.rows place) row.sets row.tight in
      record {
        few = omega (arith, length-row (row_at comp.rows place) (length row.sets) row.tight.row, is.few);
        starts = λ k d inside. omega (arith, starts k d inside, is.few);
        moves = λ k d inside. omega (arith, moves k d inside);
      }

  -- the next of the rows, behind those that were kept
  module _ (kept rest : List (List Run)) (row : List Run) (whole : kept ++ row ∷ rest ≡ comp.rows) where
    within_next : length kept < length comp.rows
    within_next = omega (arith, ap length whole, length-append kept (row ∷ rest))

    pub room_next : length kept < MAX_PASSABLE
    room_next = omega (arith, within_next, is.rows.whole, is.few)

    pub row_next : CanBeKept row
    row_next =
        let at : row_at comp.rows (length kept) ≡ row = ap (λ rows. row_at rows (length kept)) (sym whole) ∙ get_or-append_seam kept row rest [] in
        subst CanBeKept at (row_kept (length kept) (omega (arith, within_next, is.rows.whole)))

-- over a map that has the cells as a component, a move that begins a best path among them begins one over the whole map
pub best_over_map : (map : Map) (component cells : List Cell) (part : Map) → IsComponent map component → IsPermutation cells component → HasJust part cells
    → (from to : ℕ) (move : Move) → from < length cells → BeginsBestPath cells from to move
    → (rest : List Move) × IsBest map (cell_of cells from) (move ∷ rest) (cell_of cells to)
best_over_map map component cells part is order just from to move within best =
    let path = best.begins part just in
    let has = Contains-permutation cells component (cell_of cells from) order (Contains-get_or cells from (record { x = 0; y = 0 }) within) in
    let same = components_keep_best_paths map component part is (HasJust-permuted part component cells order just) (cell_of cells from) (move ∷ path.0) (cell_of cells to) has in
    (path.0, same.0 path.1)

-- no row has more runs than there are cells
row_is_short : (comp : Comp) → IsComp comp → All (λ row. length row ≤ MAX_PASSABLE) comp.rows
row_is_short comp is =
    All-from_get_or (λ row. length row ≤ MAX_PASSABLE) comp.rows [] (λ k within.
    let inside : k < length comp.cells = (let w = is.rows.whole in omega arith) in
    let row = is.rows.each k inside in
    let short = length-row (row_at comp.rows k) (length row.sets) row.tight.row in
    let whole = row.first.whole in
    let few = is.few in
    omega arith)

-- and so the rows together have few
pub few_runs : (comp : Comp) → IsComp comp → sum_by length comp.rows ≤ MAX_PASSABLE * MAX_PASSABLE
few_runs comp is =
    let all = sum_by-le length MAX_PASSABLE comp.rows (row_is_short comp is) in
    let w = is.rows.whole in
    let few = is.few in
    omega (arith, mul-le (length comp.rows) MAX_PASSABLE MAX_PASSABLE MAX_PASSABLE)
