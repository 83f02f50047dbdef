-- The rows of cells have no fault.
use Rattle.std.proofs.Common.{◌≡◌, ℕ, ◌+◌, ◌<◌, List, [], ◌∷◌, length, slice_index, Contains, refl, sym, subst, ◌∙◌, arith}
use Rattle.root_cost.proofs.Adding.{none_at_most}
use Rattle.run_pack.specs.declared.Run.{Run}
use Rattle.run_pack.specs.Runs.{IsTight, end_at}
use Rattle.run_pack.specs.Sets.{IsCommon, IsLeastCommon}
use Rattle.run_pack.specs.Sets as packed
use Rattle.run_pack.proofs.RowLemmas.{get_or-starts_of, border_past}
use Rattle.moves.specs.declared.Cell.{Cell}
use Rattle.moves.specs.declared.Move.{Move}
use Rattle.moves.specs.Maps.{Map}
use Rattle.moves.specs.Paths.{Leads, cost_of, IsBest}
use Rattle.moves.specs.ComponentLaws.{HasJust}
use Rattle.moves.specs.FirstSetLists.{cell_of}
use Rattle.moves.proofs.MoveLaws.{same_target}
use Rattle.moves.proofs.LawsOfPaths.{best_parts}
use Rattle.moves.proofs.MovesInSets.{move_with}
use Rattle.moves.proofs.SamePaths.{same_first_move, same_classes_back}
use Rattle.row_store.specs.Rows.{row_at, AreRows, IsRowFrom}
use Rattle.row_store.proofs.RowLaws.{same_just, row_over}
use Rattle.versions.specs.Spelled.{Spells}
use Rattle.versions.proofs.Walking.{kept_is_first, best_by_first, walk}
use Rattle.row_check.specs.declared.RowFault.{RowFault}
use Rattle.row_check.specs.declared.RowFault.TheVariants.{Walk, Worse, Loose}
use Rattle.row_check.specs.Walks.{WalksTo, IsWalkOf, HasWalk}
use Rattle.row_check.specs.Faults.{IsWorse, IsLoose, IsLooseAt, could_go_on, not_least, last_not_least, IsFirstFault, RightRowsHaveNoFault}
use Rattle.row_check.proofs.Edging.{one_of_cells}
use Rattle.row_check.proofs.Judging.{loose_kept, numbered_if_has, has_if_numbered}
use Rattle.row_check.proofs.Proving.{first_if_equal, equal_if_first}

-- rows of cells are so over each map that has just these
rows_over : (cells : List Cell) (rows : List (List Run)) (map : Map) → AreRows cells rows → HasJust map cells → AreRows cells rows
rows_over cells rows map are just =
    let same = same_just are.map map cells are.just just in
    let back = same_classes_back are.map map same in
    record {
      map = map;
      just = just;
      whole = are.whole;
      each = λ place l. row_over are.map map cells (cell_of cells place) (row_at rows place)
          (λ to move. (same_first_move are.map map same (cell_of cells place) to move, same_first_move map are.map back (cell_of cells place) to move)) (are.each place l);
    }

-- moves that are spelled and lead to a goal walk there
spelled_walks : (map : Map) (cells : List Cell) (rows : List (List Run)) (from : Cell) (moves : List Move) (goal : Cell) → Spells cells rows from moves goal → Leads map from moves goal → WalksTo map cells rows from moves goal
spelled_walks map cells rows from [] goal p q = p
spelled_walks map cells rows from (move ∷ moves) goal p q =
    let next = same_target from move p.2 q.0 p.3 q.1.target in
    (p.0, p.1, q.0, q.1, spelled_walks map cells rows q.0 moves goal (subst (λ c. Spells cells rows c moves goal) next p.4) q.2)

-- a row that is tight is loose nowhere
tight_not_loose : (row : List Run) (sets : List ℕ) (target : ℕ) → IsTight row sets → IsLooseAt row sets target → ⊥
tight_not_loose row sets target p (could_go_on k more at move c) =
    let end : end_at row (length sets) k ≡ target = get_or-starts_of row (k + 1) (length sets) more ∙ at in
    p.maximal k more move (rw end c)
tight_not_loose row sets target p (not_least k more at without) =
    let end : end_at row (length sets) k ≡ target = get_or-starts_of row (k + 1) (length sets) more ∙ at in
    without (rw end at (p.least k (omega arith)))
tight_not_loose row sets target p (last_not_least k last all without) =
    let end : end_at row (length sets) k ≡ target + 1 = border_past row (length sets) (k + 1) (omega arith) ∙ sym all in
    without (rw end at (p.least k (omega arith)))

module _ (map : Map) (cells : List Cell) (rows : List (List Run)) (just : HasJust map cells) (are : AreRows cells rows) (here : are.map ≡ map) where
  moved : (from : Cell) (moves : List Move) (to : Cell) → IsBest are.map from moves to → IsBest map from moves to
  moved from moves to best = subst (λ m. IsBest m from moves to) here best

  -- all walks are best
  walks_best : (from : Cell) (moves : List Move) (goal : Cell) → Contains cells from → WalksTo map cells rows from moves goal → IsBest map from moves goal
  walks_best from [] goal has p = record { leads = ((just.just_these from).1 has, p); least = λ others path. none_at_most (cost_of others) }
  walks_best from (move ∷ moves) goal has p =
      let way = kept_is_first cells rows are from goal move p.0 p.1 in
      let whole = moved from (move ∷ way.0) goal way.1 in
      let parts = best_parts map from goal (move ∷ []) way.0 whole in
      let same : parts.0 ≡ p.2 = sym parts.1.leads.2.1 ∙ same_target from move parts.1.leads.0 p.2 parts.1.leads.1.target p.3.target in
      let rest : IsBest map p.2 way.0 goal = subst (λ c. IsBest map c way.0 goal) same parts.2 in
      let later = walks_best p.2 moves goal ((just.just_these p.2).0 p.3.enters.passable) p.4 in
      best_by_first map from p.2 goal move way.0 moves whole p.3 rest later

  has_walk : (target source : ℕ) → target < length cells → source < length cells → HasWalk map cells rows target source
  has_walk target source m l =
      let found = walk cells rows are (cell_of cells source) (cell_of cells target) (one_of_cells cells source l) (one_of_cells cells target m) in
      let best = moved (cell_of cells source) found.moves (cell_of cells target) found.best in
      (found.moves, spelled_walks map cells rows (cell_of cells source) found.moves (cell_of cells target) found.spelled best.leads)

  best_of : (target source : ℕ) → source < length cells → (moves : List Move) → IsWalkOf map cells rows source target moves → IsBest map (cell_of cells source) moves (cell_of cells target)
  best_of target source l moves p = walks_best (cell_of cells source) moves (cell_of cells target) (one_of_cells cells source l) p

  never_worse : (target source : ℕ) → source < length cells → IsWorse map cells rows target source → ⊥
  never_worse target source l w =
      w.less ((best_of target source l w.walk w.walks).least (w.move ∷ w.rest) (cell_of cells w.next, w.legal, (best_of target w.next w.within w.rest w.goes).leads))

  never_loose : (target source : ℕ) → target < length cells → source < length cells → IsLoose map cells rows target source → ⊥
  never_loose target source m l p =
      let own : IsRowFrom map cells (cell_of cells source) (row_at rows source) = subst (λ x. IsRowFrom x cells (cell_of cells source) (row_at rows source)) here (are.each source l) in
      tight_not_loose (row_at rows source) own.sets target own.tight
      (loose_kept (row_at rows source) p.sets own.sets target (record {
        each = λ place k number low.
            let inside : place < length cells = omega arith in
            let move = move_with number low in
            let a = p.walk_sets.each place inside k move.0 in
            let b = own.first.each place inside move.0 in
            let walks = λ (s : ℕ) (n : s < length cells). has_walk place s inside n in
            let best = λ (s : ℕ) (n : s < length cells) (moves : List Move) (w : IsWalkOf map cells rows s place moves). best_of place s n moves w in (
              λ h. subst (packed.Has (slice_index own.sets place)) move.1
                  (numbered_if_has _ move.0 (b.1 (first_if_equal map cells rows just place inside walks best source l move.0 (a.0 (has_if_numbered _ move.0 (subst (packed.Has (slice_index p.sets place)) (sym move.1) h)))))),
              λ h. subst (packed.Has (slice_index p.sets place)) move.1
                  (numbered_if_has _ move.0 (a.1 (equal_if_first map cells rows just place inside walks best source l move.0 (b.0 (has_if_numbered _ move.0 (subst (packed.Has (slice_index own.sets place)) (sym move.1) h)))))),
            );
      }) (p.walk_sets.whole ∙ sym own.first.whole) p.loose)

  no_fault : (fault : RowFault) → IsFirstFault map cells rows fault → ⊥
  no_fault (Walk target source) f = let w = has_walk target source f.first.target_within f.first.source_within in f.none w.0 w.1
  no_fault (Worse target source) f = never_worse target source f.first.source_within f.worse
  no_fault (Loose target source) f = never_loose target source f.first.target_within f.first.source_within f.loose

pub right_rows_have_no_fault : RightRowsHaveNoFault
unfolding rows_over
right_rows_have_no_fault map cells rows are just fault f = no_fault map cells rows just (rows_over cells rows map are just) refl fault f
