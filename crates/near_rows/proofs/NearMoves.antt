-- Near moves begin best paths, and what they spell is one.
use Rattle.std.proofs.Common.{◌≡◌, ◌≢◌, ℕ, zero, suc, ◌<◌, List, [], ◌∷◌, length, slice_index, refl, sym, ap, subst, ◌∙◌, inl, inr, arith}
use Rattle.std.specs.List.{AllPairs, Contains}
use Rattle.moves.specs.declared.Cell.{Cell}
use Rattle.moves.specs.declared.Move.{Move}
use Rattle.moves.specs.Maps.{Map}
use Rattle.moves.specs.Moves.{number_of, IsTarget, IsLegal}
use Rattle.moves.specs.Paths.{IsBest}
use Rattle.moves.specs.FirstSets.{IsFirstMove}
use Rattle.moves.specs.FirstSetLists.{cell_of}
use Rattle.moves.proofs.LawsOfPaths.{best_parts, same_cost_of_best, one_move}
use Rattle.moves.proofs.FirstMoves.{best_none}
use Rattle.moves.proofs.BestPaths.{best_path_exists}
use Rattle.moves.proofs.MoveLaws.{same_target, same_move}
use Rattle.moves.proofs.MovesInSets.{move_with, Has-from_bit}
use Rattle.moves.proofs.TableLaws.{same_or_apart}
use Rattle.run_pack.specs.declared.Run.{Run}
use Rattle.run_pack.specs.Runs.{end_at, IsRow, IsCoveringMove}
use Rattle.run_pack.proofs.Covering.{covering_move}
use Rattle.run_pack.proofs.Found.{IsLastUpTo-from_covers, same_move as same_covering}
use Rattle.run_pack.proofs.SetLemmas.{bit_from_Has}
use Rattle.row_store.specs.Rows.{row_at}
use Rattle.row_store.specs.Comps.{IsPlaceOf}
use Rattle.versions.proofs.Walking.{found_at, as_long, best_by_first, fewer_moves}
use Rattle.versions.proofs.BestWalks.{at_one_place}
use Rattle.near_rows.specs.Compass.{IsInSquare}
use Rattle.near_rows.specs.NearRows.{Nearby, IsNearRow, IsRightWithin, AreNear}
use Rattle.near_rows.specs.NearPaths.{IsNearMoveBy, IsNearMove, IsLookedUp, SpellsNear}
use Rattle.build_pool.specs.Places.{AreComponent}
use Rattle.near_rows.proofs.Compasses.{same_compass, some_compass, square_or_not}
use Rattle.near_rows.proofs.Parts.{has_place, part_reaches, part_has, part_has_back}

-- the move of a run that covers a place outside the square is a first move to the cell there
covering_is_first : (map : Map) (cells : List Cell) (from : Cell) (radius : ℕ) (row : List Run) (place : ℕ) (move : Move)
    → IsNearRow map cells from radius row → place < length cells → (IsInSquare from radius (cell_of cells place) → ⊥)
    → IsCoveringMove row (length cells) place (number_of move) → IsFirstMove map from (cell_of cells place) move
covering_is_first map cells from radius row place move of inside out covering =
    let whole = of.widened.whole in
    let common = (of.tight.least covering.run covering.within).common in
    let upto = subst (λ n. place < end_at row n covering.run) (sym whole) covering.covers.upto in
    let has = common.everywhere place covering.covers.from upto in
    let bit = bit_from_Has _ _ has in
    (of.widened.outside place inside out move).0 (Has-from_bit _ move (rw covering.is bit))

-- one move covers a place
covers_once : (row : List Run) (places place a b : ℕ) → IsRow row places → IsCoveringMove row places place a → IsCoveringMove row places place b → a ≡ b
covers_once row places place a b is p q =
    same_covering row place a b
    (record { run = p.run; last = IsLastUpTo-from_covers row places place p.run is.rises p.within p.covers; is = p.is })
    (record { run = q.run; last = IsLastUpTo-from_covers row places place q.run is.rises q.within q.covers; is = q.is })

row_over : (map : Map) (cells : List Cell) (from : Cell) (radius : ℕ) (row : List Run) → IsNearRow map cells from radius row → IsRow row (length cells)
row_over map cells from radius row of = subst (IsRow row) of.widened.whole of.tight.row

module _ (map : Map) (cells : List Cell) (nearby : Nearby) (near : AreNear map cells nearby) where
  -- the row of a place rises
  pub near_row : (place : ℕ) → place < length cells → IsRow (row_at nearby.rows place) (length cells)
  near_row place within = row_over map cells (cell_of cells place) (slice_index nearby.radii place) (row_at nearby.rows place) (near.each place within).row

  -- what is looked up by the places of two cells is the near move
  pub looked_up_is_near : (from goal : Cell) (source column : ℕ) (move : Move) → IsPlaceOf cells from source → IsPlaceOf cells goal column
      → IsLookedUp nearby from source goal column move → IsNearMove cells nearby from goal move
  looked_up_is_near from goal source column move a b looked = record {
    source = source;
    column = column;
    leaves = a;
    arrives = b;
    is = elim looked [
      | inl near ↦ inl near
      | inr far ↦ inr (far.0, far.1.covering.covering (length cells) (near_row source a.within) b.within)
    ];
  }

  -- the near move begins a best path
  pub near_is_first : (from goal : Cell) (move : Move) → from ≢ goal → IsNearMove cells nearby from goal move → (rest : List Move) × IsBest map from (move ∷ rest) goal
  near_is_first from goal move apart kept =
      elim first [
        | inl same ↦ absurd (apart same.0)
        | inr best ↦ best
      ]
    where
      radius : ℕ
      radius = slice_index nearby.radii kept.source

      row : IsNearRow map cells from radius (row_at nearby.rows kept.source)
      row = subst (λ c. IsNearRow map cells c radius (row_at nearby.rows kept.source)) kept.leaves.there (near.each kept.source kept.leaves.within).row

      right : IsRightWithin map cells from radius
      right = subst (λ c. IsRightWithin map cells c radius) kept.leaves.there (near.each kept.source kept.leaves.within).radius.right

      first : IsFirstMove map from goal move
      first = elim kept.is [
        | inl compass ↦ right goal move (has_place cells goal kept.column kept.arrives) compass.0 compass.1
        | inr covered ↦
            subst (λ c. IsFirstMove map from c move) kept.arrives.there
            (covering_is_first map cells from radius (row_at nearby.rows kept.source) kept.column move row kept.arrives.within
            (λ square. covered.0 (subst (IsInSquare from radius) kept.arrives.there square)) covered.1)
      ]

  -- to each other cell there is a near move
  pub some_near : (from goal : Cell) → from ≢ goal → Contains cells from → Contains cells goal → (move : Move) × IsNearMove cells nearby from goal move
  some_near from goal apart a b =
      let leaves = found_at cells from a in
      let arrives = found_at cells goal b in
      let by : (move : Move) → IsNearMoveBy cells nearby from leaves.0 goal arrives.0 move → IsNearMove cells nearby from goal move =
      λ move is. record { source = leaves.0; column = arrives.0; leaves = leaves.1; arrives = arrives.1; is = is } in
      elim (square_or_not from (slice_index nearby.radii leaves.0) goal) [
        | inl square ↦ let move = some_compass from goal apart in (move.0, by move.0 (inl (square, move.1)))
        | inr out ↦
            let of = near.each leaves.0 leaves.1.within in
            let row = row_at nearby.rows leaves.0 in
            let covering = covering_move row (length cells) arrives.0 (near_row leaves.0 leaves.1.within) arrives.1.within in
            let least = of.row.tight.least covering.1.run covering.1.within in
            let number = subst (λ n. n < 8) (sym covering.1.is) least.common.number in
            let move = move_with covering.0 number in
            (move.0, by move.0 (inr (out, subst (IsCoveringMove row (length cells) arrives.0) (sym move.1) covering.1)))
      ]

  module _ (distinct : AllPairs (λ a b. a ≢ b) cells) where
    -- there is one near move to a goal
    pub near_once : (from goal : Cell) (a b : Move) → IsNearMove cells nearby from goal a → IsNearMove cells nearby from goal b → a ≡ b
    near_once from goal a b p q =
        let source = at_one_place cells distinct from p.source q.source p.leaves q.leaves in
        let column = at_one_place cells distinct goal p.column q.column p.arrives q.arrives in
        let moved = subst (λ s. IsNearMoveBy cells nearby from s goal p.column a) source p.is in
        let there = subst (λ c. IsNearMoveBy cells nearby from q.source goal c a) column moved in
        elim there [
          | inl compass ↦ elim q.is [
            | inl other ↦ same_compass from a b goal compass.1 other.1
            | inr covered ↦ absurd (covered.0 compass.0)
          ]
          | inr covered ↦ elim q.is [
            | inl compass ↦ absurd (covered.0 compass.0)
            | inr other ↦
                same_move a b
                (covers_once (row_at nearby.rows q.source) (length cells) q.column (number_of a) (number_of b) (near_row q.source q.leaves.within) covered.1 other.1)
          ]
        ]

    -- and so one list of moves is spelled
    pub spelled_near_once : (from goal : Cell) (xs ys : List Move) → SpellsNear cells nearby from xs goal → SpellsNear cells nearby from ys goal → xs ≡ ys
    spelled_near_once from goal [] [] p q = refl
    spelled_near_once from goal [] (y ∷ ys) p q = absurd (q.0 p)
    spelled_near_once from goal (x ∷ xs) [] p q = absurd (p.0 q)
    spelled_near_once from goal (x ∷ xs) (y ∷ ys) p q =
        let move = near_once from goal x y p.1 q.1 in
        let next = same_target from y p.2 q.2 (subst (λ m. IsTarget from m p.2) move p.3) q.3 in
        let rest = spelled_near_once q.2 goal xs ys (subst (λ c. SpellsNear cells nearby c xs goal) next p.4) q.4 in
        ap (λ m. m ∷ xs) move ∙ ap (λ ms. y ∷ ms) rest

  module _ (part : AreComponent map cells) where
    pub spelled_along : (goal : Cell) → Contains cells goal → (n : ℕ) (from : Cell) (best : List Move) → Contains cells from → IsBest map from best goal
        → length best ≡ n → (moves : List Move) × SpellsNear cells nearby from moves goal × IsBest map from moves goal
    spelled_along goal b n from [] a best long = ([], best.leads.1, best)
    spelled_along goal b zero from (first ∷ rest) a best long = absurd (omega arith)
    spelled_along goal b (suc n) from (first ∷ rest) a best long =
        elim (same_or_apart from goal) [
          | inl same ↦ (let none = best_none map from (first ∷ rest) (subst (λ x. IsBest map from (first ∷ rest) x) (sym same) best) in absurd (let e = ap length none in omega arith))
          | inr apart ↦
              let kept = some_near from goal apart a b in
              let way = near_is_first from goal kept.0 apart kept.1 in
              let parts = best_parts map from goal (kept.0 ∷ []) way.0 way.1 in
              let step = parts.1.leads in
              let legal : IsLegal map from kept.0 parts.0 = subst (λ x. IsLegal map from kept.0 x) step.2.1 step.1 in
              let size = as_long (kept.0 ∷ way.0) (first ∷ rest) (same_cost_of_best map from goal (kept.0 ∷ way.0) (first ∷ rest) way.1 best) in
              let next = part_has map cells part from parts.0 a (kept.0 ∷ [], parts.1.leads) in
              let later = spelled_along goal b n parts.0 way.0 next parts.2 (omega arith) in
              (kept.0 ∷ later.0, (apart, kept.1, parts.0, legal.target, later.1), best_by_first map from parts.0 goal kept.0 way.0 later.0 way.1 legal parts.2 later.2)
        ]

    -- what near moves spell: a best path with fewer moves than there are cells
    pub near_walk : (from goal : Cell) → Contains cells from → Contains cells goal
        → (moves : List Move) × SpellsNear cells nearby from moves goal × IsBest map from moves goal × (length moves < length cells)
    near_walk from goal a b =
        let some = best_path_exists map from goal (part_reaches map cells part from goal a b) in
        let found = spelled_along goal b (length some.0) from some.0 a some.1 refl in (
          found.0,
          found.1,
          found.2,
          fewer_moves map goal from found.0 cells found.2 (λ cell others its less. part_has_back map cells part cell goal b (others, its.leads)),
        )

    -- the cell where the near move leads is one of the cells
    pub near_stays : (from goal : Cell) (move : Move) → from ≢ goal → IsNearMove cells nearby from goal move
        → (to : Cell) × IsTarget from move to × Contains cells to
    near_stays from goal move apart kept =
        let way = near_is_first from goal move apart kept in
        let leads = way.1.leads in
        let has = has_place cells from kept.source kept.leaves in
        (leads.0, leads.1.target, part_has map cells part from leads.0 has (move ∷ [], one_move map from leads.0 move leads.1))
