-- Where nothing is wrong with any target, the rows are those of the cells: all walks are best paths, so the moves that are as
-- good as walks are the first moves, and the rows are tight for these.
use Rattle.std.proofs.Common.{◌≡◌, ℕ, ◌+◌, ◌-◌, ◌^◌, ◌<◌, bit_and, w8, is_le, Bool, true, false, List, [], ◌∷◌, length, slice_index, inl, inr, refl, sym, subst, ◌∙◌, arith}
use Rattle.std.specs.Int.{trailing_zeros}
use Rattle.std.specs.Int.Bits.{mask_lt}
use Rattle.std.proofs.lemmas.Bool.{cases_eq, false≢true}
use Rattle.root_cost.specs.declared.Cost.{Cost}
use Rattle.root_cost.specs.Costs.{IsAtMost}
use Rattle.root_cost.specs.Compared.{cost_cmp}
use Rattle.root_cost.proofs.Order.{at_most_itself, at_most_trans, at_most_antisymmetric, is_le-cost_cmp}
use Rattle.root_cost.proofs.Adding.{at_most_step}
use Rattle.run_pack.specs.declared.Run.{Run}
use Rattle.run_pack.specs.Runs.{IsTight, start_at, end_at, move_at}
use Rattle.run_pack.specs.Sets.{Has, IsLeastIn, IsLeastCommon}
use Rattle.run_pack.proofs.SetLemmas.{Has-and, Has-and_left, Has-all, IsLeastIn-trailing_zeros, none_in_empty}
use Rattle.run_pack.proofs.RowLemmas.{get_or-starts_of, border_past, start_at-inside}
use Rattle.moves.specs.declared.Cell.{Cell}
use Rattle.moves.specs.declared.Move.{Move}
use Rattle.moves.specs.Maps.{Map, IsPassable}
use Rattle.moves.specs.Moves.{is_diagonal, IsLegal}
use Rattle.moves.specs.Paths.{Leads, cost_of, IsBest}
use Rattle.moves.specs.FirstSets.{IsFirstMove}
use Rattle.moves.specs.ComponentLaws.{HasJust}
use Rattle.moves.specs.FirstSetLists.{cell_of, AreFirstSets}
use Rattle.moves.proofs.CostsOfPaths.{cost_of-cons}
use Rattle.row_store.specs.Rows.{row_at, AreRows, IsRowFrom}
use Rattle.row_check.specs.declared.cursors.Cursor.{Cursor}
use Rattle.row_check.specs.Walks.{AreComponentCells, AreShaped, WalksTo, IsWalkOf, HasWalk}
use Rattle.row_check.specs.Faults.{AttainsWalk, IsEqualMove, AreWalkSets, last_not_least, IsClear}
use Rattle.row_check.specs.Following.{cursor_of, HasRun, AreCursors, AreBehind}
use Rattle.row_check.specs.Joining.{IsJoined}
use Rattle.row_check.specs.Checking.{HasSets, IsChecked}
use Rattle.row_check.proofs.Edging.{place_of_one, one_of_cells}
use Rattle.row_check.proofs.Tightening.{least_common, least_in}
use Rattle.row_check.proofs.Drawing.{some_map}

-- what is not denied of two costs holds
pub at_most_stable : (x y : Cost) → ((IsAtMost x y → ⊥) → ⊥) → IsAtMost x y
at_most_stable x y denied = go (is_le (cost_cmp x y)) refl
  where
    go : (b : Bool) → is_le (cost_cmp x y) ≡ b → IsAtMost x y
    go true e = (is_le-cost_cmp x y).0 e
    go false e = absurd (denied (λ most. false≢true (sym e ∙ (is_le-cost_cmp x y).1 most)))

-- a move in front of two lists of moves keeps their order
pub one_move_more : (move : Move) (a b : List Move) → IsAtMost (cost_of a) (cost_of b) → IsAtMost (cost_of (move ∷ a)) (cost_of (move ∷ b))
one_move_more move a b most =
    rw (cost_of-cons move a, cost_of-cons move b) (at_most_step (cost_of a) (cost_of b) (is_diagonal move) most)

-- a walk is a path
pub walk_leads : (map : Map) (cells : List Cell) (rows : List (List Run)) (from : Cell) (moves : List Move) (target : Cell) → IsPassable map from → WalksTo map cells rows from moves target → Leads map from moves target
walk_leads map cells rows from [] target free walk = (free, walk)
walk_leads map cells rows from (move ∷ moves) target free walk = (walk.2, walk.3, walk_leads map cells rows walk.2 moves target walk.3.enters.passable walk.4)

-- ---- where all walks to a target are best, the moves that are as good as walks are the first moves

module _ (map : Map) (cells : List Cell) (rows : List (List Run)) (just : HasJust map cells) (target : ℕ) (inside : target < length cells)
    (walks : (source : ℕ) → source < length cells → HasWalk map cells rows target source)
    (best : (source : ℕ) → source < length cells → (moves : List Move) → IsWalkOf map cells rows source target moves → IsBest map (cell_of cells source) moves (cell_of cells target)) where
  pub first_if_equal : (source : ℕ) → source < length cells → (move : Move) → IsEqualMove map cells rows target source move → IsFirstMove map (cell_of cells source) (cell_of cells target) move
  first_if_equal source l move (inl same) = inl (same, (just.just_these (cell_of cells source)).1 (one_of_cells cells source l))
  first_if_equal source l move (inr a) = inr (
    a.rest,
    record {
      leads = (cell_of cells a.next, a.legal, (best a.next a.within a.rest a.goes).leads);
      least = λ others path. subst (λ c. IsAtMost c (cost_of others)) (sym a.same) ((best source l a.walk a.walks).least others path);
    },
  )

  equal_if_best : (source : ℕ) → source < length cells → (move : Move) (rest : List Move) → IsBest map (cell_of cells source) (move ∷ rest) (cell_of cells target)
      → AttainsWalk map cells rows target source move
  equal_if_best source l move rest whole =
      let path = whole.leads in
      let at = place_of_one cells path.0 ((just.just_these path.0).0 path.1.enters.passable) in
      let legal : IsLegal map (cell_of cells source) move (cell_of cells at.0) = subst (IsLegal map (cell_of cells source) move) (sym at.2) path.1 in
      let after : Leads map (cell_of cells at.0) rest (cell_of cells target) = subst (λ c. Leads map c rest (cell_of cells target)) (sym at.2) path.2 in
      let own = walks source l in
      let on = walks at.0 at.1 in
      let own_best = best source l own.0 own.1 in
      let on_best = best at.0 at.1 on.0 on.1 in
      let there : Leads map (cell_of cells source) (move ∷ on.0) (cell_of cells target) = (cell_of cells at.0, legal, on_best.leads) in
      let less = at_most_trans (cost_of (move ∷ on.0)) (cost_of (move ∷ rest)) (cost_of own.0) (one_move_more move on.0 rest (on_best.least rest after)) (whole.least own.0 own_best.leads) in
      let more = own_best.least (move ∷ on.0) there in
      record {
        walk = own.0;
        walks = own.1;
        next = at.0;
        within = at.1;
        legal = legal;
        rest = on.0;
        goes = on.1;
        same = at_most_antisymmetric (cost_of (move ∷ on.0)) (cost_of own.0) less more;
      }

  pub equal_if_first : (source : ℕ) → source < length cells → (move : Move) → IsFirstMove map (cell_of cells source) (cell_of cells target) move → IsEqualMove map cells rows target source move
  equal_if_first source l move (inl h) = inl h.0
  equal_if_first source l move (inr h) = inr (equal_if_best source l move h.0 h.1)

-- ---- where nothing is wrong with a target, all walks to it are best

module _ (map : Map) (cells : List Cell) (rows : List (List Run)) (just : HasJust map cells) (target : ℕ) (inside : target < length cells) (clear : IsClear map cells rows target) where
  cheapest : (others : List Move) (source : ℕ) → source < length cells → Leads map (cell_of cells source) others (cell_of cells target) → (moves : List Move) → IsWalkOf map cells rows source target moves
      → IsAtMost (cost_of moves) (cost_of others)
  cheapest [] source l path [] walk = at_most_itself (cost_of [])
  cheapest [] source l path (move ∷ moves) walk = absurd (walk.0 path.1)
  cheapest (other ∷ others) source l path moves walk =
      let at = place_of_one cells path.0 ((just.just_these path.0).0 path.1.enters.passable) in
      let legal : IsLegal map (cell_of cells source) other (cell_of cells at.0) = subst (IsLegal map (cell_of cells source) other) (sym at.2) path.1 in
      let after : Leads map (cell_of cells at.0) others (cell_of cells target) = subst (λ c. Leads map c others (cell_of cells target)) (sym at.2) path.2 in
      let on = clear.walks at.0 at.1 in
      let further = cheapest others at.0 at.1 after on.0 on.1 in
      let first : IsAtMost (cost_of moves) (cost_of (other ∷ on.0)) = at_most_stable (cost_of moves) (cost_of (other ∷ on.0)) (λ denied.
      clear.not_worse source l (record { walk = moves; walks = walk; move = other; next = at.0; within = at.1; legal = legal; rest = on.0; goes = on.1; less = denied })) in
      at_most_trans (cost_of moves) (cost_of (other ∷ on.0)) (cost_of (other ∷ others)) first (one_move_more other on.0 others further)

  pub clear_best : (source : ℕ) → source < length cells → (moves : List Move) → IsWalkOf map cells rows source target moves → IsBest map (cell_of cells source) moves (cell_of cells target)
  clear_best source l moves walk = record {
    leads = walk_leads map cells rows (cell_of cells source) moves (cell_of cells target) ((just.just_these (cell_of cells source)).1 (one_of_cells cells source l)) walk;
    least = λ others path. cheapest others source l path moves walk;
  }

-- ---- the rows

-- a run whose move is not denied to be the least common one has it
least_of_byte : (row : List Run) (sets : List ℕ) (upto run byte move : ℕ) → byte < 2 ^ 8 → IsJoined row sets upto run byte → ((IsLeastCommon sets (start_at row run) upto move → ⊥) → ⊥) → IsLeastCommon sets (start_at row run) upto move
least_of_byte row sets upto run byte move small joined denied =
    elim (cases_eq byte 0) [
      | inl none ↦ absurd (denied (λ least. none_in_empty move (subst (λ s. Has s move) none (least_in row sets upto run byte move small joined least).member)))
      | inr some ↦
          let zeros = IsLeastIn-trailing_zeros byte (omega arith) small in
          elim (cases_eq (trailing_zeros w8 byte) move) [
            | inl same ↦ least_common row sets upto run byte move joined (subst (IsLeastIn byte) same zeros)
            | inr apart ↦ absurd (denied (λ least.
                let is = least_in row sets upto run byte move small joined least in
                let a = zeros.least move is.member in
                let b = is.least (trailing_zeros w8 byte) zeros.member in
                apart (omega arith)))
          ]
    ]

least_stable : (row : List Run) (sets : List ℕ) (upto run common move : ℕ) → IsJoined row sets upto run common → ((IsLeastCommon sets (start_at row run) upto move → ⊥) → ⊥) → IsLeastCommon sets (start_at row run) upto move
least_stable row sets upto run common move p denied = least_of_byte row sets upto run (bit_and common 255) move (mask_lt common 8) (record {
  ended = p.ended;
  shared = λ m number. (
    λ h. (p.shared m number).0 (Has-and_left common 255 m h),
    λ every. Has-and common 255 m ((p.shared m number).1 every) (Has-all m number),
  );
}) denied

module _ (map : Map) (cells : List Cell) (rows : List (List Run)) (just : HasJust map cells) (near : List (List ℕ)) (near_all : length near ≡ length cells) (cursors : List Cursor) (common : List ℕ)
    (are : AreCursors rows near cursors) (behind : AreBehind cursors (length cells)) (checked : IsChecked map cells rows cursors common (length cells)) (some : 0 < length cells) where
  module _ (source : ℕ) (l : source < length cells) where
    hs : HasSets map cells rows source (length cells) (cursor_of cursors source).run (slice_index common source)
    hs = checked.joined source l

    has : HasRun (row_at rows source) (length near) (cursor_of cursors source)
    has = (are.each source (omega (arith, near_all, l))).has

    -- the cursor stands at the last run
    last : (cursor_of cursors source).run + 1 ≡ length (row_at rows source)
    last = elim (cases_eq ((cursor_of cursors source).run + 1) (length (row_at rows source))) [
      | inl same ↦ same
      | inr apart ↦
          let w = has.within in
          let more : (cursor_of cursors source).run + 1 < length (row_at rows source) = omega arith in
          let next = get_or-starts_of (row_at rows source) ((cursor_of cursors source).run + 1) (length near) more in
          let within = start_at-inside (row_at rows source) (length near) has.is_row ((cursor_of cursors source).run + 1) more in
          let upto = (behind source (omega (arith, are.whole, near_all, l))).upto in
          let ends = has.ends in
          absurd (omega (arith, near_all, next, within, upto, ends))
    ]

    first_sets : AreFirstSets map (cell_of cells source) cells hs.sets
    first_sets = record {
      whole = hs.walk_sets.whole;
      bytes = hs.walk_sets.bytes;
      each = λ place m move.
          let clear = checked.clear place m in
          let both = hs.walk_sets.each place m m move in (
            λ h. first_if_equal map cells rows just place m clear.walks (clear_best map cells rows just place m clear) source l move (both.0 h),
            λ first. both.1 (equal_if_first map cells rows just place m clear.walks (clear_best map cells rows just place m clear) source l move first),
          );
    }

    last_least : IsLeastCommon hs.sets (start_at (row_at rows source) (cursor_of cursors source).run) (length cells) (move_at (row_at rows source) (cursor_of cursors source).run)
    last_least =
        let final : ℕ = length cells - 1 in
        let upto : final + 1 ≡ length cells = omega arith in
        let clear = checked.clear final (omega arith) in
        least_stable (row_at rows source) hs.sets (length cells) (cursor_of cursors source).run (slice_index common source) (move_at (row_at rows source) (cursor_of cursors source).run) hs.joined (λ denied.
        clear.not_loose source l (record {
          sets = hs.sets;
          walk_sets = subst (λ n. AreWalkSets map cells rows source n hs.sets) (sym upto) hs.walk_sets;
          loose = last_not_least (cursor_of cursors source).run last (upto ∙ sym hs.walk_sets.whole)
              (λ least. denied (subst (λ n. IsLeastCommon hs.sets (start_at (row_at rows source) (cursor_of cursors source).run) n (move_at (row_at rows source) (cursor_of cursors source).run)) upto least));
        }))

    -- where a run ends
    end_before : (k : ℕ) → k < (cursor_of cursors source).run → end_at (row_at rows source) (length hs.sets) k ≡ start_at (row_at rows source) (k + 1)
    end_before k less = get_or-starts_of (row_at rows source) (k + 1) (length hs.sets) (let w = has.within in omega arith)

    end_last : end_at (row_at rows source) (length hs.sets) (cursor_of cursors source).run ≡ length cells
    end_last = border_past (row_at rows source) (length hs.sets) ((cursor_of cursors source).run + 1) (let e = last in omega arith) ∙ hs.walk_sets.whole

    tight : IsTight (row_at rows source) hs.sets
    tight = record {
      row = rw (hs.walk_sets.whole, ← near_all) has.is_row;
      least = λ k within. elim (cases_eq k (cursor_of cursors source).run) [
        | inl same ↦ rw (same, end_last) last_least
        | inr apart ↦
            let less : k < (cursor_of cursors source).run = (let e = last in omega arith) in
            rw (end_before k less) (hs.joined.ended k less).least
      ];
      maximal = λ k more move c.
          let less : k < (cursor_of cursors source).run = (let e = last in omega arith) in
          (hs.joined.ended k less).maximal move (rw (end_before k less) at c);
    }

    pub row_from : IsRowFrom map cells (cell_of cells source) (row_at rows source)
    row_from = record { sets = hs.sets; first = first_sets; tight = tight }

-- so the rows are those of the cells
pub are_rows : (cells : List Cell) (rows : List (List Run)) → AreComponentCells cells → AreShaped cells rows → (near : List (List ℕ)) → length near ≡ length cells → (cursors : List Cursor) (common : List ℕ)
    → AreCursors rows near cursors → AreBehind cursors (length cells) → ((map : Map) → HasJust map cells → IsChecked map cells rows cursors common (length cells)) → AreRows cells rows
are_rows cells rows comp shaped near near_all cursors common are behind checked =
    let map = some_map cells comp.on_map in
    record {
      map = map.0;
      just = map.1;
      whole = shaped.whole;
      each = λ place l. row_from map.0 cells rows map.1 near near_all cursors common are behind (checked map.0 map.1) comp.some place l;
    }
