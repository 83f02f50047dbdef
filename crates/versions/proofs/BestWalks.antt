-- The walks of a database are best paths of the whole map.
use Rattle.std.proofs.Common.{◌≡◌, ◌≢◌, ℕ, ◌<◌, List, [], ◌∷◌, length, refl, sym, ap, subst, ◌∙◌, inl, inr, arith}
use Rattle.std.proofs.lemmas.Bool.{cases_lt}
use Rattle.std.specs.List.{AllPairs, Contains}
use Rattle.std.specs.List.Sorted.{IsPermutation}
use Rattle.std.proofs.lemmas.List.{get_or_default}
use Rattle.std.proofs.lemmas.List.Sorted.{IsPermutation-sym, Contains-permutation}
use Rattle.moves.specs.declared.Cell.{Cell}
use Rattle.moves.specs.declared.Move.{Move}
use Rattle.moves.specs.Maps.{Map, IsPassable, ComesBefore}
use Rattle.moves.specs.Moves.{number_of, IsTarget}
use Rattle.moves.specs.Paths.{Reaches}
use Rattle.moves.specs.Components.{IsComponent, first_of}
use Rattle.moves.specs.ComponentLaws.{HasJust}
use Rattle.moves.proofs.LawsOfPaths.{leads_from}
use Rattle.moves.proofs.MoveLaws.{same_target, same_move as same_number}
use Rattle.moves.proofs.ComponentLaws.{components_keep_best_paths, components_are_connected}
use Rattle.cell_order.proofs.Permuted.{orders_are_permutations}
use Rattle.run_pack.specs.declared.Run.{Run}
use Rattle.run_pack.specs.Runs.{IsRow, IsCoveringMove}
use Rattle.run_pack.proofs.Found.{IsLastUpTo-from_covers, same_move}
use Rattle.cell_order.specs.declared.OrderKind.{OrderKind}
use Rattle.row_store.specs.Rows.{row_at, AreRows}
use Rattle.row_store.specs.Comps.{Comp, IsPlaceOf}
use Rattle.row_store.proofs.RowLaws.{HasJust-permuted}
use Rattle.versions.specs.Spelled.{IsKept, Spells}
use Rattle.versions.specs.Databases.{comp_at, component_at, IsDatabase}
use Rattle.versions.specs.Answers.{IsWalk, WalksAreBest}
use Rattle.versions.proofs.Walking.{walk}
use Rattle.versions.proofs.Determined.{same_component, before_never}

-- in a list without repeats a cell stands at one place
pub at_one_place : (cells : List Cell) → AllPairs (λ a b. a ≢ b) cells → (cell : Cell) (i j : ℕ) → IsPlaceOf cells cell i → IsPlaceOf cells cell j → i ≡ j
at_one_place cells distinct cell i j p q =
    elim (cases_lt i j) [
      | inl before ↦ absurd (distinct i j (record { x = 0; y = 0 }) before q.within (p.there ∙ sym q.there))
      | inr from ↦ elim (cases_lt j i) [
        | inl after ↦ absurd (distinct j i (record { x = 0; y = 0 }) after p.within (q.there ∙ sym p.there))
        | inr upto ↦ omega arith
      ]
    ]

-- one move covers a place
covers_once : (row : List Run) (places place a b : ℕ) → IsRow row places → IsCoveringMove row places place a → IsCoveringMove row places place b → a ≡ b
covers_once row places place a b is p q =
    same_move row place a b
    (record { run = p.run; last = IsLastUpTo-from_covers row places place p.run is.rises p.within p.covers; is = p.is })
    (record { run = q.run; last = IsLastUpTo-from_covers row places place q.run is.rises q.within q.covers; is = q.is })

module _ (cells : List Cell) (rows : List (List Run)) (are : AreRows cells rows) (distinct : AllPairs (λ a b. a ≢ b) cells) where
  -- one move is kept for a goal
  pub kept_once : (from goal : Cell) (a b : Move) → IsKept cells rows from goal a → IsKept cells rows from goal b → a ≡ b
  kept_once from goal a b p q =
      let source = at_one_place cells distinct from p.source q.source p.leaves q.leaves in
      let column = at_one_place cells distinct goal p.column q.column p.arrives q.arrives in
      let of = are.each q.source q.leaves.within in
      let row = subst (IsRow (row_at rows q.source)) of.first.whole of.tight.row in
      let moved = subst (λ s. IsCoveringMove (row_at rows s) (length cells) p.column (number_of a)) source p.covers in
      let covers = subst (λ c. IsCoveringMove (row_at rows q.source) (length cells) c (number_of a)) column moved in
      same_number a b (covers_once (row_at rows q.source) (length cells) q.column (number_of a) (number_of b) row covers q.covers)

  -- and so one list of moves is spelled
  pub spelled_once : (from goal : Cell) (xs ys : List Move) → Spells cells rows from xs goal → Spells cells rows from ys goal → xs ≡ ys
  spelled_once from goal [] [] p q = refl
  spelled_once from goal [] (y ∷ ys) p q = absurd (q.0 p)
  spelled_once from goal (x ∷ xs) [] p q = absurd (p.0 q)
  spelled_once from goal (x ∷ xs) (y ∷ ys) p q =
      let move = kept_once from goal x y p.1 q.1 in
      let next = same_target from y p.2 q.2 (subst (λ m. IsTarget from m p.2) move p.3) q.3 in
      let rest = spelled_once q.2 goal xs ys (subst (λ c. Spells cells rows c xs goal) next p.4) q.4 in
      ap (λ m. m ∷ xs) move ∙ ap (λ ms. y ∷ ms) rest

module _ (map : Map) (order : OrderKind) (comps : List Comp) (database : IsDatabase map order comps) where
  -- the component with a number is one of the map
  pub component_of : (label : ℕ) → label < length comps → IsComponent map (component_at database.components label)
  component_of label within = database.listed.each label [] (let w = database.whole in omega arith)

  -- the cells of a kept component are those of the component in another order
  pub same_cells_kept : (label : ℕ) → label < length comps → IsPermutation (comp_at comps label).cells (component_at database.components label)
  same_cells_kept label within =
      let component = component_of label within in
      subst (λ cells. IsPermutation cells (component_at database.components label)) (sym (database.each label within).cells)
      (orders_are_permutations order (component_at database.components label) component.some component.in_order
      (components_are_connected map (component_at database.components label) component))

  -- a cell stands among a kept component's cells exactly where it stands in the component
  pub kept_cells : (label : ℕ) → label < length comps → (cell : Cell) → Contains (comp_at comps label).cells cell → Contains (component_at database.components label) cell
  kept_cells label within cell h = Contains-permutation _ _ cell (same_cells_kept label within) h

  pub cells_kept : (label : ℕ) → label < length comps → (cell : Cell) → Contains (component_at database.components label) cell → Contains (comp_at comps label).cells cell
  cells_kept label within cell h = Contains-permutation _ _ cell (IsPermutation-sym _ _ (same_cells_kept label within)) h

  -- each passable cell stands in some component
  pub label_of : (cell : Cell) → IsPassable map cell → (label : ℕ) × (label < length comps) × Contains (comp_at comps label).cells cell
  label_of cell passable =
      let found = database.listed.every_cell cell passable in
      let within : found.0 < length comps = (let w = database.whole in let l = found.2 in omega arith) in
      let is : component_at database.components found.0 ≡ found.1 = get_or_default database.components found.0 [] found.1 found.2 ∙ found.3 in
      (found.0, within, cells_kept found.0 within cell (subst (λ cells. Contains cells cell) (sym is) found.4))

  -- a cell stands in one component
  pub one_label : (i j : ℕ) → i < length comps → j < length comps → (cell : Cell) → Contains (comp_at comps i).cells cell → Contains (comp_at comps j).cells cell → i ≡ j
  one_label i j p q cell a b =
      let same = same_component map (component_at database.components i) (component_at database.components j) cell (component_of i p) (component_of j q)
      (kept_cells i p cell a) (kept_cells j q cell b) in
      let w = database.whole in
      elim (cases_lt i j) [
        | inl before ↦ absurd (before_never _ (subst (λ c. ComesBefore (first_of (component_at database.components i)) (first_of c)) (sym same) (database.listed.in_order i j [] before (omega arith))))
        | inr from ↦ elim (cases_lt j i) [
          | inl after ↦ absurd (before_never _ (subst (λ c. ComesBefore (first_of (component_at database.components j)) (first_of c)) same (database.listed.in_order j i [] after (omega arith))))
          | inr upto ↦ omega arith
        ]
      ]

  pub best_walk : (start goal : Cell) → Reaches map start goal → (moves : List Move) × IsWalk map comps start goal moves
  best_walk start goal reaches =
      let at = label_of start (leads_from map start goal reaches.0 reaches.1) in
      let label = at.0 in
      let within = at.1 in
      let comp = comp_at comps label in
      let whole = (database.each label within).whole in
      let component = component_of label within in
      let begins = kept_cells label within start at.2 in
      let ends = cells_kept label within goal ((component.whole start goal begins).1 reaches) in
      let part = whole.rows.map in
      let just : HasJust part (component_at database.components label) =
      HasJust-permuted part (component_at database.components label) comp.cells (same_cells_kept label within) whole.rows.just in
      let among = walk comp.cells comp.rows whole.rows start goal at.2 ends in (
        among.moves,
        record {
          spelled = record { label = label; within = within; leaves = at.2; arrives = ends; spelled = among.spelled };
          best = (components_keep_best_paths map (component_at database.components label) part component just start among.moves goal begins).0 among.best;
          short = among.short;
          only = λ others its.
              let same = one_label its.label label its.within within start its.leaves at.2 in
              spelled_once comp.cells comp.rows whole.rows whole.once start goal others among.moves
              (subst (λ l. Spells (comp_at comps l).cells (comp_at comps l).rows start others goal) same its.spelled) among.spelled;
        },
      )

pub walks_are_best : WalksAreBest
walks_are_best map order comps database start goal reaches = best_walk map order comps database start goal reaches
