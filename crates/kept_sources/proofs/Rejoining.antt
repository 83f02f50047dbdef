-- A path of a map that goes, from a cell to which first moves and least costs are known to be those of a part, on by a
-- path of the part.
use Rattle.std.proofs.Common.{◌≡◌, ◌⊎◌, List, [], ◌∷◌, ◌++◌, Some, None, get_or, refl, sym, ap, ◌∙◌, subst, inl, inr}
use Rattle.root_cost.specs.Costs.{IsAtMost, sum_of}
use Rattle.root_cost.proofs.Order.{at_most_itself, at_most_same, at_most_trans, at_most_antisymmetric}
use Rattle.root_cost.proofs.Adding.{at_most_sum, at_most_sum_cancel, at_most_sum_first_cancel}
use Rattle.moves.specs.declared.Cell.{Cell}
use Rattle.moves.specs.declared.Move.{Move}
use Rattle.moves.specs.Maps.{Map}
use Rattle.moves.specs.Paths.{Leads, cost_of, IsBest}
use Rattle.moves.specs.FirstSets.{IsFirstMove}
use Rattle.moves.proofs.CostsOfPaths.{cost_of-append}
use Rattle.moves.proofs.LawsOfPaths.{leads_from, joined, same_cost_of_best}
use Rattle.moves.proofs.BestPaths.{best_path_exists}
use Rattle.moves.proofs.FirstMoves.{best_none}
use Rattle.kept_sources.specs.Parts.{IsPart, HaveSameFirst, HaveSameCost}
use Rattle.kept_sources.proofs.Parting.{leads_of_part}

-- both parts of a best path are best, wherever it is cut
pub best_pieces : (map : Map) (a b c : Cell) (first rest : List Move) → IsBest map a (first ++ rest) c → Leads map a first b
    → Leads map b rest c → IsBest map a first b × IsBest map b rest c
best_pieces map a b c first rest best front back = (
  record {
    leads = front;
    least = λ others path. at_most_sum_cancel _ _ (cost_of rest)
        (rw (← cost_of-append first rest, ← cost_of-append others rest) (best.least (others ++ rest) (joined map a b c others rest path back)));
  },
  record {
    leads = back;
    least = λ others path. at_most_sum_first_cancel _ _ (cost_of first)
        (rw (← cost_of-append first rest, ← cost_of-append first others) (best.least (first ++ others) (joined map a b c first others front path)));
  },
)

-- ---- each path has one of the part that costs no more

-- a path of the part that costs no more
pub record IsMatched (part : Map) (from : Cell) (moves : List Move) (to : Cell) : Type 0 where
  pub others : List Move
  pub path : Leads part from others to
  pub cheap : IsAtMost (cost_of others) (cost_of moves)

module _ (map part : Map) (is_part : IsPart map part) (source to : Cell) (matched : (moves : List Move) → Leads map source moves to → IsMatched part source moves to) where
  pub best_of_part : (moves : List Move) → IsBest part source moves to → IsBest map source moves to
  best_of_part moves best = record {
    leads = leads_of_part map part is_part source moves to best.leads;
    least = λ others path.
        (let less = matched others path in at_most_trans _ _ _ (best.least less.others less.path) less.cheap);
  }

  pub best_in_part : (moves : List Move) → IsBest map source moves to → (others : List Move) → Leads part source others to
      → IsAtMost (cost_of others) (cost_of moves) → IsBest part source others to
  best_in_part moves best others path cheap = record {
    leads = path;
    least = λ more way. at_most_trans _ _ _ cheap (best.least more (leads_of_part map part is_part source more to way));
  }

  pub same_cost : HaveSameCost map part source to
  same_cost None = (
    λ none reached. none (reached.0, leads_of_part map part is_part source reached.0 to reached.1),
    λ none reached. (let less = matched reached.0 reached.1 in none (less.others, less.path)),
  )
  same_cost (Some cost) = (
    λ known.
        (let less = matched known.0 known.1.leads in
        let same = at_most_antisymmetric (cost_of less.others) (cost_of known.0) less.cheap
        (known.1.least less.others (leads_of_part map part is_part source less.others to less.path)) in
        (less.others, best_in_part known.0 known.1 less.others less.path less.cheap, same ∙ known.2)),
    λ known. (known.0, best_of_part known.0 known.1, known.2),
  )

  -- first moves are the same too where each best path begins as one of the part does
  pub same_first : ((move : Move) (moves : List Move) → IsBest map source (move ∷ moves) to → IsFirstMove part source to move)
      → HaveSameFirst map part source to
  same_first begins move = (
    λ begun. elim begun [
      | inl here ↦
          let less = matched [] (here.1, here.0) in
          inl (here.0, leads_from part source to less.others less.path)
      | inr (moves, best) ↦ begins move moves best
    ],
    λ begun. elim begun [
      | inl here ↦ inl (here.0, is_part.passable source here.1)
      | inr (moves, best) ↦ inr (moves, best_of_part (move ∷ moves) best)
    ],
  )

-- ---- each path is one of the part, or goes on as one from a cell that is known

-- a path as it goes on from a cell that is known, by a path of the part
pub record Rejoins (map part : Map) (known : Cell → Type 0) (from : Cell) (moves : List Move) (to : Cell) : Type 0 where
  pub first : List Move
  pub move : Move
  pub rest : List Move
  pub last : Cell
  pub whole : moves ≡ first ++ move ∷ rest
  pub at : known last
  pub front : Leads map from first last
  pub back : Leads part last (move ∷ rest) to

-- a path with one move more in front goes on in the same way
pub rejoins_later : (map part : Map) (known : Cell → Type 0) (from : Cell) (move : Move) (moves : List Move) (to : Cell)
    → (path : Leads map from (move ∷ moves) to) → Rejoins map part known path.0 moves to → Rejoins map part known from (move ∷ moves) to
rejoins_later map part known from move moves to path later = record {
  first = move ∷ later.first;
  move = later.move;
  rest = later.rest;
  last = later.last;
  whole = ap (λ ms. move ∷ ms) later.whole;
  at = later.at;
  front = (path.0, path.1, later.front);
  back = later.back;
}

-- a map and a part of it, and cells to which a source has the same first moves and least costs in both
pub record Agrees (map part : Map) (source : Cell) (known : Cell → Type 0) : Type 0 where
  pub first : (at : Cell) → known at → HaveSameFirst map part source at
  pub cost : (at : Cell) → known at → HaveSameCost map part source at

module _ (map part : Map) (is_part : IsPart map part) (source to : Cell) (known : Cell → Type 0) (agrees : Agrees map part source known)
    (split : (moves : List Move) → Leads map source moves to → Leads part source moves to ⊎ Rejoins map part known source moves to) where
  cheaper : (moves : List Move) → Leads map source moves to → IsMatched part source moves to
  cheaper moves path = elim (split moves path) [
    | inl stays ↦ record { others = moves; path = stays; cheap = at_most_itself (cost_of moves) }
    | inr leaves ↦
        let tail = leaves.move ∷ leaves.rest in
        let best = best_path_exists map source leaves.last (leaves.first, leaves.front) in
        let kept = (agrees.cost leaves.last leaves.at (Some (cost_of best.0))).0 (best.0, best.1, refl) in
        let front : IsAtMost (cost_of kept.0) (cost_of leaves.first) = rw kept.2 (best.1.least leaves.first leaves.front) in
        record {
          others = kept.0 ++ tail;
          path = joined part source leaves.last to kept.0 tail kept.1.leads leaves.back;
          cheap = rw (leaves.whole, cost_of-append kept.0 tail, cost_of-append leaves.first tail)
              (at_most_sum (cost_of kept.0) (cost_of leaves.first) (cost_of tail) front);
        }
  ]

  -- a best path begins as one of the part does
  begins : (move : Move) (moves first : List Move) (next : Move) (rest : List Move) (last : Cell) → IsBest map source (move ∷ moves) to
      → move ∷ moves ≡ first ++ next ∷ rest → known last → Leads map source first last → Leads part last (next ∷ rest) to
      → IsFirstMove part source to move
  begins move moves [] next rest last best whole at front back =
      let path = subst (λ c. Leads part c (next ∷ rest) to) (sym front.1) back in
      inr (
        moves,
        best_in_part map part is_part source to cheaper (move ∷ moves) best (move ∷ moves)
            (subst (λ ms. Leads part source ms to) (sym whole) path) (at_most_itself (cost_of (move ∷ moves))),
      )
  begins move moves (one ∷ first) next rest last best whole at front back =
      let same : move ≡ one = ap (λ ms. get_or ms 0 move) whole in
      let whole' : move ∷ moves ≡ (move ∷ first) ++ next ∷ rest = subst (λ m. move ∷ moves ≡ (m ∷ first) ++ next ∷ rest) (sym same) whole in
      let front' : Leads map source (move ∷ first) last = subst (λ m. Leads map source (m ∷ first) last) (sym same) front in
      let tail = next ∷ rest in
      let total : cost_of (move ∷ moves) ≡ sum_of (cost_of (move ∷ first)) (cost_of tail) = ap cost_of whole' ∙ cost_of-append (move ∷ first) tail in
      let whole_best = subst (λ ms. IsBest map source ms to) whole' best in
      let best_first = (best_pieces map source last to (move ∷ first) tail whole_best front' (leads_of_part map part is_part last tail to back)).0 in
      elim ((agrees.first last at move).0 (inr (first, best_first))) [
        | inl here ↦
            let none : move ∷ first ≡ [] = best_none map source (move ∷ first) (subst (λ c. IsBest map source (move ∷ first) c) (sym here.0) best_first) in
            absurd cc
        | inr (others, other) ↦
            let kept = (agrees.cost last at (Some (cost_of (move ∷ first)))).0 (move ∷ first, best_first, refl) in
            let equal : cost_of (move ∷ others) ≡ cost_of (move ∷ first) = same_cost_of_best part source last (move ∷ others) kept.0 other kept.1 ∙ kept.2 in
            let path = joined part source last to (move ∷ others) tail other.leads back in
            let alike : cost_of ((move ∷ others) ++ tail) ≡ cost_of (move ∷ moves) =
            cost_of-append (move ∷ others) tail ∙ ap (λ c. sum_of c (cost_of tail)) equal ∙ sym total in
            let cheap = at_most_same (cost_of ((move ∷ others) ++ tail)) (cost_of (move ∷ moves)) alike in
            inr (others ++ next ∷ rest, best_in_part map part is_part source to cheaper (move ∷ moves) best ((move ∷ others) ++ tail) path cheap)
      ]

  begins_so : (move : Move) (moves : List Move) → IsBest map source (move ∷ moves) to → IsFirstMove part source to move
  begins_so move moves best = elim (split (move ∷ moves) best.leads) [
    | inl stays ↦ inr (moves, best_in_part map part is_part source to cheaper (move ∷ moves) best (move ∷ moves) stays (at_most_itself (cost_of (move ∷ moves))))
    | inr leaves ↦ begins move moves leaves.first leaves.move leaves.rest leaves.last best leaves.whole leaves.at leaves.front leaves.back
  ]

  pub rejoined_cost : HaveSameCost map part source to
  rejoined_cost = same_cost map part is_part source to cheaper

  pub rejoined_first : HaveSameFirst map part source to
  rejoined_first = same_first map part is_part source to cheaper begins_so
