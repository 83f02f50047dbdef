-- The legal moves found so far: those with numbers below `n`.
use Rattle.std.proofs.Common.{◌≡◌, ℕ, ◌+◌, ◌<◌, ◌≤◌, List, [], ◌∷◌, ◌++◌, length, inl, inr, arith, subst, sym}
use Rattle.std.specs.Prelude.{All, AllPairs, Contains}
use Rattle.std.proofs.lemmas.Bool.{cases_lt}
use Rattle.std.proofs.lemmas.List.{length_push}
use Rattle.std.proofs.lemmas.List.Elements.{All-push, All-weaker, All-get_or, Contains-push, Contains-append_left}
use Rattle.std.proofs.lemmas.List.Quantifiers.{all_pairs_push}
use Rattle.moves.specs.declared.Cell.{Cell}
use Rattle.moves.specs.declared.Move.{Move}
use Rattle.moves.specs.Maps.{Map}
use Rattle.moves.specs.Moves.{number_of, IsTarget, IsLegal}
use Rattle.moves.specs.Neighbours.{AreNeighbours}
use Rattle.moves.proofs.MoveLaws.{same_move, same_target, number_below}

pub record FoundBelow (map : Map) (from : Cell) (n : ℕ) (found : List (Move × Cell)) : Type 0 where
  pub legal : All (λ pair. IsLegal map from pair.0 pair.1) found
  pub every : (move : Move) (to : Cell) → number_of move < n → IsLegal map from move to → Contains found (move, to)
  pub by_number : AllPairs (λ a b. number_of a.0 < number_of b.0) found
  pub below : All (λ pair. number_of pair.0 < n) found
  pub few : length found ≤ n

pub found_none : (map : Map) (from : Cell) → FoundBelow map from 0 []
found_none map from = record {
  legal = λ k d h. absurd (omega arith);
  every = λ move to h legal. absurd (omega arith);
  by_number = λ i j d p q. absurd (omega arith);
  below = λ k d h. absurd (omega arith);
  few = omega arith;
}

pub found_push : (map : Map) (from : Cell) (n : ℕ) (found : List (Move × Cell)) (pair : Move × Cell)
    → FoundBelow map from n found → IsLegal map from pair.0 pair.1 → number_of pair.0 ≡ n → FoundBelow map from (n + 1) (found ++ pair ∷ [])
found_push map from n found pair before legal number = record {
  legal = All-push (λ p. IsLegal map from p.0 p.1) found pair before.legal legal;
  every = λ move to h here. elim (cases_lt (number_of move) n) [
    | inl less ↦ Contains-append_left found (pair ∷ []) (move, to) (before.every move to less here)
    | inr more ↦
        let same : move ≡ pair.0 = same_move move pair.0 (omega arith) in
        let target : to ≡ pair.1 = same_target from pair.0 to pair.1 (subst (λ m. IsTarget from m to) same here.target) legal.target in
        let whole : (move, to) ≡ pair = (λ i. (same i, target i)) in
        subst (Contains (found ++ pair ∷ [])) (sym whole) (Contains-push found pair)
  ];
  by_number = all_pairs_push (λ a b. number_of a.0 < number_of b.0) found pair before.by_number
      (λ k d h. let low = All-get_or (λ p. number_of p.0 < n) found k d h before.below in omega (arith, low));
  below = All-push (λ p. number_of p.0 < n + 1) found pair
      (All-weaker (λ p. number_of p.0 < n) (λ p. number_of p.0 < n + 1) (λ p h. omega arith) found before.below) (omega arith);
  few = omega (arith, length_push found pair, before.few);
}

pub found_no_more : (map : Map) (from : Cell) (n : ℕ) (found : List (Move × Cell))
    → FoundBelow map from n found → ((move : Move) (to : Cell) → number_of move ≡ n → IsLegal map from move to → ⊥)
    → FoundBelow map from (n + 1) found
found_no_more map from n found before none = record {
  legal = before.legal;
  every = λ move to h here. elim (cases_lt (number_of move) n) [
    | inl less ↦ before.every move to less here
    | inr more ↦ absurd (none move to (omega arith) here)
  ];
  by_number = before.by_number;
  below = All-weaker (λ p. number_of p.0 < n) (λ p. number_of p.0 < n + 1) (λ p h. omega arith) found before.below;
  few = omega (arith, before.few);
}

pub found_all : (map : Map) (from : Cell) (found : List (Move × Cell)) → FoundBelow map from 8 found → AreNeighbours map from found
found_all map from found all = record {
  legal = all.legal;
  every = λ move to here. all.every move to (number_below move) here;
  by_number = all.by_number;
}
