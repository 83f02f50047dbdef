-- Sets emptied one after the other.
use Rattle.std.proofs.Common.{◌≡◌, ℕ, ◌+◌, ◌<◌, ◌≤◌, inl, inr, sym, subst, ◌∙◌, arith, List, length, get_or, set, ap}
use Rattle.std.proofs.lemmas.Bool.{cases_eq}
use Rattle.std.proofs.lemmas.List.{get_or-set_same, get_or-set_other, get_or_default}
use Rattle.moves.specs.declared.Move.{Move}
use Rattle.moves.specs.MoveSets.{Has}
use Rattle.moves.proofs.MovesInSets.{Has-none}
use Rattle.first_sets.specs.Memory.{AreEmpty, AreEmptyBut}

-- only sets at places from number `i` on are not empty
pub record AreLeft (places : List ℕ) (i : ℕ) (sets : List ℕ) : Type 0 where
  pub from : (place : ℕ) (move : Move) → Has (get_or sets place 0) move → (k : ℕ) × (i ≤ k) × (k < length places) × (get_or places k place ≡ place)

pub left_all : (places sets : List ℕ) → AreEmptyBut places sets → AreLeft places 0 sets
left_all places sets h = record { from = λ place move has. let at = h place move has in (at.0, omega arith, at.1, at.2) }

pub left_less : (places : List ℕ) (i : ℕ) (sets : List ℕ) (at : ℕ) → i < length places → at ≡ get_or places i 0 → at < length sets → AreLeft places i sets
    → AreLeft places (i + 1) (set sets at 0)
left_less places i sets at l here low left = record {
  from = λ place move has. elim (cases_eq place at) [
    | inl e ↦ absurd (Has-none move (subst (λ s. Has s move) (ap (λ p. get_or (set sets at 0) p 0) e ∙ get_or-set_same sets at 0 0 low) has))
    | inr n ↦
        let old = left.from place move (subst (λ s. Has s move) (get_or-set_other sets at place 0 0 n) has) in
        let k = old.0 in
        let high = old.1 in
        elim (cases_eq k i) [
          | inl e ↦ absurd (n (sym old.3 ∙ ap (λ j. get_or places j place) e ∙ get_or_default places i place 0 l ∙ sym here))
          | inr more ↦ (k, omega arith, old.2, old.3)
        ]
  ];
}

pub left_none : (places : List ℕ) (i : ℕ) (sets : List ℕ) → length places ≤ i → AreLeft places i sets → AreEmpty sets
left_none places i sets past left place move has =
    let old = left.from place move has in
    let high = old.1 in let low = old.2 in
    absurd (omega arith)
