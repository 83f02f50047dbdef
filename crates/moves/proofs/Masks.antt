-- Masks of moves, bit by bit.
use Rattle.std.proofs.Common.{◌≡◌, ℕ, ◌+◌, ◌*◌, ◌%◌, ◌^◌, ◌<◌, ◌≤◌, ◌↔◌, true, false, inl, inr, arith, refl, subst, sym, ap, ◌∙◌}
use Rattle.std.specs.Prelude.{IsBitSet, bit_and, bit_or}
use Rattle.std.specs.Int.{bit_at, w8}
use Rattle.std.proofs.lemmas.Bool.{cases_eq, false≢true}
use Rattle.std.proofs.lemmas.Nat.{pow_pos}
use Rattle.std.proofs.lemmas.Nat.Bits.{and_pow, bit_at-lt, bit_at_set_same, bit_at_set_other, bit_at-zero}
use Rattle.moves.specs.declared.Cell.{Cell}
use Rattle.moves.specs.declared.Move.{Move}
use Rattle.moves.specs.declared.Move.TheVariants.{N, NE, E, SE, S, SW, W, NW}
use Rattle.moves.specs.Maps.{Map, IsPassable, IsLike}
use Rattle.moves.specs.Moves.{number_of, is_diagonal, corner, IsTarget, HasLegal}
use Rattle.moves.specs.MoveMasks.{HasFree, IsFreeMask, IsLegalAmong, IsMoveMask}
use Rattle.moves.proofs.MoveLaws.{number_below, same_target}

-- a bit is set where it is 1
pub bit_set_if_one : (n k : ℕ) → bit_at n k ≡ 1 → IsBitSet n k
bit_set_if_one n k one zero =
    let p : bit_and n (2 ^ k) ≡ 1 * 2 ^ k = and_pow n k ∙ ap (λ b. b * 2 ^ k) one in
    omega (arith, pow_pos k)

pub one_if_bit_set : (n k : ℕ) → IsBitSet n k → bit_at n k ≡ 1
one_if_bit_set n k is_set =
    elim (cases_eq (bit_at n k) 0) [
      | inl zero ↦ absurd (is_set (and_pow n k ∙ ap (λ b. b * 2 ^ k) zero ∙ omega arith))
      | inr other ↦ omega (arith, bit_at-lt n k)
    ]

-- the bits below `n` are those of the moves of which P holds, and no bit from `n` on is set
pub record MaskBelow (P : Move → Type 0) (n mask : ℕ) : Type 0 where
  pub clear : (k : ℕ) → n ≤ k → bit_at mask k ≡ 0
  pub only : (move : Move) → number_of move < n → bit_at mask (number_of move) ≡ 1 → P move
  pub every : (move : Move) → number_of move < n → P move → bit_at mask (number_of move) ≡ 1

pub mask_none : (P : Move → Type 0) → MaskBelow P 0 0
mask_none P = record { clear = λ k h. bit_at-zero k; only = λ move h. absurd (omega arith); every = λ move h. absurd (omega arith) }

pub mask_yes : (P : Move → Type 0) (n mask : ℕ) → n < 8 → MaskBelow P n mask
    → ((move : Move) → number_of move ≡ n → P move) → MaskBelow P (n + 1) (bit_or mask (1 * 2 ^ n % 2 ^ 8))
mask_yes P n mask small below here = record {
  clear = λ k h. bit_at_set_other w8 mask n small k (omega arith) ∙ below.clear k (omega arith);
  only = λ move h one. elim (cases_eq (number_of move) n) [
    | inl same ↦ here move same
    | inr apart ↦ below.only move (omega arith) (sym (bit_at_set_other w8 mask n small (number_of move) apart) ∙ one)
  ];
  every = λ move h has. elim (cases_eq (number_of move) n) [
    | inl same ↦ ap (bit_at (bit_or mask (1 * 2 ^ n % 2 ^ 8))) same ∙ bit_at_set_same w8 mask n small
    | inr apart ↦ bit_at_set_other w8 mask n small (number_of move) apart ∙ below.every move (omega arith) has
  ];
}

pub mask_no : (P : Move → Type 0) (n mask : ℕ) → MaskBelow P n mask → ((move : Move) → number_of move ≡ n → P move → ⊥)
    → MaskBelow P (n + 1) mask
mask_no P n mask below none = record {
  clear = λ k h. below.clear k (omega arith);
  only = λ move h one. elim (cases_eq (number_of move) n) [
    | inl same ↦ absurd (omega (arith, below.clear (number_of move) (omega arith)))
    | inr apart ↦ below.only move (omega arith) one
  ];
  every = λ move h has. elim (cases_eq (number_of move) n) [
    | inl same ↦ absurd (none move same has)
    | inr apart ↦ below.every move (omega arith) has
  ];
}

-- all numbers were asked
pub mask_done : (P : Move → Type 0) (n mask : ℕ) → 8 ≤ n → n ≤ 8 → MaskBelow P n mask → (move : Move)
    → (IsBitSet mask (number_of move) ↔ P move)
mask_done P n mask low high below move =
    let small : number_of move < n = omega (arith, number_below move) in
    (λ is_set. below.only move small (one_if_bit_set mask (number_of move) is_set), λ has. bit_set_if_one mask (number_of move) (below.every move small has))

-- no move is legal from a cell that is not passable
pub mask_of_blocked : (map : Map) (from : Cell) → (IsPassable map from → ⊥) → IsMoveMask map from 0
mask_of_blocked map from blocked move = (λ is_set. absurd (is_set refl), λ has. absurd (blocked has.1.leaves))

-- a straight move to a cell of its class is legal from a passable cell
straight : (map : Map) (from : Cell) (move : Move) → IsPassable map from → is_diagonal move ≡ false
    → (HasFree map from move ↔ HasLegal map from move)
straight map from move free even = (
  λ has. (has.0, record { target = has.1; leaves = free; enters = has.2; corners = λ odd. absurd (false≢true (sym even ∙ odd)) }),
  λ legal. (legal.0, legal.1.target, legal.1.enters),
)

-- a diagonal move is, where the moves beside it lead to cells of its class as well
diagonal : (map : Map) (from : Cell) (move vertical horizontal : Move) → IsPassable map from → is_diagonal move ≡ true
    → ((to : Cell) → IsTarget from move to → IsTarget from vertical (corner from to) × IsTarget from horizontal (corner to from))
    → (HasFree map from move × HasFree map from vertical × HasFree map from horizontal ↔ HasLegal map from move)
diagonal map from move vertical horizontal free odd beside = (
  λ has.
      let corners = beside has.0.0 has.0.1 in (
        has.0.0,
        record {
          target = has.0.1;
          leaves = free;
          enters = has.0.2;
          corners = λ _. (
            subst (IsLike map from) (same_target from vertical has.1.0 (corner from has.0.0) has.1.1 corners.0) has.1.2,
            subst (IsLike map from) (same_target from horizontal has.2.0 (corner has.0.0 from) has.2.1 corners.1) has.2.2,
          );
        },
      ),
  λ legal.
      let corners = beside legal.0 legal.1.target in
      let passable = legal.1.corners odd in
      ((legal.0, legal.1.target, legal.1.enters), (corner from legal.0, corners.0, passable.0), (corner legal.0 from, corners.1, passable.1)),
)

-- the mask of the moves to cells of its class tells the legal moves
pub legal_among : (map : Map) (from : Cell) (mask : ℕ) → IsPassable map from → IsFreeMask map from mask → (move : Move)
    → (IsLegalAmong mask move ↔ HasLegal map from move)
legal_among map from mask free around N = let s = straight map from N free refl in (λ h. s.0 ((around N).0 h), λ h. (around N).1 (s.1 h))
legal_among map from mask free around E = let s = straight map from E free refl in (λ h. s.0 ((around E).0 h), λ h. (around E).1 (s.1 h))
legal_among map from mask free around S = let s = straight map from S free refl in (λ h. s.0 ((around S).0 h), λ h. (around S).1 (s.1 h))
legal_among map from mask free around W = let s = straight map from W free refl in (λ h. s.0 ((around W).0 h), λ h. (around W).1 (s.1 h))
legal_among map from mask free around NE =
    let d = diagonal map from NE N E free refl (λ to t. ((refl, t.1), (t.0, refl))) in
    (λ h. d.0 ((around NE).0 h.0, (around N).0 h.1, (around E).0 h.2), λ h. let has = d.1 h in ((around NE).1 has.0, (around N).1 has.1, (around E).1 has.2))
legal_among map from mask free around SE =
    let d = diagonal map from SE S E free refl (λ to t. ((refl, t.1), (t.0, refl))) in
    (λ h. d.0 ((around SE).0 h.0, (around S).0 h.2, (around E).0 h.1), λ h. let has = d.1 h in ((around SE).1 has.0, (around E).1 has.2, (around S).1 has.1))
legal_among map from mask free around SW =
    let d = diagonal map from SW S W free refl (λ to t. ((refl, t.1), (t.0, refl))) in
    (λ h. d.0 ((around SW).0 h.0, (around S).0 h.1, (around W).0 h.2), λ h. let has = d.1 h in ((around SW).1 has.0, (around S).1 has.1, (around W).1 has.2))
legal_among map from mask free around NW =
    let d = diagonal map from NW N W free refl (λ to t. ((refl, t.1), (t.0, refl))) in
    (λ h. d.0 ((around NW).0 h.0, (around N).0 h.2, (around W).0 h.1), λ h. let has = d.1 h in ((around NW).1 has.0, (around W).1 has.2, (around N).1 has.1))
