-- Sets by their bits.
use Rattle.std.proofs.Common.{◌≡◌, ℕ, ◌*◌, ◌^◌, ◌<◌, bit_and, w8, List, [], ◌∷◌, arith, inl, inr, sym, ◌∙◌}
use Rattle.std.specs.Int.{bit_at, trailing_zeros}
use Rattle.std.proofs.Math.Pow.{pow_pos}
use lib.Lanes.{fold_l}
use Rattle.std.proofs.lemmas.List.Elements.{All-nil, All-cons, All-head, All-tail}
use Rattle.std.proofs.lemmas.Bool.{cases_lt, cases_eq}
use Rattle.std.proofs.lemmas.Nat.Bits.{and_pow, bit_at_and, bit_at_above, bit_at-lt, bit_at-zero, bit_at_ones, bit_at-trailing_zeros}
use Rattle.run_pack.specs.Sets.{Has, IsShared, AreShared, ShareNone, IsLeastIn}

-- a number is in the set where its bit is 1
pub Has-from_bit : (set move : ℕ) → bit_at set move ≡ 1 → Has set move
unfolding Has
Has-from_bit set move one zero =
    let power : 0 < 2 ^ move = pow_pos move in
    let bit : bit_at set move * 2 ^ move ≡ 0 = sym (and_pow set move) ∙ zero in
    let same : 1 * 2 ^ move ≡ 0 = rw one at bit in
    absurd (omega arith)

pub bit_from_Has : (set move : ℕ) → Has set move → bit_at set move ≡ 1
unfolding Has
bit_from_Has set move has =
    let small = bit_at-lt set move in
    elim (cases_eq (bit_at set move) 1) [
      | inl one ↦ one
      | inr other ↦
          let none : bit_at set move ≡ 0 = omega arith in
          absurd (has (and_pow set move ∙ rw none (omega arith)))
    ]

-- what two sets share
pub Has-and : (a b move : ℕ) → Has a move → Has b move → Has (bit_and a b) move
Has-and a b move ha hb =
    let x = bit_from_Has a move ha in
    let y = bit_from_Has b move hb in
    Has-from_bit _ move (omega (arith, bit_at_and a b move))

pub Has-and_left : (a b move : ℕ) → Has (bit_and a b) move → Has a move
Has-and_left a b move h =
    let x = bit_from_Has _ move h in
    let small = bit_at-lt a move in
    Has-from_bit _ move (omega (arith, bit_at_and a b move))

pub Has-and_right : (a b move : ℕ) → Has (bit_and a b) move → Has b move
Has-and_right a b move h =
    let x = bit_from_Has _ move h in
    let small = bit_at-lt b move in
    Has-from_bit _ move (omega (arith, bit_at_and a b move))

pub IsShared-and : (a b : ℕ) → IsShared (bit_and a b) a b
IsShared-and a b move =
    (λ h. (Has-and_left a b move h, Has-and_right a b move h), λ h. Has-and a b move h.0 h.1)

-- nothing is in the empty set
pub none_in_empty : (move : ℕ) → Has 0 move → ⊥
none_in_empty move h =
    let one = bit_from_Has 0 move h in
    absurd (omega (arith, bit_at-zero move))

pub AreShared-fold : (set : ℕ) (sets : List ℕ) → AreShared (fold_l bit_and set sets) set sets
AreShared-fold set [] move =
    (λ has. (has, All-nil (λ other. Has other move)), λ both. both.0)
AreShared-fold set (next ∷ sets) move =
    let rest = AreShared-fold (bit_and set next) sets move in (
      λ has.
          (let parts = rest.0 has in
          (Has-and_left set next move parts.0, All-cons (λ other. Has other move) next sets (Has-and_right set next move parts.0) parts.1)),
      λ both.
          (let first = All-head (λ other. Has other move) next sets both.1 in
          rest.1 (Has-and set next move both.0 first, All-tail (λ other. Has other move) next sets both.1)),
    )

-- where two sets share nothing
pub ShareNone-from_and : (a b : ℕ) → bit_and a b ≡ 0 → ShareNone a b
ShareNone-from_and a b empty move ha hb =
    let both = Has-and a b move ha hb in
    none_in_empty move (rw empty at both)

-- the numbers of a byte are below 8
pub Has-below : (set move : ℕ) → set < 2 ^ 8 → Has set move → move < 8
Has-below set move byte h =
    let one = bit_from_Has set move h in
    elim (cases_lt move 8) [
      | inl below ↦ below
      | inr above ↦ absurd (omega (arith, bit_at_above set 8 move byte above))
    ]

-- the least number of a set that is not empty
pub Has-trailing_zeros : (set : ℕ) → 0 < set → set < 2 ^ 8 → Has set (trailing_zeros w8 set)
Has-trailing_zeros set some byte = Has-from_bit _ _ (bit_at-trailing_zeros w8 set some byte).1

pub IsLeastIn-trailing_zeros : (set : ℕ) → 0 < set → set < 2 ^ 8 → IsLeastIn set (trailing_zeros w8 set)
IsLeastIn-trailing_zeros set some byte =
    let bits = bit_at-trailing_zeros w8 set some byte in
    record {
      number = bits.0;
      member = Has-trailing_zeros set some byte;
      least = λ other has.
          (let one = bit_from_Has set other has in
          elim (cases_lt other (trailing_zeros w8 set)) [
            | inl below ↦ absurd (omega (arith, bits.2 other below))
            | inr above ↦ above
          ]);
    }

-- every number below 8 is in the set of all moves
pub Has-all : (move : ℕ) → move < 8 → Has 255 move
Has-all move below = Has-from_bit _ _ (bit_at_ones 8 move below)

-- what a set shares with what all sets of a list share
pub AreShared-both : (all set common : ℕ) (sets : List ℕ) → set < 2 ^ 8 → IsShared all set common → AreShared common 255 sets → AreShared all set sets
AreShared-both all set common sets byte both shared move = (
  λ has.
      (let parts = (both move).0 has in
      (parts.0, ((shared move).0 parts.1).1)),
  λ parts. (both move).1 (parts.0, (shared move).1 (Has-all move (Has-below set move byte parts.0), parts.1)),
)
