-- Sets of moves: what is in the sets that are made of others.
use Rattle.std.proofs.Common.{◌≡◌, ℕ, ◌*◌, ◌^◌, ◌%◌, ◌/◌, ◌<◌, ◌⊎◌, ◌↔◌, inl, inr, arith, sym, ap, subst, refl, ◌∙◌, Option, Some, None, MatchOption, IsTrue, nat_eq, IsBitSet}
use Rattle.std.specs.Int.{w8, bit_at, trailing_zeros}
use Rattle.std.proofs.lemmas.Bool.Decides.{nat_tests}
use lib.Count.{count_trailing_zeros}
use Rattle.std.specs.Int.RustNames.{bit_or}
use Rattle.std.specs.Int.Bits.{bit_and}
use Rattle.std.proofs.lemmas.Bool.{cases_eq, cases_lt}
use Rattle.std.proofs.lemmas.Nat.Bits.{bit_at_and, bit_at_or, bit_at-lt, bit_at-zero, bit_at_ones, bit_at_set_same, bit_at_set_other, same_from_bits_below, bit_at-trailing_zeros, bit_at-pow_same, bit_at-pow_other, shr_and_one}
use Rattle.std.proofs.lemmas.Nat.{bit_set_by_shift}
use Rattle.moves.specs.declared.Move.{Move}
use Rattle.moves.specs.declared.Move.TheVariants.{N, NE, E, SE, S, SW, W, NW}
use Rattle.moves.specs.Moves.{number_of}
use Rattle.moves.specs.MoveSets.{Has, IsEmpty, IsLeastIn, SetsAreTheirMoves}
use Rattle.moves.proofs.MoveLaws.{same_move, number_below}

-- a move is in a set where its bit is 1
pub Has-bit : (set : ℕ) (m : Move) → Has set m → bit_at set (number_of m) ≡ 1
unfolding Has
Has-bit set m h = sym (shr_and_one set (number_of m)) ∙ (bit_set_by_shift set (number_of m)).1 h

pub Has-from_bit : (set : ℕ) (m : Move) → bit_at set (number_of m) ≡ 1 → Has set m
unfolding Has
Has-from_bit set m h = (bit_set_by_shift set (number_of m)).0 (shr_and_one set (number_of m) ∙ h)

-- in the words of masks of moves
pub Has-bit_set : (set : ℕ) (m : Move) → Has set m ↔ IsBitSet set (number_of m)
unfolding Has
Has-bit_set set m = (λ h. h, λ h. h)

-- each bit is 0 or 1
one_of : (set i : ℕ) → (bit_at set i ≡ 1) ⊎ (bit_at set i ≡ 0)
one_of set i = elim (cases_eq (bit_at set i) 1) [
  | inl e ↦ inl e
  | inr n ↦ inr (omega (arith, bit_at-lt set i))
]

-- ---- both, either, one more

pub Has-meet : (a b : ℕ) (m : Move) → Has (bit_and a b) m ↔ (Has a m × Has b m)
Has-meet a b m =
    let bit = bit_at_and a b (number_of m) in
    let low = bit_at-lt a (number_of m) in
    let other = bit_at-lt b (number_of m) in (
      λ h. let one = Has-bit _ m h in (Has-from_bit a m (omega arith), Has-from_bit b m (omega arith)),
      λ h. let one = Has-bit a m h.0 in let more = Has-bit b m h.1 in Has-from_bit _ m (omega arith),
    )

pub Has-join : (a b : ℕ) (m : Move) → Has (bit_or a b) m ↔ (Has a m ⊎ Has b m)
Has-join a b m =
    let bit = bit_at_or a b (number_of m) in
    let low = bit_at-lt a (number_of m) in
    let other = bit_at-lt b (number_of m) in (
      λ h. let one = Has-bit _ m h in elim (one_of a (number_of m)) [ inl e ↦ inl (Has-from_bit a m e) | inr e ↦ inr (Has-from_bit b m (omega arith)) ],
      λ h. elim h [ inl e ↦ let one = Has-bit a m e in Has-from_bit _ m (omega arith) | inr e ↦ let one = Has-bit b m e in Has-from_bit _ m (omega arith) ],
    )

pub Has-with : (a : ℕ) (m k : Move) → Has (bit_or a (1 * 2 ^ number_of k % 256)) m ↔ (Has a m ⊎ (m ≡ k))
Has-with a m k =
    let below : number_of k < 8 = number_below k in
    elim (cases_eq (number_of m) (number_of k)) [
      | inl e ↦
          let same : bit_at (bit_or a (1 * 2 ^ number_of k % 256)) (number_of k) ≡ 1 = bit_at_set_same w8 a (number_of k) below in
          (λ h. inr (same_move m k e), λ h. Has-from_bit _ m (ap (bit_at (bit_or a (1 * 2 ^ number_of k % 256))) e ∙ same))
      | inr n ↦
          let other : bit_at (bit_or a (1 * 2 ^ number_of k % 256)) (number_of m) ≡ bit_at a (number_of m) =
          bit_at_set_other w8 a (number_of k) below (number_of m) n in (
            λ h. inl (Has-from_bit a m (sym other ∙ Has-bit _ m h)),
            λ h. elim h [ inl e ↦ Has-from_bit _ m (other ∙ Has-bit a m e) | inr e ↦ absurd (n (ap number_of e)) ],
          )
    ]

-- ---- none, all, one

pub Has-none : (m : Move) → Has 0 m → ⊥
Has-none m h = omega (arith, bit_at-zero (number_of m), Has-bit 0 m h)

pub Has-all : (m : Move) → Has 255 m
Has-all m = Has-from_bit 255 m (bit_at_ones 8 (number_of m) (number_below m))

pub Has-one : (m k : Move) → Has (2 ^ number_of k) m ↔ (m ≡ k)
Has-one m k = elim (cases_eq (number_of m) (number_of k)) [
  | inl e ↦ (λ h. same_move m k e, λ h. Has-from_bit _ m (ap (bit_at (2 ^ number_of k)) e ∙ bit_at-pow_same (number_of k)))
  | inr n ↦ (λ h. absurd (omega (arith, bit_at-pow_other (number_of k) (number_of m) n, Has-bit _ m h)), λ h. absurd (n (ap number_of h)))
]

-- ---- sets by their moves

-- the move with a number
pub move_with : (i : ℕ) → i < 8 → (m : Move) × (number_of m ≡ i)
move_with i h = elim (cases_eq i 0) [
  | inl e ↦ (N, sym e)
  | inr a ↦
      elim (cases_eq i 1) [
        | inl e ↦ (NE, sym e)
        | inr b ↦
            elim (cases_eq i 2) [
              | inl e ↦ (E, sym e)
              | inr c ↦
                  elim (cases_eq i 3) [
                    | inl e ↦ (SE, sym e)
                    | inr d ↦
                        elim (cases_eq i 4) [
                          | inl e ↦ (S, sym e)
                          | inr f ↦
                              elim (cases_eq i 5) [
                                | inl e ↦ (SW, sym e)
                                | inr g ↦
                                    elim (cases_eq i 6) [ inl e ↦ (W, sym e) | inr j ↦ (NW, omega arith) ]
                              ]
                        ]
                  ]
            ]
      ]
]

same_bits : (a b : ℕ) (m : Move) → Has a m ↔ Has b m → bit_at a (number_of m) ≡ bit_at b (number_of m)
same_bits a b m h = elim (one_of a (number_of m)) [
  | inl e ↦ e ∙ sym (Has-bit b m (h.0 (Has-from_bit a m e)))
  | inr e ↦ elim (one_of b (number_of m)) [ inl f ↦ absurd (omega (arith, Has-bit a m (h.1 (Has-from_bit b m f)))) | inr f ↦ e ∙ sym f ]
]

pub sets_by_moves : SetsAreTheirMoves
sets_by_moves a b p q h = same_from_bits_below 8 a b p q (λ i l. let w = move_with i l in subst (λ j. bit_at a j ≡ bit_at b j) w.1 (same_bits a b w.0 (h w.0)))

pub empty_is_none : (set : ℕ) → set < 256 → IsEmpty set → set ≡ 0
empty_is_none set l h = sets_by_moves set 0 l (omega arith) (λ m. (λ e. absurd (h m e), λ e. absurd (Has-none m e)))

pub none_is_empty : (set : ℕ) → set ≡ 0 → IsEmpty set
none_is_empty set e m h = Has-none m (subst (λ s. Has s m) e h)

-- ---- the least move

pub least_by_zeros : (set : ℕ) (m : Move) → 0 < set → set < 256 → number_of m ≡ trailing_zeros w8 set → IsLeastIn set m
least_by_zeros set m some l e =
    let zeros = bit_at-trailing_zeros w8 set some l in
    record {
      has = Has-from_bit set m (ap (bit_at set) e ∙ zeros.1);
      first = λ other h. elim (cases_lt (number_of other) (number_of m)) [
        | inl low ↦ absurd (omega (arith, zeros.2 (number_of other) (omega arith), Has-bit set other h))
        | inr high ↦ high
      ];
    }

no_zeros_in_none : (set : ℕ) → set ≡ 0 → trailing_zeros w8 set ≡ 8
unfolding count_trailing_zeros
no_zeros_in_none set e = rw e refl

pub least_answer : (set : ℕ) (found : Option Move) → set < 256
    → MatchOption found (7 < trailing_zeros w8 set) (λ m. number_of m ≡ trailing_zeros w8 set)
    → MatchOption found (IsEmpty set) (IsLeastIn set)
least_answer set None l h = elim (cases_eq set 0) [
  | inl e ↦ none_is_empty set e
  | inr n ↦ let zeros = bit_at-trailing_zeros w8 set (omega arith) l in let low : trailing_zeros w8 set < 8 = zeros.0 in absurd (omega arith)
]
least_answer set (Some m) l h = elim (cases_eq set 0) [
  | inl e ↦ absurd (omega (arith, no_zeros_in_none set e, number_below m))
  | inr n ↦ least_by_zeros set m (omega arith) l h
]

-- ---- tests

pub none_if_tested : (set : ℕ) → set < 256 → IsTrue (nat_eq set 0) ↔ IsEmpty set
none_if_tested set l = (λ h. none_is_empty set (grind (arith, nat_tests)), λ h. let e = empty_is_none set l h in grind (arith, nat_tests))

one_if_tested : (n : ℕ) → IsTrue (nat_eq n 1) ↔ (n ≡ 1)
one_if_tested n = (λ h. grind (arith, nat_tests), λ h. grind (arith, nat_tests))

pub Has-tested : (set i : ℕ) (m : Move) → i ≡ number_of m → IsTrue (nat_eq (bit_and (set / 2 ^ i) 1) 1) ↔ Has set m
unfolding Has
Has-tested set i m e = rw e (
  λ h. (bit_set_by_shift set (number_of m)).0 ((one_if_tested _).0 h),
  λ h. (one_if_tested _).1 ((bit_set_by_shift set (number_of m)).1 h),
)
