-- Bits of masks of 64.
use Rattle.std.proofs.Common.{◌≡◌, ℕ, ◌*◌, ◌%◌, ◌^◌, ◌<◌, ◌⊎◌, inl, inr, sym, ap, subst, ◌∙◌, arith}
use Rattle.std.specs.Prelude.{IsBitSet, bit_and, bit_or}
use Rattle.std.specs.Int.{bit_at, w64}
use Rattle.std.proofs.lemmas.Bool.{cases_eq}
use Rattle.std.proofs.lemmas.Nat.Bits.{bit_at_and, bit_at-lt, bit_at_set_same, bit_at_set_other, bit_at-zero}
use Rattle.moves.proofs.Masks.{bit_set_if_one, one_if_bit_set}

pub no_bits : (index : ℕ) → IsBitSet 0 index → ⊥
no_bits index h = omega (arith, bit_at-zero index, one_if_bit_set 0 index h)

pub all_of_mask : (bits mask : ℕ) → bit_and bits mask ≡ mask → (index : ℕ) → IsBitSet mask index → IsBitSet bits index
all_of_mask bits mask same index h =
    let one = one_if_bit_set mask index h in
    let both : bit_at (bit_and bits mask) index ≡ bit_at mask index = ap (λ n. bit_at n index) same in
    bit_set_if_one bits index (omega (arith, bit_at_and bits mask index, bit_at-lt bits index))

-- a mask with one bit more
abbrev pub with_bit : ℕ → ℕ → ℕ
with_bit bits n = bit_or bits (1 * 2 ^ n % 2 ^ 64)

pub bit_there : (bits n : ℕ) → n < 64 → IsBitSet (with_bit bits n) n
bit_there bits n l = bit_set_if_one (with_bit bits n) n (bit_at_set_same w64 bits n l)

pub bit_still : (bits n index : ℕ) → n < 64 → IsBitSet bits index → IsBitSet (with_bit bits n) index
bit_still bits n index l h = elim (cases_eq index n) [
  | inl same ↦ subst (IsBitSet (with_bit bits n)) (sym same) (bit_there bits n l)
  | inr apart ↦ bit_set_if_one (with_bit bits n) index (bit_at_set_other w64 bits n l index apart ∙ one_if_bit_set bits index h)
]

pub bit_from : (bits n index : ℕ) → n < 64 → IsBitSet (with_bit bits n) index → IsBitSet bits index ⊎ (index ≡ n)
bit_from bits n index l h = elim (cases_eq index n) [
  | inl same ↦ inr same
  | inr apart ↦ inl (bit_set_if_one bits index (sym (bit_at_set_other w64 bits n l index apart) ∙ one_if_bit_set (with_bit bits n) index h))
]
