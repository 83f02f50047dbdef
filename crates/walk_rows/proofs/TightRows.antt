-- Sets that can be packed have a tight row, whether or not it is made.
use Rattle.std.proofs.Common.{◌≡◌, ℕ, zero, suc, ◌+◌, ◌*◌, ◌/◌, ◌%◌, ◌^◌, ◌<◌, ◌≤◌, w8, List, [], ◌∷◌, ◌++◌, length, slice_index, All, refl, sym, subst, ◌∙◌, inl, inr, arith}
use Rattle.std.specs.Int.{bit_at, trailing_zeros}
use Rattle.std.specs.Prelude.{bit_and}
use Rattle.std.proofs.lemmas.Bool.{cases_lt, cases_eq}
use Rattle.std.proofs.lemmas.Nat.Bits.{bit_at_and, bit_at_above, bit_at_cat_low, same_from_bits}
use Rattle.run_pack.specs.declared.Run.{Run}
use Rattle.run_pack.specs.Runs.{ArePackable, IsTight}
use Rattle.run_pack.proofs.SetLemmas.{IsShared-and, ShareNone-from_and, IsLeastIn-trailing_zeros}
use Rattle.run_pack.proofs.Packing.{IsPackedUpTo, packed_first, packed_longer, packed_cut, packed_all}

-- a number without bits from the eighth on is a byte
pub byte_from_bits : (n : ℕ) → ((i : ℕ) → 8 ≤ i → bit_at n i ≡ 0) → n < 2 ^ 8
byte_from_bits n clear =
    let low : ℕ = n % 2 ^ 8 in
    let small : low < 2 ^ 8 = omega arith in
    let parts : n / 2 ^ 8 * 2 ^ 8 + low ≡ n = omega arith in
    let same : n ≡ low = same_from_bits n low (λ i. elim (cases_lt i 8) [
      | inl below ↦ subst (λ m. bit_at m i ≡ bit_at low i) parts (bit_at_cat_low (n / 2 ^ 8) 8 low i below)
      | inr above ↦ clear i above ∙ sym (bit_at_above low 8 i small above)
    ]) in
    omega arith

-- what is shared with a byte is one
and_is_byte : (a b : ℕ) → b < 2 ^ 8 → bit_and a b < 2 ^ 8
and_is_byte a b byte = byte_from_bits (bit_and a b) (λ i above. omega (arith, bit_at_and a b i, bit_at_above b 8 i byte above))

-- the sets before a place are packed
record ArePackedTo (sets : List ℕ) (upto : ℕ) : Type 0 where
  runs : List Run
  start : ℕ
  common : ℕ
  byte : common < 2 ^ 8
  packed : IsPackedUpTo sets runs start common upto

module _ (sets : List ℕ) (p : ArePackable sets) (bytes : All (λ set. set < 2 ^ 8) sets) where
  packed_to : (upto : ℕ) → upto ≤ length sets → ArePackedTo sets upto
  packed_to zero few = record { runs = []; start = 0; common = 255; byte = omega arith; packed = packed_first sets }
  packed_to (suc upto) few =
      let before = packed_to upto (omega arith) in
      let set : ℕ = slice_index sets upto in
      let next : upto + 1 ≡ suc upto = omega arith in
      let some : 0 < set = p.non_empty upto 0 (omega arith) in
      let byte : set < 2 ^ 8 = bytes upto 0 (omega arith) in
      elim (cases_eq (bit_and before.common set) 0) [
        | inl none ↦
            let run : Run = record { start = before.start; mv = trailing_zeros w8 before.common } in
            let least = IsLeastIn-trailing_zeros before.common before.packed.some before.byte in
            let cut = packed_cut sets before.runs before.start before.common upto before.packed run refl least byte some (ShareNone-from_and before.common set none) in
            record { runs = before.runs ++ run ∷ []; start = upto; common = set; byte = byte; packed = subst (IsPackedUpTo sets (before.runs ++ run ∷ []) upto set) next cut }
        | inr both ↦
            let shared : ℕ = bit_and before.common set in
            let longer = packed_longer sets before.runs before.start before.common upto before.packed before.start shared refl (omega arith) (IsShared-and before.common set) in
            record { runs = before.runs; start = before.start; common = shared; byte = and_is_byte before.common set byte; packed = subst (IsPackedUpTo sets before.runs before.start shared) next longer }
      ]

  pub tight_row_exists : (row : List Run) × IsTight row sets
  tight_row_exists =
      let all = packed_to (length sets) (omega arith) in
      let run : Run = record { start = all.start; mv = trailing_zeros w8 all.common } in
      let least = IsLeastIn-trailing_zeros all.common all.packed.some all.byte in
      (all.runs ++ run ∷ [], packed_all sets all.runs all.start all.common (length sets) all.packed run refl least refl p.some)
