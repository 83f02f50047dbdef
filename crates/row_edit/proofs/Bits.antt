-- Tests on sets by their bits.
use Rattle.std.proofs.Common.{◌≡◌, ℕ, ◌/◌, ◌^◌, ◌<◌, ◌≤◌, w8, bit_and, arith, inl, inr, sym, subst, ◌∙◌}
use Rattle.std.specs.Int.{bit_at, bit_not, trailing_zeros}
use Rattle.std.proofs.lemmas.Bool.{cases_lt, cases_eq}
use Rattle.std.proofs.lemmas.Nat.Bits.{bit_at_and, bit_at_not, bit_at-lt, shr_and_one, bit_at-trailing_zeros}
use Rattle.run_pack.specs.Sets.{Has}
use Rattle.run_pack.proofs.SetLemmas.{Has-from_bit, bit_from_Has, Has-and_right, Has-below, none_in_empty}
use Rattle.row_edit.specs.Parts.{IsWithin, LeavesRest, HasNoneBelow}

pub Has-tested : (set move : ℕ) → bit_and (set / 2 ^ move) 1 ≡ 1 → Has set move
Has-tested set move one = Has-from_bit set move (sym (shr_and_one set move) ∙ one)

pub IsWithin-and : (set other : ℕ) → bit_and set other ≡ set → IsWithin set other
IsWithin-and set other same move has = Has-and_right set other move (rw same has)

pub LeavesRest-not : (set other : ℕ) → set < 2 ^ 8 → other < 2 ^ 8 → LeavesRest set other (bit_and set (bit_not w8 other))
LeavesRest-not set other byte byte' move has =
    let one = bit_from_Has set move has in
    elim (cases_eq (bit_at other move) 1) [
      | inl there ↦ inl (Has-from_bit other move there)
      | inr none ↦
          let small = bit_at-lt other move in
          let not = bit_at_not w8 other move byte' (Has-below set move byte has) in
          inr (Has-from_bit _ move (omega (arith, bit_at_and set (bit_not w8 other) move)))
    ]

-- nothing of a set is below its lowest bit
pub HasNoneBelow-zeros : (set move : ℕ) → set < 2 ^ 8 → move ≤ trailing_zeros w8 set → HasNoneBelow set move
HasNoneBelow-zeros set move byte low other has =
    elim (cases_lt 0 set) [
      | inr none ↦
          let empty : set ≡ 0 = omega arith in
          absurd (none_in_empty other (subst (λ s. Has s other) empty has))
      | inl some ↦
          let one = bit_from_Has set other has in
          elim (cases_lt other (trailing_zeros w8 set)) [
            | inl below ↦ absurd (omega (arith, (bit_at-trailing_zeros w8 set some byte).2 other below))
            | inr above ↦ omega arith
          ]
    ]
