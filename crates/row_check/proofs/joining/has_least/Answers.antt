use Rattle.std.proofs.Common.{◌≡◌, ℕ, ◌%◌, ◌^◌, ◌<◌, ◌↔◌, IsTrue, nat_eq, inl, inr, refl, subst, arith}
use Rattle.std.proofs.lemmas.Bool.{cases_eq}
use Rattle.std.proofs.lemmas.Bool.Decides.{nat_tests}
use lib.Count.{count_trailing_zeros}
use Rattle.run_pack.specs.Sets.{Has, IsLeastIn}
use Rattle.run_pack.proofs.SetLemmas.{IsLeastIn-trailing_zeros, none_in_empty}
use Rattle.row_check.proofs.joining.has_least.Goals as goal

tested : (a b : ℕ) → IsTrue (nat_eq a b) ↔ (a ≡ b)
tested a b = (λ h. grind (arith, nat_tests), λ h. grind (arith, nat_tests))

zeros_of_none : (moves : ℕ) → moves ≡ 0 → count_trailing_zeros 8 moves ≡ 8
unfolding count_trailing_zeros
zeros_of_none moves none = rw none refl

least_by_zeros : (moves move : ℕ) → moves < 2 ^ 8 → move < 8 → count_trailing_zeros 8 moves ≡ move ↔ IsLeastIn moves move
least_by_zeros moves move byte small = elim (cases_eq moves 0) [
  | inl none ↦ (
    λ same. absurd (let e = zeros_of_none moves none in omega arith),
    λ least. absurd (none_in_empty move (subst (λ s. Has s move) none least.member)),
  )
  | inr some ↦
      let zeros : IsLeastIn moves (count_trailing_zeros 8 moves) = IsLeastIn-trailing_zeros moves (omega arith) byte in (
        λ same. subst (IsLeastIn moves) same zeros,
        λ least. let a = zeros.least move least.member in let b = least.least (count_trailing_zeros 8 moves) zeros.member in omega arith,
      )
]

pub returns : goal.returns
returns c =
    let both = least_by_zeros c.args.moves (c.args.word % 8) (omega (arith, c.ranges.moves.fits)) (omega arith) in
    let test = tested (count_trailing_zeros 8 c.args.moves) (c.args.word % 8) in
    (λ h. both.0 (test.0 h), λ h. test.1 (both.1 h))
