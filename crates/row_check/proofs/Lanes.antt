-- Eight lanes, and the bits that tell which of them pass a test.
use Rattle.std.proofs.Common.{◌≡◌, ℕ, ◌%◌, ◌^◌, ◌<◌, ◌≤◌, ◌↔◌, suc, Bool, true, false, not, cond, eqb, ltb, IsTrue, IsFalse, nat_eq, List, [], ◌∷◌, map, length, get_or, refl, sym, ap, subst, ◌∙◌, arith, eqb-true, eq-eqb, ltb-true, ltb-false}
use Rattle.std.specs.Int.{bit_at}
use Rattle.std.proofs.lemmas.List.{get_or-map, length-map}
use Rattle.std.proofs.lemmas.Simd.{length-zip2, get_or-zip2, mask_l-lt, mask_l-mod, bit_mask_l}
use Rattle.std.proofs.lemmas.Nat.Bits.{bit_at-zero}
use Rattle.run_pack.specs.Sets.{Has}
use Rattle.row_check.specs.Offers.{HasLess}
use Rattle.run_pack.proofs.SetLemmas.{Has-from_bit, bit_from_Has}
use lib.Lanes.{zip2, mask_l, top}

-- the bit of a test
abbrev bit_for : Bool → ℕ
bit_for b = cond b 1 0

module _ (f : ℕ → ℕ → ℕ) (xs ys : List ℕ) (long : length xs ≡ 8) (long' : length ys ≡ 8) where
  abbrev tests : List Bool
  tests = map (top 31) (zip2 f xs ys)

  length_both : length (zip2 f xs ys) ≡ 8
  length_both = length-zip2 f xs ys (long ∙ sym long') ∙ long

  length_tests : length tests ≡ 8
  length_tests = length-map (zip2 f xs ys) (top 31) ∙ length_both

  -- the bits of all lanes as they are
  whole : mask_l tests % 2 ^ 64 ≡ mask_l tests
  whole = mask_l-mod tests 64 (omega (arith, length_tests))

  pub is_byte : mask_l tests % 2 ^ 64 < 256
  is_byte =
      let below : mask_l tests < 2 ^ 8 = subst (λ n. mask_l tests < 2 ^ n) length_tests (mask_l-lt tests) in
      rw whole below

  -- the bit of a lane
  pub bit_of : (i : ℕ) → i < 8 → bit_at (mask_l tests % 2 ^ 64) i ≡ bit_for (top 31 (f (get_or xs i 0) (get_or ys i 0)))
  bit_of i l =
      ap (λ n. bit_at n i) whole ∙ bit_mask_l tests i
      ∙ ap bit_for (get_or-map (top 31) (zip2 f xs ys) i 0 false (omega (arith, length_both)) ∙ ap (top 31) (get_or-zip2 f xs ys i 0 0 0 (omega (arith, long)) (omega (arith, long'))))

is_zero : (n : ℕ) → IsFalse (not (nat_eq n 0)) → n ≡ 0
is_zero n h = go (nat_eq n 0) refl h
  where
    go : (t : Bool) → nat_eq n 0 ≡ t → IsFalse (not t) → n ≡ 0
    go true e h = eqb-true _ _ e
    go false e h = absurd (cc)

-- what a bit of the comparison of two numbers tells
not_less : (x y : ℕ) → bit_for (top 31 (cond (ltb x y) 4294967295 0)) ≡ 0 → y ≤ x
not_less x y h = go (ltb x y) refl h
  where
    go : (t : Bool) → ltb x y ≡ t → bit_for (top 31 (cond t 4294967295 0)) ≡ 0 → y ≤ x
    go true e h = absurd (omega arith)
    go false e h = ltb-false _ _ e

is_less : (x y : ℕ) → bit_for (top 31 (cond (ltb x y) 4294967295 0)) ≡ 1 → x < y
is_less x y h = go (ltb x y) refl h
  where
    go : (t : Bool) → ltb x y ≡ t → bit_for (top 31 (cond t 4294967295 0)) ≡ 1 → x < y
    go true e h = ltb-true _ _ e
    go false e h = absurd (omega arith)

-- a lane whose bit is 1, where the bits are no 0
record HasOne (ms : List Bool) : Type 0 where
  lane : ℕ
  within : lane < length ms
  one : get_or ms lane false ≡ true

some_one : (ms : List Bool) → (mask_l ms ≡ 0 → ⊥) → HasOne ms
some_one [] some = absurd (some refl)
some_one (true ∷ ms) some = record { lane = 0; within = omega arith; one = refl }
some_one (false ∷ ms) some =
    let rest = some_one ms (λ e. some (omega (arith, e))) in
    record { lane = suc rest.lane; within = (let l = rest.within in omega arith); one = rest.one }

not_zero : (n : ℕ) → IsTrue (not (nat_eq n 0)) → n ≡ 0 → ⊥
not_zero n h e = go (nat_eq n 0) (eq-eqb n 0 e) h
  where
    go : (t : Bool) → t ≡ true → IsTrue (not t) → ⊥
    go true e h = absurd (cc)
    go false e h = absurd (cc)

one_if_equal : (x y : ℕ) → x ≡ y → bit_for (top 31 (cond (eqb x y) 4294967295 0)) ≡ 1
one_if_equal x y e = ap (λ t. bit_for (top 31 (cond t 4294967295 0))) (eq-eqb x y e)

equal_if_one : (x y : ℕ) → bit_for (top 31 (cond (eqb x y) 4294967295 0)) ≡ 1 → x ≡ y
equal_if_one x y h = go (eqb x y) refl h
  where
    go : (t : Bool) → eqb x y ≡ t → bit_for (top 31 (cond t 4294967295 0)) ≡ 1 → x ≡ y
    go true e h = eqb-true _ _ e
    go false e h = absurd (omega arith)

module _ (xs ys : List ℕ) (long : length xs ≡ 8) (long' : length ys ≡ 8) where
  pub none_less : IsFalse (not (nat_eq (mask_l (tests (λ a b. cond (ltb a b) 4294967295 0) xs ys long long') % 2 ^ 64) 0))
      → (i : ℕ) → i < 8 → get_or ys i 0 ≤ get_or xs i 0
  none_less none i l =
      let nothing = is_zero _ none in
      not_less _ _ (sym (bit_of (λ a b. cond (ltb a b) 4294967295 0) xs ys long long' i l) ∙ ap (λ n. bit_at n i) nothing ∙ bit_at-zero i)

  pub some_less : IsTrue (not (nat_eq (mask_l (tests (λ a b. cond (ltb a b) 4294967295 0) xs ys long long') % 2 ^ 64) 0)) → HasLess xs ys
  some_less some =
      let found = some_one (tests less xs ys long long') (λ e. not_zero _ some (whole less xs ys long long' ∙ e)) in
      let l : found.lane < 8 = (let w = found.within in omega (arith, length_tests less xs ys long long')) in
      record {
        number = found.lane;
        move = l;
        less = is_less _ _ (sym (bit_of less xs ys long long' found.lane l) ∙ ap (λ n. bit_at n found.lane) (whole less xs ys long long')
            ∙ bit_mask_l (tests less xs ys long long') found.lane ∙ ap bit_for found.one);
      }
    where
      less : ℕ → ℕ → ℕ
      less a b = cond (ltb a b) 4294967295 0

  pub has_equal : (i : ℕ) → i < 8
      → Has (mask_l (tests (λ a b. cond (eqb a b) 4294967295 0) xs ys long long') % 2 ^ 64) i ↔ (get_or xs i 0 ≡ get_or ys i 0)
  has_equal i l =
      let bit = bit_of (λ a b. cond (eqb a b) 4294967295 0) xs ys long long' i l in (
        λ h. equal_if_one _ _ (sym bit ∙ bit_from_Has _ i h),
        λ e. Has-from_bit _ i (bit ∙ one_if_equal _ _ e),
      )
