-- The vector operations, lane by lane.
use Rattle.std.proofs.Common.{◌≡◌, ℕ, ◌-◌, ◌/◌, ◌%◌, ◌^◌, ◌<◌, ◌≤◌, ◌⊎◌, Bool, true, false, not, cond, eqb, ltb, leb, IsFalse, nat_eq, List, map, length, get_or, replicate, bit_and, refl, sym, ap, subst, ◌∙◌, inl, inr, min, arith, w32, eqb-true, leb-false, ltb-true, ltb-false, eq-eqb}
use Rattle.std.proofs.lemmas.List.{get_or-map, length-map}
use Rattle.std.proofs.lemmas.Simd.{Each1-from_get_or, length-zip2, get_or-zip2, get_or-replicate, length-replicate, length-sel_l, get_or-sel_l, tops_compared, mask_l-mod, bit_mask_l}
use Rattle.std.proofs.lemmas.Nat.Bits.{bit_at-zero}
use lib.Lanes.{zip2, sel_l, mask_l, top, Each1}
use mir.Syntax.{Width}
use mir.Val.{bits, hbits}

-- ---- a choice by a comparison

abbrev pub mask_of : ℕ → Bool → ℕ
mask_of all b = cond b all 0

module _ (width : Width) (t : ℕ → ℕ → Bool) (us vs : List ℕ) (long : length us ≡ 16) (long' : length vs ≡ 16) where
  abbrev tests : List Bool
  tests = map (top (hbits width)) (zip2 (λ a b. cond (t a b) (2 ^ bits width - 1) 0) us vs)

  tests_are : tests ≡ zip2 t us vs
  tests_are = tops_compared width t us vs

  length_tests : length tests ≡ 16
  length_tests = ap length tests_are ∙ length-zip2 t us vs (long ∙ sym long') ∙ long

  pub length_chosen : (xs ys : List ℕ) → length xs ≡ 16 → length ys ≡ 16 → length (sel_l tests xs ys) ≡ 16
  length_chosen xs ys p q = length-sel_l tests xs ys (length_tests ∙ sym p) (length_tests ∙ sym q) ∙ length_tests

  pub chosen : (xs ys : List ℕ) → length xs ≡ 16 → length ys ≡ 16 → (i : ℕ) → i < 16
      → get_or (sel_l tests xs ys) i 0 ≡ cond (t (get_or us i 0) (get_or vs i 0)) (get_or xs i 0) (get_or ys i 0)
  chosen xs ys p q i l =
      get_or-sel_l tests xs ys i 0 (omega (arith, length_tests)) (omega arith) (omega arith)
      ∙ ap (λ b. cond b (get_or xs i 0) (get_or ys i 0)) (ap (λ ms. get_or ms i false) tests_are ∙ get_or-zip2 t us vs i 0 0 false (omega arith) (omega arith))

pub cond_is_min : (a b : ℕ) → cond (ltb a b) a b ≡ min a b
cond_is_min a b = go (ltb a b) refl
  where
    go : (t : Bool) → ltb a b ≡ t → cond t a b ≡ min a b
    go true e = omega (arith, ltb-true _ _ e)
    go false e = omega (arith, ltb-false _ _ e)

pub none_above : (a b : ℕ) → (a ≤ cond (ltb a b) b a) × (b ≤ cond (ltb a b) b a)
none_above a b = go (ltb a b) refl
  where
    go : (t : Bool) → ltb a b ≡ t → (a ≤ cond t b a) × (b ≤ cond t b a)
    go true e = let less = ltb-true _ _ e in (omega arith, omega arith)
    go false e = let more = ltb-false _ _ e in (omega arith, omega arith)

-- ---- an operation with one number in each lane

pub length_with : (f : ℕ → ℕ → ℕ) (xs : List ℕ) (y : ℕ) → length xs ≡ 16 → length (zip2 f xs (replicate 16 y)) ≡ 16
length_with f xs y long = length-zip2 f xs (replicate 16 y) (long ∙ sym (length-replicate 16 y)) ∙ long

pub with_number : (f : ℕ → ℕ → ℕ) (xs : List ℕ) (y : ℕ) → length xs ≡ 16 → (i : ℕ) → i < 16 → get_or (zip2 f xs (replicate 16 y)) i 0 ≡ f (get_or xs i 0) y
with_number f xs y long i l =
    get_or-zip2 f xs (replicate 16 y) i 0 0 0 (omega arith) (omega (arith, length-replicate 16 y)) ∙ ap (f (get_or xs i 0)) (get_or-replicate 16 i y 0 l)

-- ---- tests of all lanes

none_in : (ms : List Bool) → length ms ≡ 16 → IsFalse (not (nat_eq (mask_l ms % 2 ^ 64) 0)) → (i : ℕ) → get_or ms i false ≡ false
none_in ms long h i =
    let whole : mask_l ms % 2 ^ 64 ≡ mask_l ms = mask_l-mod ms 64 (omega arith) in
    let none : mask_l ms % 2 ^ 64 ≡ 0 = is_zero (mask_l ms % 2 ^ 64) h in
    let bits : mask_l ms / 2 ^ i % 2 ≡ cond (get_or ms i false) 1 0 = bit_mask_l ms i in
    let nothing : mask_l ms ≡ 0 = sym whole ∙ none in
    off (get_or ms i false) (sym bits ∙ ap (λ n. n / 2 ^ i % 2) nothing ∙ zero_bit i)
  where
    is_zero : (n : ℕ) → IsFalse (not (nat_eq n 0)) → n ≡ 0
    is_zero n h = go (nat_eq n 0) refl h
      where
        go : (t : Bool) → nat_eq n 0 ≡ t → IsFalse (not t) → n ≡ 0
        go true e h = eqb-true _ _ e
        go false e h = absurd (cc)

    zero_bit : (i : ℕ) → ◌≡◌ {A = ℕ} (0 / 2 ^ i % 2) 0
    zero_bit i = bit_at-zero i

    off : (b : Bool) → ◌≡◌ {A = ℕ} (cond b 1 0) 0 → b ≡ false
    off true e = absurd (omega arith)
    off false e = refl

pub none_of : (h : ℕ) (f : ℕ → ℕ → ℕ) (xs ys : List ℕ) → length xs ≡ 16 → length ys ≡ 16 → IsFalse (not (nat_eq (mask_l (map (top h) (zip2 f xs ys)) % 2 ^ 64) 0))
    → (i : ℕ) → i < 16 → top h (f (get_or xs i 0) (get_or ys i 0)) ≡ false
none_of h f xs ys p q none i l =
    let long : length (zip2 f xs ys) ≡ 16 = length-zip2 f xs ys (p ∙ sym q) ∙ p in
    ap (top h) (sym (get_or-zip2 f xs ys i 0 0 0 (omega arith) (omega arith)))
    ∙ sym (get_or-map (top h) (zip2 f xs ys) i 0 false (omega arith))
    ∙ none_in (map (top h) (zip2 f xs ys)) (length-map (zip2 f xs ys) (top h) ∙ long) none i

unequal : (x y : ℕ) → top 7 (cond (eqb x y) 255 0) ≡ false → x ≡ y → ⊥
unequal x y h e = go (eqb x y) h (eq-eqb x y e)
  where
    go : (t : Bool) → top 7 (cond t 255 0) ≡ false → t ≡ true → ⊥
    go true h e = cc
    go false h e = cc

pub below_limit : (x y : ℕ) → top 31 (cond (leb y x) 4294967295 0) ≡ false → x < y
below_limit x y h = go (leb y x) refl h
  where
    go : (t : Bool) → leb y x ≡ t → top 31 (cond t 4294967295 0) ≡ false → x < y
    go true e h = absurd (cc)
    go false e h = leb-false _ _ e

-- no lane is equal to a number
pub none_equal : (xs : List ℕ) (y : ℕ) → length xs ≡ 16 → IsFalse (not (nat_eq (mask_l (map (top 7) (zip2 (λ a b. cond (eqb a b) 255 0) xs (replicate 16 y))) % 2 ^ 64) 0))
    → (i : ℕ) → i < 16 → get_or xs i 0 ≡ y → ⊥
none_equal xs y long none i l =
    unequal (get_or xs i 0) y
    (ap (λ z. top 7 (cond (eqb (get_or xs i 0) z) 255 0)) (sym (get_or-replicate 16 i y 0 l)) ∙ none_of 7 (λ a b. cond (eqb a b) 255 0) xs (replicate 16 y) long (length-replicate 16 y) none i l)

pub equal_keys : (x y : ℕ) → top 31 (cond (not (eqb x y)) 4294967295 0) ≡ false → x ≡ y
equal_keys x y h = go (eqb x y) refl h
  where
    go : (t : Bool) → eqb x y ≡ t → top 31 (cond (not t) 4294967295 0) ≡ false → x ≡ y
    go true e h = eqb-true _ _ e
    go false e h = absurd (cc)

equal_or_full : (x y z : ℕ) → top 7 (bit_and (cond (not (eqb x y)) 255 0) (cond (not (eqb x z)) 255 0)) ≡ false → (x ≡ y) ⊎ (x ≡ z)
equal_or_full x y z h = go (eqb x y) (eqb x z) refl refl h
  where
    go : (s t : Bool) → eqb x y ≡ s → eqb x z ≡ t → top 7 (bit_and (cond (not s) 255 0) (cond (not t) 255 0)) ≡ false → (x ≡ y) ⊎ (x ≡ z)
    go true t d e h = inl (eqb-true _ _ d)
    go false true d e h = inr (eqb-true _ _ e)
    go false false d e h = absurd (cc)

pub none_of_both : (f : ℕ → ℕ → ℕ) (xs ys zs : List ℕ) → length xs ≡ 16 → length ys ≡ 16 → length zs ≡ 16
    → IsFalse (not (nat_eq (mask_l (map (top 7) (zip2 bit_and (zip2 f xs ys) (zip2 f xs zs))) % 2 ^ 64) 0))
    → (i : ℕ) → i < 16 → top 7 (bit_and (f (get_or xs i 0) (get_or ys i 0)) (f (get_or xs i 0) (get_or zs i 0))) ≡ false
none_of_both f xs ys zs p q r none i l =
    let first : get_or (zip2 f xs ys) i 0 ≡ f (get_or xs i 0) (get_or ys i 0) = get_or-zip2 f xs ys i 0 0 0 (omega arith) (omega arith) in
    let second : get_or (zip2 f xs zs) i 0 ≡ f (get_or xs i 0) (get_or zs i 0) = get_or-zip2 f xs zs i 0 0 0 (omega arith) (omega arith) in
    ap (λ a. top 7 (bit_and a (f (get_or xs i 0) (get_or zs i 0)))) (sym first) ∙ ap (λ a. top 7 (bit_and (get_or (zip2 f xs ys) i 0) a)) (sym second)
    ∙ none_of 7 bit_and (zip2 f xs ys) (zip2 f xs zs) (length-zip2 f xs ys (p ∙ sym q) ∙ p) (length-zip2 f xs zs (p ∙ sym r) ∙ p) none i l

-- some lanes differ from the others where the others are not equal to a number
pub all_equal_but : (xs ys : List ℕ) (z : ℕ) → length xs ≡ 16 → length ys ≡ 16
    → IsFalse (not (nat_eq (mask_l (map (top 7) (zip2 bit_and (zip2 (λ a b. cond (not (eqb a b)) 255 0) xs ys) (zip2 (λ a b. cond (not (eqb a b)) 255 0) xs (replicate 16 z)))) % 2 ^ 64) 0))
    → (i : ℕ) → i < 16 → (get_or xs i 0 ≡ get_or ys i 0) ⊎ (get_or xs i 0 ≡ z)
all_equal_but xs ys z p q none i l =
    let whole = none_of_both (λ a b. cond (not (eqb a b)) 255 0) xs ys (replicate 16 z) p q (length-replicate 16 z) none i l in
    equal_or_full (get_or xs i 0) (get_or ys i 0) z
    (ap (λ w. top 7 (bit_and (cond (not (eqb (get_or xs i 0) (get_or ys i 0))) 255 0) (cond (not (eqb (get_or xs i 0) w)) 255 0))) (sym (get_or-replicate 16 i z 0 l)) ∙ whole)

-- ---- one of two numbers by a comparison

module _ (t : ℕ → ℕ → Bool) (us vs : List ℕ) (long : length us ≡ 16) (long' : length vs ≡ 16) (x y : ℕ) where
  abbrev picked : List ℕ
  picked = sel_l (map (top 31) (zip2 (λ a b. cond (t a b) (2 ^ 32 - 1) 0) us vs)) (replicate 16 x) (replicate 16 y)

  pub length_picked : length picked ≡ 16
  length_picked = length_chosen w32 t us vs long long' (replicate 16 x) (replicate 16 y) (length-replicate 16 x) (length-replicate 16 y)

  pub pick_at : (i : ℕ) → i < 16 → get_or picked i 0 ≡ cond (t (get_or us i 0) (get_or vs i 0)) x y
  pick_at i l =
      chosen w32 t us vs long long' (replicate 16 x) (replicate 16 y) (length-replicate 16 x) (length-replicate 16 y) i l
      ∙ ap (λ a. cond (t (get_or us i 0) (get_or vs i 0)) a (get_or (replicate 16 y) i 0)) (get_or-replicate 16 i x 0 l)
      ∙ ap (cond (t (get_or us i 0) (get_or vs i 0)) x) (get_or-replicate 16 i y 0 l)

  pub each_picked : (P : ℕ → Type 0) → P x → P y → Each1 P picked
  each_picked P p q = Each1-from_get_or P picked 0 (λ i l.
      let lt : i < 16 = omega (arith, length_picked) in
      subst P (sym (pick_at i lt)) (go (t (get_or us i 0) (get_or vs i 0))))
    where
      go : (b : Bool) → P (cond b x y)
      go true = p
      go false = q

  pub picked_through : (f : ℕ → ℕ) → (i : ℕ) → i < 16 → get_or (map f picked) i 0 ≡ f (cond (t (get_or us i 0) (get_or vs i 0)) x y)
  picked_through f i l = get_or-map f picked i 0 0 (omega (arith, length_picked)) ∙ ap f (pick_at i l)
