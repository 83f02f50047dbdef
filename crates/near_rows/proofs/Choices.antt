-- What is chosen between the lanes of two vectors of 16 bits.
use Rattle.std.proofs.Common.{◌≡◌, ℕ, ◌-◌, ◌<◌, ◌≤◌, ◌^◌, Bool, true, false, cond, ltb, leb, max, List, map, length, get_or, refl, sym, subst, inl, inr, arith, w16, ltb-true, ltb-false, leb-true, leb-false}
use Rattle.std.proofs.lemmas.Bool.{cases_lt}
use Rattle.std.proofs.lemmas.List.{get_or_past}
use Rattle.std.proofs.lemmas.Simd.{Each1-from_get_or, Each1-get_or}
use mir.Val.{Fits}
use lib.Lanes.{zip2, sel_l, top, Each1}
use Rattle.lane_rows.proofs.Vectors.{chosen, length_chosen}

pub cond_is_max : (a b : ℕ) → cond (ltb a b) b a ≡ max a b
cond_is_max a b = go (ltb a b) refl
  where
    go : (t : Bool) → ltb a b ≡ t → cond t b a ≡ max a b
    go true e = omega (arith, ltb-true _ _ e)
    go false e = omega (arith, ltb-false _ _ e)

pub where_less : (x y a b : ℕ) → x < y → cond (ltb x y) a b ≡ a
where_less x y a b less = go (ltb x y) refl
  where
    go : (t : Bool) → ltb x y ≡ t → cond t a b ≡ a
    go true e = refl
    go false e = absurd (omega (arith, ltb-false _ _ e))

pub where_not_less : (x y a b : ℕ) → y ≤ x → cond (ltb x y) a b ≡ b
where_not_less x y a b more = go (ltb x y) refl
  where
    go : (t : Bool) → ltb x y ≡ t → cond t a b ≡ b
    go true e = absurd (omega (arith, ltb-true _ _ e))
    go false e = refl

pub where_most : (x y a b : ℕ) → x ≤ y → cond (leb x y) a b ≡ a
where_most x y a b most = go (leb x y) refl
  where
    go : (t : Bool) → leb x y ≡ t → cond t a b ≡ a
    go true e = refl
    go false e = absurd (omega (arith, leb-false _ _ e))

pub where_past : (x y a b : ℕ) → y < x → cond (leb x y) a b ≡ b
where_past x y a b past = go (leb x y) refl
  where
    go : (t : Bool) → leb x y ≡ t → cond t a b ≡ b
    go true e = absurd (omega (arith, leb-true _ _ e))
    go false e = refl

-- what holds of both numbers in each lane holds of those that are chosen
pub each_chosen : (P : ℕ → Type 0) (t : ℕ → ℕ → Bool) (us vs xs ys : List ℕ) → length us ≡ 16 → length vs ≡ 16 → length xs ≡ 16 → length ys ≡ 16
    → ((i : ℕ) → i < 16 → P (get_or xs i 0)) → ((i : ℕ) → i < 16 → P (get_or ys i 0))
    → Each1 P (sel_l (map (top 15) (zip2 (λ a b. cond (t a b) (2 ^ 16 - 1) 0) us vs)) xs ys)
each_chosen P t us vs xs ys p q r s first second =
    Each1-from_get_or P _ 0 (λ i l.
    let lt : i < 16 = omega (arith, length_chosen w16 t us vs p q xs ys r s) in
    subst P (sym (chosen w16 t us vs p q xs ys r s i lt)) (go i lt (t (get_or us i 0) (get_or vs i 0))))
  where
    go : (i : ℕ) → i < 16 → (b : Bool) → P (cond b (get_or xs i 0) (get_or ys i 0))
    go i l true = first i l
    go i l false = second i l

-- a lane of a vector of 16 bits
pub short_lane : (v : List ℕ) (lane : ℕ) → (length v ≡ 16) × Each1 (Fits w16) v → get_or v lane 0 < 65536
short_lane v lane h = elim (cases_lt lane (length v)) [
  | inl l ↦ let f = Each1-get_or (Fits w16) v lane 0 l h.1 in f.fits
  | inr past ↦ omega (arith, get_or_past v lane 0 past)
]
