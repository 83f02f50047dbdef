-- Lists of views and lists of entries.
use Rattle.std.proofs.Common.{◌≡◌, ◌≢◌, ℕ, zero, suc, ◌+◌, ◌<◌, ◌≤◌, ◌⊎◌, List, [], ◌∷◌, ◌++◌, length, get_or, set, cond, sym, refl, ap, ◌∙◌, subst, inl, inr, ⊎_elim, arith, length-set, lt-ltb, le-ltb, append-nil, append_assoc}
use Rattle.std.specs.List.{AllByRecursion}
use Rattle.std.proofs.lemmas.List.{get_or_append_left, get_or_push, length_push}
use mathlib.Core.Option.{some, some-injective, some-ne-none}
use mathlib.Core.List.{append_cancel_left}
use mathlib.Core.Logic.{dite}
use native.Mathlib.Decide.{ℕ_discrete, dec_le}
use lib.ListN.{get_elem?}
use Rattle.atomic_table.proofs.Lists.{at_set}
use Rattle.turn_book.specs.Histories.{total, StartsWith, AddsNoneOf, longer_of}

abbrev pick : {P : Type 0} → Dec P → ℕ → ℕ → ℕ
pick (yes _) a b = a
pick (no _) a b = b

-- f with c at i
pub put : (ℕ → ℕ) → ℕ → ℕ → ℕ → ℕ
put f i c j = pick (ℕ_discrete j i) c (f j)

pub put_here : (f : ℕ → ℕ) (i c : ℕ) → put f i c i ≡ c
unfolding put
put_here f i c = go (ℕ_discrete i i)
  where
    go : (d : Dec (i ≡ i)) → pick d c (f i) ≡ c
    go (yes _) = refl
    go (no n) = absurd (n refl)

pub put_else : (f : ℕ → ℕ) (i c j : ℕ) → j ≢ i → put f i c j ≡ f j
unfolding put
put_else f i c j other = go (ℕ_discrete j i)
  where
    go : (d : Dec (j ≡ i)) → pick d c (f j) ≡ f j
    go (yes e) = absurd (other e)
    go (no _) = refl

module _ {A : Type 0} where
  pub at_here : (l : List A) (i : ℕ) (a b : A) → get_elem? l i ≡ some a → get_elem? (set l i b) i ≡ some b
  at_here [] i a b e = absurd (some-ne-none a (sym e))
  at_here (x ∷ xs) zero a b e = refl
  at_here (x ∷ xs) (suc i) a b e = at_here xs i a b e

  pub same_place : (l : List A) (i : ℕ) (a b : A) → get_elem? l i ≡ some a → get_elem? l i ≡ some b → a ≡ b
  same_place l i a b x y = some-injective a b (sym x ∙ y)

  pub at_end : (l : List A) (a b : A) (j : ℕ) → get_elem? (l ++ a ∷ []) j ≡ some b → (get_elem? l j ≡ some b) ⊎ ((j ≡ length l) × (a ≡ b))
  at_end [] a b zero e = inr (refl, some-injective a b e)
  at_end [] a b (suc j) e = absurd (some-ne-none b (sym e))
  at_end (x ∷ xs) a b zero e = inl e
  at_end (x ∷ xs) a b (suc j) e = ⊎_elim inl (λ t. inr (ap suc t.0, t.1)) (at_end xs a b j e)

  -- what holds of each place holds of each where one more came
  pub each_pushed : (P : ℕ → A → Type 0) (l : List A) (a : A) → ((j : ℕ) (d : A) → j < length l → P j (get_or l j d)) → P (length l) a
      → (j : ℕ) (d : A) → j < length (l ++ a ∷ []) → P j (get_or (l ++ a ∷ []) j d)
  each_pushed P l a each new j d inside = let long = length_push l a in dite (ℕ_discrete j (length l))
      (λ here. subst (λ k. P k (get_or (l ++ a ∷ []) k d)) (sym here) (subst (P (length l)) (sym (get_or_push l a d (length l) refl)) new))
      (λ before. let low : j < length l = omega arith in subst (P j) (sym (get_or_append_left l (a ∷ []) d j low)) (each j d low))

  pub inside : (l : List A) (i : ℕ) (a : A) → get_elem? l i ≡ some a → i < length l
  inside [] i a e = absurd (some-ne-none a (sym e))
  inside (x ∷ xs) zero a e = omega arith
  inside (x ∷ xs) (suc i) a e = let t = inside xs i a e in omega arith

  -- what holds of each place holds after one place has changed
  pub stay : (P : ℕ → A → Type 0) (l : List A) (i : ℕ) (w : A) → P i w → ((j : ℕ) (u : A) → j ≢ i → get_elem? l j ≡ some u → P j u) → (j : ℕ) (u : A) → get_elem? (set l i w) j ≡ some u → P j u
  stay P l i w here else j u at = ⊎_elim (λ t. subst (λ (k : ℕ). P k u) (sym t.0) (subst (P i) t.1 here)) (λ t. else j u t.0 t.1) (at_set l i j w u at)

  -- the same where one more place came
  pub stay_more : (P : ℕ → A → Type 0) (l : List A) (i : ℕ) (w o : A) → P i w → P (length l) o → ((j : ℕ) (u : A) → j ≢ i → get_elem? l j ≡ some u → P j u)
      → (j : ℕ) (u : A) → get_elem? (set l i w ++ o ∷ []) j ≡ some u → P j u
  stay_more P l i w o here end else j u at = ⊎_elim (λ t. stay P l i w here else j u t)
      (λ t. subst (λ (k : ℕ). P k u) (sym (t.0 ∙ length-set l i w)) (subst (P (length l)) t.1 end)) (at_end (set l i w) o u j at)

  pub total_set : (f : A → ℕ) (l : List A) (i : ℕ) (a b : A) → get_elem? l i ≡ some a → total f (set l i b) + f a ≡ total f l + f b
  total_set f [] i a b e = absurd (some-ne-none a (sym e))
  total_set f (x ∷ xs) zero a b e = let q : f x ≡ f a = ap f (some-injective x a e) in omega arith
  total_set f (x ∷ xs) (suc i) a b e = let q = total_set f xs i a b e in omega arith

  pub total_least : (f : A → ℕ) (l : List A) (i : ℕ) (a : A) → get_elem? l i ≡ some a → f a ≤ total f l
  total_least f [] i a e = absurd (some-ne-none a (sym e))
  total_least f (x ∷ xs) zero a e = let q : f x ≡ f a = ap f (some-injective x a e) in omega arith
  total_least f (x ∷ xs) (suc i) a e = let q = total_least f xs i a e in omega arith

  pub total_two : (f : A → ℕ) (l : List A) (i j : ℕ) (a b : A) → i ≢ j → get_elem? l i ≡ some a → get_elem? l j ≡ some b → f a + f b ≤ total f l
  total_two f [] i j a b apart x y = absurd (some-ne-none a (sym x))
  total_two f (z ∷ zs) zero zero a b apart x y = absurd (apart refl)
  total_two f (z ∷ zs) zero (suc j) a b apart x y = let q : f z ≡ f a = ap f (some-injective z a x) in let r = total_least f zs j b y in omega arith
  total_two f (z ∷ zs) (suc i) zero a b apart x y = let q : f z ≡ f b = ap f (some-injective z b y) in let r = total_least f zs i a x in omega arith
  total_two f (z ∷ zs) (suc i) (suc j) a b apart x y = let q = total_two f zs i j a b (λ e. apart (ap suc e)) x y in omega arith

  pub total_below : (f h : A → ℕ) (l : List A) → ((i : ℕ) (a : A) → get_elem? l i ≡ some a → f a ≤ h a) → total f l ≤ total h l
  total_below f h [] le = omega arith
  total_below f h (x ∷ xs) le = let q = le 0 x refl in let r = total_below f h xs (λ i a e. le (suc i) a e) in omega arith

  pub total_end : (f : A → ℕ) (l : List A) (a : A) → total f (l ++ a ∷ []) ≡ total f l + f a
  total_end f [] a = omega arith
  total_end f (x ∷ xs) a = let q = total_end f xs a in omega arith

  pub each_of : (P Q : A → Type 0) (l : List A) → ((a : A) → P a → Q a) → AllByRecursion P l → AllByRecursion Q l
  each_of P Q [] f e = tt
  each_of P Q (x ∷ xs) f e = (f x e.0, each_of P Q xs f e.1)

  pub each_both : (P : A → Type 0) (xs ys : List A) → AllByRecursion P xs → AllByRecursion P ys → AllByRecursion P (xs ++ ys)
  each_both P [] ys a b = b
  each_both P (x ∷ xs) ys a b = (a.0, each_both P xs ys a.1 b)

  pub each_left : (P : A → Type 0) (xs ys : List A) → AllByRecursion P (xs ++ ys) → AllByRecursion P xs
  each_left P [] ys e = tt
  each_left P (x ∷ xs) ys e = (e.0, each_left P xs ys e.1)

  pub each_right : (P : A → Type 0) (xs ys : List A) → AllByRecursion P (xs ++ ys) → AllByRecursion P ys
  each_right P [] ys e = e
  each_right P (x ∷ xs) ys e = each_right P xs ys e.1

abbrev head_or : {A : Type 0} → A → List A → A
head_or d [] = d
head_or d (x ∷ xs) = x

abbrev tail : {A : Type 0} → List A → List A
tail [] = []
tail (x ∷ xs) = xs

module _ {E : Type 0} where
  pub starts_same : (h : List E) → StartsWith h h
  starts_same h = record { more = []; is = sym (append-nil h) }

  pub starts_more : (h seen t : List E) → StartsWith h seen → StartsWith (h ++ t) seen
  starts_more h seen t s = record { more = s.more ++ t; is = ap (λ x. x ++ t) s.is ∙ append_assoc seen s.more t }

  pub starts_on : (h v u : List E) → StartsWith h v → StartsWith v u → StartsWith h u
  starts_on h v u a b = record { more = b.more ++ a.more; is = a.is ∙ (ap (λ x. x ++ a.more) b.is ∙ append_assoc u b.more a.more) }

  -- of two beginnings of one list the longer begins with the shorter
  in_line : (xs a ys b : List E) → xs ++ a ≡ ys ++ b → length xs ≤ length ys → StartsWith ys xs
  in_line [] a ys b e le = record { more = ys; is = refl }
  in_line (x ∷ xs) a [] b e le = absurd (omega arith)
  in_line (x ∷ xs) a (y ∷ ys) b e le = let t = in_line xs a ys b (ap tail e) (omega arith) in let h : y ≡ x = sym (ap (head_or x) e) in record { more = t.more; is = λ i. h i ∷ t.is i }

  pub lined : (h xs ys : List E) → StartsWith h xs → StartsWith h ys → length xs ≤ length ys → StartsWith ys xs
  lined h xs ys a b le = in_line xs a.more ys b.more (sym a.is ∙ b.is) le

  abbrev Reaches : List E → List E → List E → List E → Type 0
  Reaches h xs ys zs = StartsWith zs xs × StartsWith zs ys × StartsWith h zs

  pub longer_reaches : (h xs ys : List E) → StartsWith h xs → StartsWith h ys → Reaches h xs ys (longer_of xs ys)
  longer_reaches h xs ys a b = dite (dec_le (length ys) (length xs))
      (λ le. subst (λ c. Reaches h xs ys (cond c ys xs)) (sym (le-ltb (length xs) (length ys) le)) (starts_same xs, lined h ys xs b a le, a))
      (λ gt. subst (λ c. Reaches h xs ys (cond c ys xs)) (sym (lt-ltb (length xs) (length ys) (omega arith))) (lined h xs ys a b (omega arith), starts_same ys, b))

module _ {E : Type 0} (names : E → ℕ) (n : ℕ) where
  pub adds_none : (h : List E) → AddsNoneOf names n h h
  adds_none h = record { more = []; is = sym (append-nil h); others = tt }

  pub adds_more : (seen h t : List E) → AllByRecursion (λ e. names e ≢ n) t → AddsNoneOf names n seen h → AddsNoneOf names n seen (h ++ t)
  adds_more seen h t new a = record {
    more = a.more ++ t;
    is = ap (λ x. x ++ t) a.is ∙ append_assoc seen a.more t;
    others = each_both (λ e. names e ≢ n) a.more t a.others new;
  }

  split_more : (own seen h : List E) (o : StartsWith seen own) (s : StartsWith h seen) (a : AddsNoneOf names n own h) → a.more ≡ o.more ++ s.more
  split_more own seen h o s a = append_cancel_left own _ _ (sym a.is ∙ (s.is ∙ (ap (λ x. x ++ s.more) o.is ∙ append_assoc own o.more s.more)))

  -- the part of what was added that was not seen yet
  pub adds_cut : (own seen h : List E) → StartsWith seen own → StartsWith h seen → AddsNoneOf names n own h → AddsNoneOf names n seen h
  adds_cut own seen h o s a = record {
    more = s.more;
    is = s.is;
    others = each_right (λ e. names e ≢ n) o.more s.more (subst (AllByRecursion (λ e. names e ≢ n)) (split_more own seen h o s a) a.others);
  }

  -- the part that was
  pub adds_rest : (own seen h : List E) → StartsWith seen own → StartsWith h seen → AddsNoneOf names n own h → AddsNoneOf names n own seen
  adds_rest own seen h o s a = record {
    more = o.more;
    is = o.is;
    others = each_left (λ e. names e ≢ n) o.more s.more (subst (AllByRecursion (λ e. names e ≢ n)) (split_more own seen h o s a) a.others);
  }

  -- a number that no entry names yet
  pub adds_above : (seen h : List E) → StartsWith h seen → AllByRecursion (λ e. names e < n) h → AddsNoneOf names n seen h
  adds_above seen h s low = record {
    more = s.more;
    is = s.is;
    others = each_of (λ e. names e < n) (λ e. names e ≢ n) s.more (λ e lt is. omega arith)
        (each_right (λ e. names e < n) seen s.more (subst (AllByRecursion (λ e. names e < n)) s.is low));
  }

  pub adds_starts : (seen h : List E) → AddsNoneOf names n seen h → StartsWith h seen
  adds_starts seen h a = record { more = a.more; is = a.is }
