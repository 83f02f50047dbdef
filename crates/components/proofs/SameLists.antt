-- Two lists in the same strict order with the same elements are the same list.
use Rattle.std.proofs.Common.{◌≡◌, ℕ, suc, ◌*◌, ◌+◌, ◌<◌, ◌≤◌, List, [], ◌∷◌, length, get_or, nat_eq, refl, sym, ap, ◌∙◌, subst, inl, inr, arith}
use Rattle.std.specs.List.{AllPairs, Contains}
use Rattle.std.proofs.lemmas.Nat.{mul-le}
use Rattle.std.proofs.lemmas.List.Elements.{Contains-get_or}
use Rattle.moves.specs.declared.Cell.{Cell}
use Rattle.moves.specs.Maps.{Map, IsWithinLimits, IsInside, ComesBefore, place_of}
use Rattle.components.specs.Marks.{Marks, label_at}
use Rattle.components.specs.Groups.{cells_with}
use Rattle.moves.proofs.RowMajor.{in_order_where, contains_cases, contains_later}
use Rattle.components.proofs.Listing.{its_label, has_label}

contains_first : {X : Type 0} (x : X) (xs : List X) → Contains (x ∷ xs) x
contains_first x xs = (0, omega arith, refl)

contains_none : {X : Type 0} (xs : List X) (x : X) → length xs ≡ 0 → Contains xs x → ⊥
contains_none xs x none has = let k = has.1 in omega arith

-- the elements rise by the number
abbrev pub AreRising : {X : Type 0} → (X → ℕ) → List X → Type 0
AreRising n xs = AllPairs (λ a b. n a < n b) xs

module _ {X : Type 0} (n : X → ℕ) where
  rest_rises : (x : X) (xs : List X) → AreRising n (x ∷ xs) → AreRising n xs
  rest_rises x xs p = λ i j d less within. p (suc i) (suc j) d (omega arith) (omega arith)

  first_is_least : (x : X) (xs : List X) → AreRising n (x ∷ xs) → (c : X) → Contains xs c → n x < n c
  first_is_least x xs p c has = let k = has.1 in subst (λ z. n x < n z) has.2 (p 0 (suc has.0) c (omega arith) (omega arith))

  -- the first of a list that has the same elements
  same_first : (x y : X) (xs ys : List X) → AreRising n (x ∷ xs) → AreRising n (y ∷ ys) → Contains (y ∷ ys) x → Contains (x ∷ xs) y → x ≡ y
  same_first x y xs ys p q there back =
      elim (contains_cases y ys x there) [
        | inl same ↦ sym same
        | inr later ↦
            elim (contains_cases x xs y back) [
              | inl same ↦ same
              | inr after ↦ absurd (let a = first_is_least y ys q x later in let b = first_is_least x xs p y after in omega arith)
            ]
      ]

  -- what follows the same first element
  rest_has : (x y : X) (xs ys : List X) → AreRising n (x ∷ xs) → x ≡ y → ((c : X) → Contains (x ∷ xs) c → Contains (y ∷ ys) c) → (c : X) → Contains xs c → Contains ys c
  rest_has x y xs ys p same sub c has =
      elim (contains_cases y ys c (sub c (contains_later x xs c has))) [
        | inr later ↦ later
        | inl at ↦ absurd (let a = first_is_least x xs p c has in let e : n x ≡ n c = ap n (same ∙ at) in omega arith)
      ]

  pub same_list : (xs ys : List X) → AreRising n xs → AreRising n ys → ((c : X) → Contains xs c → Contains ys c) → ((c : X) → Contains ys c → Contains xs c) → xs ≡ ys
  same_list [] [] p q f g = refl
  same_list [] (y ∷ ys) p q f g = absurd (contains_none [] y refl (g y (contains_first y ys)))
  same_list (x ∷ xs) [] p q f g = absurd (contains_none [] x refl (f x (contains_first x xs)))
  same_list (x ∷ xs) (y ∷ ys) p q f g =
      let e : x ≡ y = same_first x y xs ys p q (f x (contains_first x xs)) (g y (contains_first y ys)) in
      let rest : xs ≡ ys = same_list xs ys (rest_rises x xs p) (rest_rises y ys q) (rest_has x y xs ys p e f) (rest_has y x ys xs q (sym e) g) in
      ap (λ z. z ∷ xs) e ∙ ap (λ zs. y ∷ zs) rest

-- what comes before has the smaller place
pub place_rises : (w : ℕ) (a b : Cell) → a.x < w → ComesBefore a b → place_of w a < place_of w b
place_rises w a b column before =
    elim before [
      | inl up ↦ let m : (a.y + 1) * w ≤ b.y * w = mul-le (a.y + 1) w b.y w (omega arith) (omega arith) in omega arith
      | inr beside ↦ let e : a.y * w ≡ b.y * w = ap (λ t. t * w) beside.0 in let l = beside.1 in omega arith
    ]

pub places_rise : (w : ℕ) (xs : List Cell) → ((c : Cell) → Contains xs c → c.x < w) → AllPairs ComesBefore xs → AreRising (place_of w) xs
places_rise w xs inside p = λ i j d less within.
    place_rises w (get_or xs i d) (get_or xs j d) (inside (get_or xs i d) (Contains-get_or xs i d (omega arith))) (p i j d less within)

module _ (map : Map) (limits : IsWithinLimits map.width map.height) (s : Marks) (size : length s.labels ≡ map.width * map.height) (label : ℕ) where
  -- the cells with the label rise
  pub cells_with_rise : AreRising (place_of map.width) (cells_with map.width s.labels label)
  cells_with_rise =
      places_rise map.width (cells_with map.width s.labels label) (λ c has. (its_label map.width map.height s.labels label c limits.some_columns size has).0)
      (in_order_where map.width (length s.labels) (λ q. nat_eq (get_or s.labels q 0) label) limits.some_columns)

  -- a list in order of just the cells with the label is the list of them
  pub listed : (xs : List Cell) → AreRising (place_of map.width) xs → ((c : Cell) → Contains xs c → IsInside map c × (label_at map.width s c ≡ label))
      → ((c : Cell) → IsInside map c → label_at map.width s c ≡ label → Contains xs c) → xs ≡ cells_with map.width s.labels label
  listed xs rising sound whole =
      let its = its_label map.width map.height s.labels label in
      same_list (place_of map.width) xs (cells_with map.width s.labels label) rising
      cells_with_rise
      (λ c has. let h = sound c has in has_label map.width map.height s.labels label c limits.some_columns size h.0.column h.0.row h.1)
      (λ c has. let h = its c limits.some_columns size has in whole c (record { column = h.0; row = h.1 }) h.2)
