-- A map has one list of components, and cells have one list of rows.
use Rattle.std.proofs.Common.{◌≡◌, suc, List, [], ◌∷◌, refl, sym, ap, subst, ◌∙◌, inl, inr, arith}
use Rattle.std.specs.List.{AllPairs, Contains}
use Rattle.std.proofs.lemmas.List.{get_or_default}
use Rattle.std.proofs.lemmas.List.Elements.{All-contains}
use Rattle.moves.specs.declared.Cell.{Cell}
use Rattle.moves.specs.Maps.{Map, IsPassable, ComesBefore}
use Rattle.moves.specs.Components.{IsComponent, IsComponentList, first_of}
use Rattle.moves.proofs.RowMajor.{before_differs, before_later, contains_later}
use Rattle.cell_order.proofs.Permutations.{contains_cases}

-- a relation by which no two elements come before each other
module _ {X : Type 0} (R : X → X → Type 0) (one_way : (a b : X) → R a b → R b a → ⊥) (never : (a : X) → R a a → ⊥) where
  first_before : (x : X) (xs : List X) (y : X) → AllPairs R (x ∷ xs) → Contains xs y → R x y
  first_before x xs y pairs h = subst (R x) h.2 (pairs 0 (suc h.0) y (omega arith) (let l = h.1 in omega arith))

  rest_pairs : (x : X) (xs : List X) → AllPairs R (x ∷ xs) → AllPairs R xs
  rest_pairs x xs pairs = λ i j d less within. pairs (suc i) (suc j) d (omega arith) (omega arith)

  first_in : (x : X) (xs : List X) → Contains (x ∷ xs) x
  first_in x xs = (0, omega arith, refl)

  -- two lists in order with the same elements are one
  pub same_in_order : (xs ys : List X) → AllPairs R xs → AllPairs R ys → ((x : X) → Contains xs x → Contains ys x) → ((x : X) → Contains ys x → Contains xs x) → xs ≡ ys
  same_in_order [] [] p q f g = refl
  same_in_order [] (y ∷ ys) p q f g = absurd (let h = g y (first_in y ys) in let l = h.1 in omega arith)
  same_in_order (x ∷ xs) [] p q f g = absurd (let h = f x (first_in x xs) in let l = h.1 in omega arith)
  same_in_order (x ∷ xs) (y ∷ ys) p q f g =
      let heads : x ≡ y = elim (contains_cases y ys x (f x (first_in x xs))) [
        | inl same ↦ sym same
        | inr later ↦ elim (contains_cases x xs y (g y (first_in y ys))) [
          | inl same ↦ same
          | inr after ↦ absurd (one_way x y (first_before x xs y p after) (first_before y ys x q later))
        ]
      ] in
      let forth : (z : X) → Contains xs z → Contains ys z = λ z h. elim (contains_cases y ys z (f z (contains_later x xs z h))) [
        | inl same ↦ absurd (never z (subst (λ a. R a z) (heads ∙ same) (first_before x xs z p h)))
        | inr rest ↦ rest
      ] in
      let back : (z : X) → Contains ys z → Contains xs z = λ z h. elim (contains_cases x xs z (g z (contains_later y ys z h))) [
        | inl same ↦ absurd (never z (subst (λ a. R a z) (sym heads ∙ same) (first_before y ys z q h)))
        | inr rest ↦ rest
      ] in
      let tails = same_in_order xs ys (rest_pairs x xs p) (rest_pairs y ys q) forth back in
      ap (λ a. a ∷ xs) heads ∙ ap (λ zs. y ∷ zs) tails

before_one_way : (a b : Cell) → ComesBefore a b → ComesBefore b a → ⊥
before_one_way a b p q = before_differs a a (before_later a b a p q) refl

pub before_never : (a : Cell) → ComesBefore a a → ⊥
before_never a p = before_differs a a p refl

-- two components that share a cell are one
pub same_component : (map : Map) (xs ys : List Cell) (cell : Cell) → IsComponent map xs → IsComponent map ys → Contains xs cell → Contains ys cell → xs ≡ ys
same_component map xs ys cell p q a b =
    same_in_order ComesBefore before_one_way before_never xs ys p.in_order q.in_order
    (λ x h. (q.whole cell x b).1 ((p.whole cell x a).0 h)) (λ x h. (p.whole cell x a).1 ((q.whole cell x b).0 h))

-- the first cell of a component stands in it
pub first_of_component : (map : Map) (cells : List Cell) → IsComponent map cells → Contains cells (first_of cells)
first_of_component map cells component = (0, component.some, get_or_default cells 0 (first_of cells) (record { x = 0; y = 0 }) component.some)

-- a component of one list of components stands in each
component_listed : (map : Map) (xs ys : List (List Cell)) → IsComponentList map xs → IsComponentList map ys → (cells : List Cell) → Contains xs cells → Contains ys cells
component_listed map xs ys p q cells h =
    let mine = All-contains (IsComponent map) xs cells p.each h in
    let first = first_of_component map cells mine in
    let found = q.every_cell (first_of cells) (All-contains (IsPassable map) cells (first_of cells) mine.passable first) in
    let there : Contains ys found.1 = (found.0, found.2, found.3) in
    let its = All-contains (IsComponent map) ys found.1 q.each there in
    subst (Contains ys) (sym (same_component map cells found.1 (first_of cells) mine its first found.4)) there

first_before_one_way : (a b : List Cell) → ComesBefore (first_of a) (first_of b) → ComesBefore (first_of b) (first_of a) → ⊥
first_before_one_way a b = before_one_way (first_of a) (first_of b)

-- a map has one list of components
pub same_components : (map : Map) (xs ys : List (List Cell)) → IsComponentList map xs → IsComponentList map ys → xs ≡ ys
same_components map xs ys p q =
    same_in_order (λ a b. ComesBefore (first_of a) (first_of b)) first_before_one_way (λ a. before_never (first_of a)) xs ys p.in_order q.in_order
    (component_listed map xs ys p q) (component_listed map ys xs q p)
