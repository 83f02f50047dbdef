-- The components of a map have all its passable cells between them, each once.
use Rattle.std.proofs.Common.{◌≡◌, ◌≢◌, ℕ, zero, suc, ◌+◌, ◌*◌, ◌<◌, ◌≤◌, Bool, false, cond, List, [], ◌∷◌, ◌++◌, length, get_or, map, take, All, refl, sym, ap, subst, ◌∙◌, inl, inr, arith}
use Rattle.std.specs.List.{AllPairs, Contains, sum_by, count_by, filter, range_with_len}
use Rattle.std.proofs.lemmas.List.{same_lists, get_or_default, length-append, length-map}
use Rattle.std.proofs.lemmas.List.Elements.{All-append, All-contains, Contains-get_or, Contains-append_left, Contains-append_right, Contains-append_cases}
use Rattle.std.proofs.lemmas.List.Kept.{AllPairs-cons}
use Rattle.std.proofs.lemmas.List.FromFn.{get_or-map-range_with_len, length-map-range_with_len}
use Rattle.std.proofs.lemmas.List.Sorted.{length_permutation}
use Rattle.std.proofs.lemmas.List.Sums.{sum_by-cons, sum_by_more, sum_by-take-le, length-filter, count_by-le-length}
use Rattle.moves.specs.declared.Cell.{Cell}
use Rattle.moves.specs.declared.TheConstants.{MAX_CELLS}
use Rattle.moves.specs.Maps.{Map, IsWithinLimits, IsPassable, ComesBefore, cell_at, is_passable, passable_cells, passable_count, passable_of}
use Rattle.moves.specs.Components.{IsComponent, IsComponentList, first_of}
use Rattle.moves.proofs.RowMajor.{before_differs, contains_later, passable_cells_listed}
use Rattle.cell_order.proofs.Permutations.{AreApart, permutation}
use Rattle.versions.specs.Databases.{component_at}
use Rattle.versions.proofs.Determined.{same_component, before_never}

-- the elements of all lists, list after list
abbrev joined : {X : Type 0} → List (List X) → List X
joined [] = []
joined (xs ∷ xss) = xs ++ joined xss

-- no two of the lists share an element
abbrev AreDisjoint : {X : Type 0} → List (List X) → Type 0
AreDisjoint {X = X} xss = AllPairs (λ a b. (x : X) → Contains a x → Contains b x → ⊥) xss

length_joined : {X : Type 0} (xss : List (List X)) → length (joined xss) ≡ sum_by length xss
length_joined [] = refl
length_joined (xs ∷ xss) = omega (arith, length-append xs (joined xss), length_joined xss, sum_by-cons length xs xss)

contains_joined : {X : Type 0} (xss : List (List X)) (k : ℕ) (xs : List X) (x : X) → k < length xss → get_or xss k xs ≡ xs → Contains xs x → Contains (joined xss) x
contains_joined [] k xs x less is has = absurd (omega arith)
contains_joined (ys ∷ yss) zero xs x less is has = Contains-append_left ys (joined yss) x (subst (λ l. Contains l x) (sym is) has)
contains_joined (ys ∷ yss) (suc k) xs x less is has = Contains-append_right ys (joined yss) x (contains_joined yss k xs x (omega arith) is has)

joined_contains : {X : Type 0} (xss : List (List X)) (x : X) → Contains (joined xss) x → (xs : List X) × Contains xss xs × Contains xs x
joined_contains [] x h = absurd (let l = h.1 in omega arith)
joined_contains (ys ∷ yss) x h =
    elim (Contains-append_cases ys (joined yss) x h) [
      | inl here ↦ (ys, (0, omega arith, refl), here)
      | inr later ↦ let r = joined_contains yss x later in (r.0, contains_later ys yss r.0 r.1, r.2)
    ]

apart_append : {X : Type 0} (xs ys : List X) → AreApart xs → AreApart ys → ((a b : X) → Contains xs a → Contains ys b → a ≢ b) → AreApart (xs ++ ys)
apart_append [] ys p q differ = q
apart_append (x ∷ xs) ys p q differ =
    AllPairs-cons (λ a b. a ≢ b) x (xs ++ ys)
    (All-append (λ b. x ≢ b) xs ys (λ k d less. p 0 (suc k) d (omega arith) (omega arith))
    (λ k d less. differ x (get_or ys k d) (0, omega arith, refl) (Contains-get_or ys k d less)))
    (apart_append xs ys (λ i j d less within. p (suc i) (suc j) d (omega arith) (omega arith)) q (λ a b s t. differ a b (contains_later x xs a s) t))

apart_joined : {X : Type 0} (xss : List (List X)) → All AreApart xss → AreDisjoint xss → AreApart (joined xss)
apart_joined [] each disjoint = λ i j d less within. absurd (omega arith)
apart_joined (xs ∷ xss) each disjoint =
    apart_append xs (joined xss) (each 0 xs (omega arith))
    (apart_joined xss (λ k d less. each (suc k) d (omega arith)) (λ i j d less within. disjoint (suc i) (suc j) d (omega arith) (omega arith)))
    (λ a b p q same.
    let r = joined_contains xss b q in
    let l = r.1.1 in
    disjoint 0 (suc r.1.0) r.0 (omega arith) (omega arith) b (subst (Contains xs) same p) (subst (λ c. Contains c b) (sym r.1.2) r.2))

-- a sum over what a list is mapped to
pub sum_by_map : {X Y : Type 0} (f : Y → ℕ) (g : X → Y) (xs : List X) → sum_by f (map g xs) ≡ sum_by (λ x. f (g x)) xs
sum_by_map f g [] = refl
sum_by_map f g (x ∷ xs) = omega (arith, sum_by-cons f (g x) (map g xs), sum_by_map f g xs, sum_by-cons (λ y. f (g y)) x xs)

marks_again : (marks : List Bool) → map (λ place. get_or marks place false) (range_with_len 0 (length marks)) ≡ marks
marks_again marks =
    let f : ℕ → Bool = λ place. get_or marks place false in
    let size : length (map f (range_with_len 0 (length marks))) ≡ length marks = length-map-range_with_len f 0 (length marks) in
    same_lists _ marks size (λ k d less.
    let within : k < length marks = omega arith in
    get_or-map-range_with_len f 0 (length marks) k k d within (omega arith) ∙ get_or_default marks k false d within)

-- the passable cells are as many as are counted
pub count_listed : (m : Map) → length (passable_cells m) ≡ passable_count m
count_listed m =
    let p : ℕ → Bool = λ place. get_or (passable_of m) place false in
    let places = range_with_len 0 (length m.terrain) in
    let again : map p places ≡ passable_of m =
    ap (λ n. map p (range_with_len 0 n)) (sym (length-map m.terrain is_passable)) ∙ marks_again (passable_of m) in
    length-map (filter p places) (cell_at m.width) ∙ length-filter p places ∙ sym (sum_by_map (λ (mark : Bool). cond {A = ℕ} mark 1 0) p places)
    ∙ ap (count_by (λ mark. mark)) again

module _ (m : Map) (limits : IsWithinLimits m.width m.height) (whole : length m.terrain ≡ m.width * m.height) (components : List (List Cell)) (listed : IsComponentList m components) where
  disjoint : AreDisjoint components
  disjoint i j d less within x p q =
      let same = same_component m (get_or components i d) (get_or components j d) x (listed.each i d (omega arith)) (listed.each j d within) p q in
      before_never _ (subst (λ c. ComesBefore (first_of (get_or components i d)) (first_of c)) (sym same) (listed.in_order i j d less within))

  each_apart : All AreApart components
  each_apart k d less i j e before within = before_differs _ _ ((listed.each k d less).in_order i j e before within)

  -- each passable cell is in one component
  pub sum_is : sum_by length components ≡ passable_count m
  sum_is =
      let all = passable_cells_listed m limits whole in
      let there : (x : Cell) → Contains (joined components) x → Contains (passable_cells m) x = λ x h.
      let r = joined_contains components x h in
      let component = All-contains (IsComponent m) components r.0 listed.each r.1 in
      (all.just_these x).1 (All-contains (IsPassable m) r.0 x component.passable r.2) in
      let back : (x : Cell) → Contains (passable_cells m) x → Contains (joined components) x = λ x h.
      let found = listed.every_cell x ((all.just_these x).0 h) in
      contains_joined components found.0 found.1 x found.2 found.3 found.4 in
      let same = permutation (joined components) (passable_cells m) (apart_joined components each_apart disjoint)
      (λ i j d less within. before_differs _ _ (all.in_order i j d less within)) there back in
      omega (arith, length_permutation _ _ same, length_joined components, count_listed m)

  pub count_small : passable_count m ≤ MAX_CELLS
  count_small = omega (arith, count_by-le-length (λ (mark : Bool). mark) (passable_of m), length-map m.terrain is_passable, limits.cells)

  module _ (label : ℕ) (less : label < length components) where
    pub length_within : sum_by length (take label components) + length (component_at components label) ≤ passable_count m
    length_within = omega (arith, sum_by_more length components label [] less, sum_by-take-le length components (label + 1), sum_is)
