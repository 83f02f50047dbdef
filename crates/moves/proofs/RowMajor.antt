-- Lists of the cells that pass a test, row by row.
use Rattle.std.proofs.Common.{◌≡◌, ℕ, zero, suc, ◌+◌, ◌*◌, ◌/◌, ◌%◌, ◌<◌, ◌≤◌, ◌⊎◌, Bool, true, false, List, [], ◌∷◌, length, get_or, map, sym, ap, ◌∙◌, subst, inl, inr, arith, zero-add}
use Rattle.std.specs.List.{All, AllPairs, Contains, filter, range_with_len}
use Rattle.std.proofs.lemmas.Bool.{cases_lt, cases_eq, cases_Bool, cond-true, cond-false}
use Rattle.std.proofs.lemmas.Nat.{same_from_place, div-add-mod', mod_below, mul-le, mul-add-lt}
use Rattle.std.proofs.lemmas.List.{get_or-map, length-map}
use Rattle.std.proofs.lemmas.List.Elements.{All-contains, All-filter, filter_passes, Contains-get_or}
use Rattle.std.proofs.lemmas.List.FromFn.{length-range_with_len, get_or-range_with_len}
use Rattle.std.proofs.lemmas.List.Kept.{AllPairs-filter}
use Rattle.moves.specs.declared.Cell.{Cell}
use Rattle.moves.specs.Maps.{ComesBefore, passable_of, place_of, cell_at}
use Rattle.moves.proofs.MoveLaws.{same_cell}
use Rattle.moves.specs.ComponentLaws.{PassableCellsAreListed}

-- the place of the cell at a place
pub place_of_cell_at : (w p : ℕ) → place_of w (cell_at w p) ≡ p
place_of_cell_at w p = div-add-mod' p w

-- the cell at the place of a cell
pub cell_at_place_of : (w : ℕ) (c : Cell) → c.x < w → cell_at w (place_of w c) ≡ c
cell_at_place_of w c h =
    let n : ℕ = place_of w c in
    let s = same_from_place (n / w) (n % w) c.y c.x w (mod_below n w (omega arith)) h (div-add-mod' n w) in
    same_cell (cell_at w n) c s.1 s.0

-- one place is one cell
pub same_cell_from_place : (w : ℕ) (a b : Cell) → a.x < w → b.x < w → place_of w a ≡ place_of w b → a ≡ b
same_cell_from_place w a b p q e = sym (cell_at_place_of w a p) ∙ ap (cell_at w) e ∙ cell_at_place_of w b q

-- an earlier place is an earlier cell
pub earlier_cell : (w p q : ℕ) → 0 < w → p < q → ComesBefore (cell_at w p) (cell_at w q)
earlier_cell w p q some less =
    let low : p / w * w + p % w ≡ p = div-add-mod' p w in
    let high : q / w * w + q % w ≡ q = div-add-mod' q w in
    let under : q % w < w = mod_below q w some in
    elim (cases_lt (p / w) (q / w)) [
      | inl above ↦ inl above
      | inr below ↦
          elim (cases_eq (p / w) (q / w)) [
            | inl same ↦ let e : p / w * w ≡ q / w * w = ap (λ t. t * w) same in inr (same, omega arith)
            | inr other ↦
                let least : (q / w + 1) * w ≤ p / w * w = mul-le (q / w + 1) w (p / w) w (omega arith) (omega arith) in
                absurd (omega arith)
          ]
    ]

-- the row of a cell whose place is inside
pub row_inside : (w h : ℕ) (c : Cell) → place_of w c < w * h → c.y < h
row_inside w h c less =
    elim (cases_lt c.y h) [
      | inl inside ↦ inside
      | inr outside ↦ let most : h * w ≤ c.y * w = mul-le h w c.y w outside (omega arith) in absurd (omega arith)
    ]

-- the place of a cell that is inside
pub place_inside : (w h : ℕ) (c : Cell) → c.x < w → c.y < h → place_of w c < w * h
place_inside w h c column row = mul-add-lt c.y w c.x h row column

-- what a list with one element more contains
pub contains_later : {X : Type 0} (y : X) (xs : List X) (x : X) → Contains xs x → Contains (y ∷ xs) x
contains_later y xs x h = (suc h.0, omega arith, h.2)

-- an element of a list is its first one or one of the rest
contains_at : {X : Type 0} (y : X) (xs : List X) (x : X) (k : ℕ) → k < length (y ∷ xs) → get_or (y ∷ xs) k x ≡ x → (y ≡ x) ⊎ Contains xs x
contains_at y xs x zero less at = inl at
contains_at y xs x (suc k) less at = inr (k, omega arith, at)

pub contains_cases : {X : Type 0} (y : X) (xs : List X) (x : X) → Contains (y ∷ xs) x → (y ≡ x) ⊎ Contains xs x
contains_cases y xs x h = contains_at y xs x h.0 h.1 h.2

-- an element that passes the test is in what the filter keeps
pub contains_filtered : {X : Type 0} (p : X → Bool) (xs : List X) (x : X) (k : ℕ) → k < length xs → get_or xs k x ≡ x
    → p x ≡ true → Contains (filter p xs) x
contains_filtered p [] x k less at passes = absurd (omega arith)
contains_filtered p (y ∷ ys) x zero less at passes =
    let good : p y ≡ true = ap p at ∙ passes in
    rw (cond-true (p y) (y ∷ filter p ys) (filter p ys) good) (0, omega arith, at)
contains_filtered p (y ∷ ys) x (suc k) less at passes =
    let rest = contains_filtered p ys x k (omega arith) at passes in
    elim (cases_Bool (p y)) [
      | inl good ↦ rw (cond-true (p y) (y ∷ filter p ys) (filter p ys) good) (contains_later y (filter p ys) x rest)
      | inr bad ↦ rw (cond-false (p y) (y ∷ filter p ys) (filter p ys) bad) rest
    ]

-- the cells, row by row, whose places pass a test
abbrev pub cells_where : ℕ → ℕ → (ℕ → Bool) → List Cell
cells_where w n p = map (cell_at w) (filter p (range_with_len 0 n))

-- the cell's place passes the test
pub record Passes (w n : ℕ) (p : ℕ → Bool) (c : Cell) : Type 0 where
  pub column : c.x < w
  pub place : place_of w c < n
  pub passes : p (place_of w c) ≡ true

module _ (w n : ℕ) (p : ℕ → Bool) (some : 0 < w) where
  abbrev places : List ℕ
  places = filter p (range_with_len 0 n)

  place_passes : (q : ℕ) → Contains places q → (q < n) × (p q ≡ true)
  place_passes q h =
      let below : All (λ r. r < n) (range_with_len 0 n) =
      λ k d less. rw (get_or-range_with_len 0 n k d (let l = length-range_with_len 0 n in omega arith)) (let l = length-range_with_len 0 n in omega arith) in (
        All-contains (λ r. r < n) places q (All-filter p (λ r. r < n) (range_with_len 0 n) below) h,
        All-contains (λ r. p r ≡ true) places q (filter_passes p (range_with_len 0 n)) h,
      )

  pub passes_where : (c : Cell) → Contains (cells_where w n p) c → Passes w n p c
  passes_where c h =
      let less : h.0 < length places = let l = length-map places (cell_at w) in omega arith in
      let q : ℕ = get_or places h.0 0 in
      let e : cell_at w q ≡ c = sym (get_or-map (cell_at w) places h.0 0 c less) ∙ h.2 in
      let f = place_passes q (Contains-get_or places h.0 0 less) in
      let at : place_of w c ≡ q = sym (ap (place_of w) e) ∙ place_of_cell_at w q in
      let column : (cell_at w q).x < w = mod_below q w some in
      record { column = subst (λ d. d.x < w) e column; place = rw at f.0; passes = ap p at ∙ f.1 }

  pub contained_where : (c : Cell) → Passes w n p c → Contains (cells_where w n p) c
  contained_where c h =
      let q : ℕ = place_of w c in
      let long = length-range_with_len 0 n in
      let less : q < length (range_with_len 0 n) = let l = h.place in omega arith in
      let at : get_or (range_with_len 0 n) q q ≡ q = get_or-range_with_len 0 n q q h.place ∙ zero-add q in
      let kept = contains_filtered p (range_with_len 0 n) q q less at h.passes in (
        kept.0,
        (let l = length-map places (cell_at w) in let k = kept.1 in omega arith),
        get_or-map (cell_at w) places kept.0 q c kept.1 ∙ (ap (cell_at w) kept.2 ∙ cell_at_place_of w c h.column),
      )

  places_rise : AllPairs (λ q r. q < r) places
  places_rise = AllPairs-filter (λ q r. q < r) p (range_with_len 0 n)
      (λ i j d less within.
      let l = length-range_with_len 0 n in
      let a : get_or (range_with_len 0 n) i d ≡ 0 + i = get_or-range_with_len 0 n i d (omega arith) in
      let b : get_or (range_with_len 0 n) j d ≡ 0 + j = get_or-range_with_len 0 n j d (omega arith) in
      omega arith)

  pub in_order_where : AllPairs ComesBefore (cells_where w n p)
  in_order_where = λ i j d less within.
      let long = length-map places (cell_at w) in
      let j_in : j < length places = omega arith in
      let i_in : i < length places = omega arith in
      rw (get_or-map (cell_at w) places i 0 d i_in, get_or-map (cell_at w) places j 0 d j_in)
      (earlier_cell w (get_or places i 0) (get_or places j 0) some (places_rise i j 0 less j_in))

-- the passable cells are listed
pub passable_cells_listed : PassableCellsAreListed
passable_cells_listed m limits whole =
    let p : ℕ → Bool = λ place. get_or (passable_of m) place false in
    let some = limits.some_columns in
    record {
      just_these = λ c. (
        λ h.
            let f = passes_where m.width (length m.terrain) p some c h in
            let below : place_of m.width c < length m.terrain = f.place in
            record { inside = record { column = f.column; row = row_inside m.width m.height c (omega arith) }; passable = f.passes },
        λ h.
            let below = place_inside m.width m.height c h.inside.column h.inside.row in
            contained_where m.width (length m.terrain) p some c
            (record { column = h.inside.column; place = omega arith; passes = h.passable }),
      );
      in_order = in_order_where m.width (length m.terrain) p some;
    }

-- a cell at an earlier place comes before
pub before_by_place : (w : ℕ) (a b : Cell) → a.x < w → b.x < w → place_of w a < place_of w b → ComesBefore a b
before_by_place w a b p q less =
    subst (λ c. ComesBefore c b) (cell_at_place_of w a p)
    (subst (ComesBefore (cell_at w (place_of w a))) (cell_at_place_of w b q) (earlier_cell w (place_of w a) (place_of w b) (omega arith) less))

-- what comes before comes before all that is later
pub before_later : (a b c : Cell) → ComesBefore a b → ComesBefore b c → ComesBefore a c
before_later a b c p q =
    elim p [
      | inl up ↦ elim q [ inl more ↦ inl (omega arith) | inr same ↦ inl (let e = same.0 in omega arith) ]
      | inr beside ↦ elim q [
        | inl more ↦ inl (let e = beside.0 in omega arith)
        | inr same ↦ inr (beside.0 ∙ same.0, let l = beside.1 in let m = same.1 in omega arith)
      ]
    ]

-- what comes before is another cell
pub before_differs : (a b : Cell) → ComesBefore a b → a ≡ b → ⊥
before_differs a b p same =
    let x : a.x ≡ b.x = ap (λ c. c.x) same in
    let y : a.y ≡ b.y = ap (λ c. c.y) same in
    elim p [ inl up ↦ omega arith | inr beside ↦ (let l = beside.1 in omega arith) ]
