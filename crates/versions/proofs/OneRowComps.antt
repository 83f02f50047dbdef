-- The components of `@@`, `.@.` and `...`, with rows that are written out. Only tests have them.
use Rattle.std.proofs.Common.{◌≡◌, ◌≢◌, ◌⊎◌, ◌↔◌, inl, inr, ℕ, zero, suc, ◌+◌, ◌-◌, ◌^◌, ◌<◌, ◌≤◌, Bool, true, false, List, [], ◌∷◌, length, get_or, replicate, arith, subst, refl, sym, ap, ◌∙◌}
use Rattle.std.specs.List.{All, AllPairs, Any, Contains}
use Rattle.std.proofs.lemmas.Bool.{and_from, cases_eq, cases_lt, false≢true}
use Rattle.std.proofs.lemmas.Nat.Bits.{bit_at-pow_other}
use Rattle.moves.specs.declared.Cell.{Cell}
use Rattle.moves.specs.declared.Move.{Move}
use Rattle.moves.specs.declared.Move.TheVariants.{E, W}
use Rattle.moves.specs.Maps.{Map, IsPassable, IsLike, ComesBefore, has_cell, map_with, place_of}
use Rattle.moves.specs.Moves.{IsLegal}
use Rattle.moves.specs.MoveSets.{Has as HasMove}
use Rattle.moves.specs.Paths.{Leads, Reaches}
use Rattle.moves.specs.Components.{IsComponent, first_of}
use Rattle.moves.specs.ComponentLaws.{HasJust}
use Rattle.moves.specs.FirstSets.{IsFirstMove}
use Rattle.moves.specs.FirstSetLists.{cell_of}
use Rattle.moves.specs.Rectangles.{IsOnMap}
use Rattle.moves.proofs.Connected.{connected_in_order, has_cell-from_contains}
use Rattle.moves.proofs.LandMaps.{marked_if_passable}
use Rattle.moves.proofs.LawsOfPaths.{leads_to}
use Rattle.moves.proofs.MoveLaws.{like_itself}
use Rattle.moves.proofs.RowMajor.{before_differs}
use Rattle.run_pack.specs.declared.Run.{Run}
use Rattle.run_pack.specs.Runs.{IsTight, end_at, move_at, start_at}
use Rattle.run_pack.specs.Sets.{Has, IsCommon, IsLeastCommon}
use Rattle.run_pack.proofs.RowLemmas.{row_from_borders}
use Rattle.run_pack.proofs.SetLemmas.{Has-from_bit, bit_from_Has}
use Rattle.row_store.specs.Rows.{IsRowFrom, row_at}
use Rattle.row_store.specs.Comps.{Comp, IsComp}
use Rattle.cell_order.specs.declared.OrderKind.TheVariants.{Rows}
use Rattle.versions.specs.Databases.{IsDatabase, IsKeptAs, comp_at, component_at}
use Rattle.versions.specs.OneRow.{cell, line, lone, run}
use Rattle.versions.proofs.OneRow.{alike, all_free, east, first_here, first_moves, free, free_row, of_free, row_of, set_between, step, three, west}

-- ---- lists of one and of three

single : {X : Type 0} (x y : X) → Contains (x ∷ []) y → x ≡ y
single x y (zero, less, is) = is
single x y (suc k, less, is) = absurd (omega arith)

all_three : {X : Type 0} (P : X → Type 0) (a b c : X) → P a → P b → P c → All P (a ∷ b ∷ c ∷ [])
all_three P a b c p q r zero d less = p
all_three P a b c p q r (suc zero) d less = q
all_three P a b c p q r (suc (suc zero)) d less = r
all_three P a b c p q r (suc (suc (suc k))) d less = absurd (omega arith)

pairs_of_three : {X : Type 0} (R : X → X → Type 0) (a b c : X) → R a b → R a c → R b c → AllPairs R (a ∷ b ∷ c ∷ [])
pairs_of_three R a b c p q r zero (suc zero) d order less = p
pairs_of_three R a b c p q r zero (suc (suc zero)) d order less = q
pairs_of_three R a b c p q r (suc zero) (suc (suc zero)) d order less = r
pairs_of_three R a b c p q r i j d order less = absurd (omega arith)

-- ---- runs and sets

-- a set of one move has no other
only_bit : (k other : ℕ) → Has (2 ^ k) other → other ≡ k
only_bit k other has = elim (cases_eq other k) [
  | inl e ↦ e
  | inr n ↦ absurd (omega (arith, bit_at-pow_other k other n, bit_from_Has _ other has))
]

-- one run whose move is the least that all sets share
one_run : (sets : List ℕ) (move : ℕ) → 0 < length sets → move < 8 → ((place : ℕ) → place < length sets → Has (get_or sets place 0) move)
    → ((other : ℕ) → IsCommon sets 0 (length sets) other → move ≤ other) → IsTight (run 0 move ∷ []) sets
one_run sets move some number all least =
    let none : (k : ℕ) → k < 1 → 0 ≡ k = λ k less. omega arith in
    record {
      row = row_from_borders (run 0 move ∷ []) (length sets) (omega arith) refl
          (λ k less. subst (λ j. start_at (run 0 move ∷ []) j < end_at (run 0 move ∷ []) (length sets) j) (none k less) some);
      least = λ k less.
          subst (λ j. IsLeastCommon sets (start_at (run 0 move ∷ []) j) (end_at (run 0 move ∷ []) (length sets) j) (move_at (run 0 move ∷ []) j)) (none k less)
          (record { common = record { number = number; everywhere = λ place from upto. all place upto }; least = least });
      maximal = λ k less other common. absurd (omega arith);
    }

abbrev pub cells : List Cell
cells = cell 0 ∷ cell 1 ∷ cell 2 ∷ []

-- the first sets of a source to the cells
abbrev sets_from : ℕ → List ℕ
sets_from x = set_between x 0 ∷ set_between x 1 ∷ set_between x 2 ∷ []

abbrev middle_runs : List Run
middle_runs = run 0 6 ∷ run 2 2 ∷ []

middle_borders : (k : ℕ) → k < 2 → start_at middle_runs k < end_at middle_runs 3 k
middle_borders zero less = omega arith
middle_borders (suc zero) less = omega arith
middle_borders (suc (suc k)) less = absurd (omega arith)

middle_has : (place : ℕ) → place < 2 → Has (get_or (sets_from 1) place 0) 6
middle_has zero less = Has-from_bit 64 6 refl
middle_has (suc zero) less = Has-from_bit 255 6 refl
middle_has (suc (suc place)) less = absurd (omega arith)

middle_least : (k : ℕ) → k < 2 → IsLeastCommon (sets_from 1) (start_at middle_runs k) (end_at middle_runs 3 k) (move_at middle_runs k)
middle_least zero less = record {
  common = record { number = omega arith; everywhere = λ place from upto. middle_has place upto };
  least = λ other common. omega (arith, only_bit 6 other (common.everywhere 0 (omega arith) (omega arith)));
}
middle_least (suc zero) less = record {
  common = record {
    number = omega arith;
    everywhere = λ place from upto. (let e : 2 ≡ place = omega arith in subst (λ p. Has (get_or (sets_from 1) p 0) 2) e (Has-from_bit 4 2 refl));
  };
  least = λ other common. omega (arith, only_bit 2 other (common.everywhere 2 (omega arith) (omega arith)));
}
middle_least (suc (suc k)) less = absurd (omega arith)

middle_tight : IsTight middle_runs (sets_from 1)
middle_tight = record {
  row = row_from_borders middle_runs 3 (omega arith) refl middle_borders;
  least = middle_least;
  maximal = λ k less other common. (let e : 0 ≡ k = omega arith in
      let shared = subst (λ j. IsCommon (sets_from 1) (start_at middle_runs j) (end_at middle_runs 3 j + 1) other) (sym e) common in
      absurd (omega (arith, only_bit 6 other (shared.everywhere 0 (omega arith) (omega arith)), only_bit 2 other (shared.everywhere 2 (omega arith) (omega arith)))));
}

outer_has : (move : ℕ) (sets : List ℕ) → All (λ set. Has set move) sets → (place : ℕ) → place < length sets → Has (get_or sets place 0) move
outer_has move sets all place less = all place 0 less

tight : (x : ℕ) → x < 3 → IsTight (row_at line.rows x) (sets_from x)
tight zero less = one_run (sets_from 0) 2 (omega arith) (omega arith)
    (outer_has 2 (sets_from 0) (all_three (λ set. Has set 2) 255 4 4 (Has-from_bit 255 2 refl) (Has-from_bit 4 2 refl) (Has-from_bit 4 2 refl)))
    (λ other common. omega (arith, only_bit 2 other (common.everywhere 1 (omega arith) (omega arith))))
tight (suc zero) less = middle_tight
tight (suc (suc zero)) less = one_run (sets_from 2) 6 (omega arith) (omega arith)
    (outer_has 6 (sets_from 2) (all_three (λ set. Has set 6) 64 64 255 (Has-from_bit 64 6 refl) (Has-from_bit 64 6 refl) (Has-from_bit 255 6 refl)))
    (λ other common. omega (arith, only_bit 6 other (common.everywhere 1 (omega arith) (omega arith))))
tight (suc (suc (suc x))) less = absurd (omega arith)

-- ---- the three cells of `...`

passable_at : (k : ℕ) (d : Cell) → k < 3 → get_or cells k d ≡ d → IsPassable free_row d
passable_at zero d less is = subst (IsPassable free_row) is (all_free 0 less)
passable_at (suc zero) d less is = subst (IsPassable free_row) is (all_free 1 less)
passable_at (suc (suc zero)) d less is = subst (IsPassable free_row) is (all_free 2 less)
passable_at (suc (suc (suc k))) d less is = absurd (omega arith)

contains : (x : ℕ) → x < 3 → Contains cells (cell x)
contains zero less = (0, less, refl)
contains (suc zero) less = (1, less, refl)
contains (suc (suc zero)) less = (2, less, refl)
contains (suc (suc (suc x))) less = absurd (omega arith)

just_cells : HasJust free_row cells
just_cells = record {
  just_these = λ d. (
    λ p. (let f = of_free true true true d p in subst (Contains cells) (sym f.is) (contains d.x f.below)),
    λ h. passable_at h.0 d h.1 h.2,
  );
  one_class = λ d e h i. alike true true true d e (passable_at h.0 d h.1 h.2) (passable_at i.0 e i.1 i.2);
}

first_to : (x place : ℕ) → x < 3 → place < 3 → (move : Move)
    → HasMove (get_or (sets_from x) place 0) move ↔ IsFirstMove free_row (cell x) (cell_of cells place) move
first_to x zero less within move = first_moves x 0 less within move
first_to x (suc zero) less within move = first_moves x 1 less within move
first_to x (suc (suc zero)) less within move = first_moves x 2 less within move
first_to x (suc (suc (suc place))) less within move = absurd (omega arith)

set_is_byte : (x y : ℕ) → set_between x y < 256
set_is_byte zero zero = omega arith
set_is_byte zero (suc y) = omega arith
set_is_byte (suc x) zero = omega arith
set_is_byte (suc x) (suc y) = set_is_byte x y

row_from : (x : ℕ) → x < 3 → IsRowFrom free_row cells (cell x) (row_at line.rows x)
row_from x less = record {
  sets = sets_from x;
  first = record {
    whole = refl;
    bytes = all_three (λ set. set < 256) (set_between x 0) (set_between x 1) (set_between x 2) (set_is_byte x 0) (set_is_byte x 1) (set_is_byte x 2);
    each = λ place within move. first_to x place less within move;
  };
  tight = tight x less;
}

rows_of_line : (place : ℕ) → place < 3 → IsRowFrom free_row cells (cell_of cells place) (row_at line.rows place)
rows_of_line zero less = row_from 0 less
rows_of_line (suc zero) less = row_from 1 less
rows_of_line (suc (suc zero)) less = row_from 2 less
rows_of_line (suc (suc (suc place))) less = absurd (omega arith)

cells_rise : AllPairs ComesBefore cells
cells_rise = pairs_of_three ComesBefore (cell 0) (cell 1) (cell 2) (inr (refl, omega arith)) (inr (refl, omega arith)) (inr (refl, omega arith))

pub line_is_comp : IsComp line
line_is_comp = record {
  some = omega arith;
  few = omega arith;
  on_map = all_three IsOnMap (cell 0) (cell 1) (cell 2) (record { column = omega arith; row = omega arith })
      (record { column = omega arith; row = omega arith }) (record { column = omega arith; row = omega arith });
  once = λ i j d order less. before_differs _ _ (cells_rise i j d order less);
  connected = connected_in_order cells (cell 0) (cell 1 ∷ cell 2 ∷ []) refl refl;
  rows = record { map = free_row; just = just_cells; whole = refl; each = rows_of_line };
}

reaches : (x y : ℕ) → x < 3 → y < 3 → Reaches free_row (cell x) (cell y)
reaches x y low high = elim (cases_lt x y) [
  | inl before ↦
      let e : x + (y - x) ≡ y = omega arith in
      (replicate (y - x) E, subst (λ z. Leads free_row (cell x) (replicate (y - x) E) (cell z)) e (east (y - x) x (omega arith)))
  | inr after ↦
      let e : y + (x - y) ≡ x = omega arith in
      (replicate (x - y) W, subst (λ z. Leads free_row (cell z) (replicate (x - y) W) (cell y)) e (west (x - y) y (omega arith)))
]

joined : (from to : Cell) → Contains cells from → Contains cells to → Reaches free_row from to
joined from to f t =
    let a = of_free true true true from ((just_cells.just_these from).1 f) in
    let b = of_free true true true to ((just_cells.just_these to).1 t) in
    subst (λ d. Reaches free_row d to) (sym a.is) (subst (λ d. Reaches free_row (cell from.x) d) (sym b.is) (reaches from.x to.x a.below b.below))

line_is_component : IsComponent free_row cells
line_is_component = record {
  some = omega arith;
  passable = all_three (IsPassable free_row) (cell 0) (cell 1) (cell 2) (all_free 0 (omega arith)) (all_free 1 (omega arith)) (all_free 2 (omega arith));
  whole = λ from to f. (λ t. joined from to f t, λ r. (just_cells.just_these to).0 (leads_to free_row from to r.0 r.1));
  in_order = cells_rise;
}

pub line_database : IsDatabase free_row Rows (line ∷ [])
line_database = record {
  components = cells ∷ [];
  listed = record {
    each = λ k d less. (let e : 0 ≡ k = omega arith in subst (λ j. IsComponent free_row (get_or (cells ∷ []) j d)) e line_is_component);
    every_cell = λ d passable. (0, cells, omega arith, refl, (just_cells.just_these d).0 passable);
    in_order = λ i j d order less. absurd (omega arith);
  };
  whole = refl;
  each = λ label less. (let e : 0 ≡ label = omega arith in
      subst (λ j. IsKeptAs Rows (component_at (cells ∷ []) j) (comp_at (line ∷ []) j)) e (record { kind = refl; cells = refl; whole = line_is_comp }));
}

-- ---- lone cells

-- the map that has just the cell in that column
abbrev only : ℕ → Map
only zero = row_of true false false
only (suc zero) = row_of false true false
only (suc (suc x)) = row_of false false true

only_free : (x : ℕ) → x < 3 → IsPassable (only x) (cell x)
only_free zero less = free true false false 0 less refl
only_free (suc zero) less = free false true false 1 less refl
only_free (suc (suc zero)) less = free false false true 2 less refl
only_free (suc (suc (suc x))) less = absurd (omega arith)

-- a passable cell is that in column x where the cells of the other columns are blocked
in_column : (a b c : Bool) (x : ℕ) → ((k : ℕ) → k < 3 → k ≢ x → get_or (a ∷ b ∷ c ∷ []) k false ≡ false)
    → (d : Cell) → IsPassable (row_of a b c) d → cell x ≡ d
in_column a b c x others d passable =
    let f = of_free a b c d passable in
    elim (cases_eq d.x x) [
      | inl e ↦ ap cell (sym e) ∙ sym f.is
      | inr n ↦ absurd (false≢true (sym (others d.x f.below n) ∙ f.passable))
    ]

not_zero : (k : ℕ) → k < 3 → k ≢ 0 → get_or (true ∷ false ∷ false ∷ []) k false ≡ false
not_zero zero less n = absurd (n refl)
not_zero (suc zero) less n = refl
not_zero (suc (suc zero)) less n = refl
not_zero (suc (suc (suc k))) less n = absurd (omega arith)

not_one : (k : ℕ) → k < 3 → k ≢ 1 → get_or (false ∷ true ∷ false ∷ []) k false ≡ false
not_one zero less n = refl
not_one (suc zero) less n = absurd (n refl)
not_one (suc (suc zero)) less n = refl
not_one (suc (suc (suc k))) less n = absurd (omega arith)

not_two : (k : ℕ) → k < 3 → k ≢ 2 → get_or (false ∷ false ∷ true ∷ []) k false ≡ false
not_two zero less n = refl
not_two (suc zero) less n = refl
not_two (suc (suc zero)) less n = absurd (n refl)
not_two (suc (suc (suc k))) less n = absurd (omega arith)

only_one : (x : ℕ) → x < 3 → (d : Cell) → IsPassable (only x) d → cell x ≡ d
only_one zero less = in_column true false false 0 not_zero
only_one (suc zero) less = in_column false true false 1 not_one
only_one (suc (suc zero)) less = in_column false false true 2 not_two
only_one (suc (suc (suc x))) less = absurd (omega arith)

just_one : (x : ℕ) → x < 3 → HasJust (only x) (cell x ∷ [])
just_one x less = record {
  just_these = λ d. (
    λ p. (0, omega arith, only_one x less d p),
    λ h. subst (IsPassable (only x)) (single (cell x) d h) (only_free x less),
  );
  one_class = λ d e h i.
      subst (λ c. IsLike (only x) c e) (single (cell x) d h)
      (subst (IsLike (only x) (cell x)) (single (cell x) e i) (like_itself (only x) (cell x) (only_free x less)));
}

lone_row : (x : ℕ) → x < 3 → IsRowFrom (only x) (cell x ∷ []) (cell x) (run 0 0 ∷ [])
lone_row x less = record {
  sets = 255 ∷ [];
  first = record {
    whole = refl;
    bytes = λ k d within. (let e : 0 ≡ k = omega arith in subst (λ j. get_or (255 ∷ []) j d < 256) e (omega arith));
    each = λ place within move. (let e : 0 ≡ place = omega arith in
        subst (λ j. HasMove (get_or (255 ∷ []) j 0) move ↔ IsFirstMove (only x) (cell x) (cell_of (cell x ∷ []) j) move) e
        (first_here (only x) (cell x) (only_free x less) move));
  };
  tight = one_run (255 ∷ []) 0 (omega arith) (omega arith)
      (λ place within. (let e : 0 ≡ place = omega arith in subst (λ j. Has (get_or (255 ∷ []) j 0) 0) e (Has-from_bit 255 0 refl)))
      (λ other common. omega arith);
}

lone_contains : (x : ℕ) → has_cell (cell x ∷ []) (cell x) ≡ true
lone_contains x = has_cell-from_contains (cell x ∷ []) (cell x) (0, omega arith, refl)

pub lone_is_comp : (x : ℕ) → x < 3 → IsComp (lone x)
lone_is_comp x less = record {
  some = omega arith;
  few = omega arith;
  on_map = λ k d within. (let e : 0 ≡ k = omega arith in
      subst (λ j. IsOnMap (get_or (cell x ∷ []) j d)) e (record { column = omega arith; row = omega arith }));
  once = λ i j d order within. absurd (omega arith);
  connected = connected_in_order (cell x ∷ []) (cell x) [] (lone_contains x) (and_from _ true (lone_contains x) refl);
  rows = record {
    map = only x;
    just = just_one x less;
    whole = refl;
    each = λ place within. (let e : 0 ≡ place = omega arith in
        subst (λ j. IsRowFrom (only x) (cell x ∷ []) (cell_of (cell x ∷ []) j) (row_at ((run 0 0 ∷ []) ∷ []) j)) e (lone_row x less));
  };
}

-- ---- the two cells of `.@.`

abbrev pub parted : Map
parted = row_of true false true

not_between : (d : Cell) → IsPassable parted d → d.x ≡ 1 → ⊥
not_between d passable e =
    false≢true (ap (λ k. get_or (true ∷ false ∷ true ∷ []) k false) (sym e) ∙ (of_free true false true d passable).passable)

-- no move is legal there
no_move : (x : ℕ) → (x ≡ 0) ⊎ (x ≡ 2) → (move : Move) (to : Cell) → IsLegal parted (cell x) move to → ⊥
no_move x outer move to legal = elim (step true false true (cell x) move to legal) [
  | inl e ↦ elim outer [
    | inl first ↦ not_between to legal.enters.passable (omega (arith, e.1, first))
    | inr last ↦ absurd (omega (arith, e.1, last, legal.enters.passable.inside.column))
  ]
  | inr w ↦ elim outer [
    | inl first ↦ absurd (omega (arith, w.1, first))
    | inr last ↦ not_between to legal.enters.passable (omega (arith, w.1, last))
  ]
]

stays : (x : ℕ) → (x ≡ 0) ⊎ (x ≡ 2) → (moves : List Move) (to : Cell) → Leads parted (cell x) moves to → cell x ≡ to
stays x outer [] to path = path.1
stays x outer (move ∷ moves) to path = absurd (no_move x outer move path.0 path.1)

outer_free : (x : ℕ) → (x ≡ 0) ⊎ (x ≡ 2) → IsPassable parted (cell x)
outer_free x outer = elim outer [
  | inl e ↦ subst (λ y. IsPassable parted (cell y)) (sym e) (free true false true 0 (omega arith) refl)
  | inr e ↦ subst (λ y. IsPassable parted (cell y)) (sym e) (free true false true 2 (omega arith) refl)
]

lone_is_component : (x : ℕ) → (x ≡ 0) ⊎ (x ≡ 2) → IsComponent parted (cell x ∷ [])
lone_is_component x outer = record {
  some = omega arith;
  passable = λ k d less. (let e : 0 ≡ k = omega arith in subst (λ j. IsPassable parted (get_or (cell x ∷ []) j d)) e (outer_free x outer));
  whole = λ from to f. (let here = single (cell x) from f in (
    λ t. ([], (subst (IsPassable parted) here (outer_free x outer), sym here ∙ single (cell x) to t)),
    λ r. (0, omega arith, stays x outer r.0 to (subst (λ d. Leads parted d r.0 to) (sym here) r.1)),
  ));
  in_order = λ i j d order less. absurd (omega arith);
}

abbrev lone_cells : List (List Cell)
lone_cells = (cell 0 ∷ []) ∷ (cell 2 ∷ []) ∷ []

lone_components : (k : ℕ) (d : List Cell) → k < 2 → IsComponent parted (get_or lone_cells k d)
lone_components zero d less = lone_is_component 0 (inl refl)
lone_components (suc zero) d less = lone_is_component 2 (inr refl)
lone_components (suc (suc k)) d less = absurd (omega arith)

in_lone_cells : (d : Cell) → IsPassable parted d → Any (λ some. Contains some d) lone_cells
in_lone_cells d passable =
    let f = of_free true false true d passable in
    elim (three d.x f.below) [
      | inl e ↦ (0, cell 0 ∷ [], omega arith, refl, (0, omega arith, ap cell (sym e) ∙ sym f.is))
      | inr other ↦ elim other [
        | inl e ↦ absurd (not_between d passable e)
        | inr e ↦ (1, cell 2 ∷ [], omega arith, refl, (0, omega arith, ap cell (sym e) ∙ sym f.is))
      ]
    ]

lone_cells_rise : (i j : ℕ) (d : List Cell) → i < j → j < 2 → ComesBefore (first_of (get_or lone_cells i d)) (first_of (get_or lone_cells j d))
lone_cells_rise zero (suc zero) d order less = inr (refl, omega arith)
lone_cells_rise i j d order less = absurd (omega arith)

lone_kept : (label : ℕ) → label < 2 → IsKeptAs Rows (component_at lone_cells label) (comp_at (lone 0 ∷ lone 2 ∷ []) label)
lone_kept zero less = record { kind = refl; cells = refl; whole = lone_is_comp 0 (omega arith) }
lone_kept (suc zero) less = record { kind = refl; cells = refl; whole = lone_is_comp 2 (omega arith) }
lone_kept (suc (suc label)) less = absurd (omega arith)

pub parted_database : IsDatabase parted Rows (lone 0 ∷ lone 2 ∷ [])
parted_database = record {
  components = lone_cells;
  listed = record { each = lone_components; every_cell = in_lone_cells; in_order = lone_cells_rise };
  whole = refl;
  each = lone_kept;
}

-- ---- the blocked cells of `@@`

abbrev pub blocked : Map
blocked = map_with 2 1 (false ∷ false ∷ [])

none_free : (place : ℕ) → get_or (false ∷ false ∷ []) place false ≡ false
none_free zero = refl
none_free (suc zero) = refl
none_free (suc (suc place)) = refl

pub blocked_database : IsDatabase blocked Rows []
blocked_database = record {
  components = [];
  listed = record {
    each = λ k d less. absurd (omega arith);
    every_cell = λ d passable. absurd (false≢true (sym (none_free (place_of 2 d)) ∙ marked_if_passable 2 1 (false ∷ false ∷ []) d passable));
    in_order = λ i j d order less. absurd (omega arith);
  };
  whole = refl;
  each = λ label less. absurd (omega arith);
}

-- ---- in the tests' own terms

-- what is made of these has just these
pub comp_made : (shared comp wanted : Comp) → shared ≡ comp → comp.kind ≡ wanted.kind → comp.cells ≡ wanted.cells → comp.rows ≡ wanted.rows
    → shared ≡ wanted
comp_made shared comp wanted is k c r = is ∙ (λ i. record { kind = k i; cells = c i; rows = r i })
