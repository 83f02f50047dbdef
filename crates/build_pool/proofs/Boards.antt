-- A map whose passable cells are those of a list.
use Prim.Native.Nat.{zero}
use Rattle.std.proofs.Common.{◌≡◌, ℕ, ◌+◌, ◌*◌, ◌<◌, ◌≤◌, ◌↔◌, Bool, true, false, cond, List, [], ◌∷◌, ◌++◌, length, get_or, set, take, replicate, All, count_by, refl, suc, sym, ap, ◌∙◌, subst, inl, inr, arith}
use Rattle.std.specs.List.{Contains}
use Rattle.std.proofs.lemmas.Bool.{cases_eq, false≢true}
use Rattle.std.proofs.lemmas.Nat.{mul-le}
use Rattle.std.proofs.lemmas.List.{get_or-set_same, get_or-set_other, length-set, length-replicate, get_or_default, take_more, take_all}
use Rattle.std.proofs.lemmas.List.Elements.{Contains-push_cases, Contains-push, Contains-append_left}
use Rattle.std.proofs.lemmas.List.Sums.{sum_by-set}
use Rattle.std.proofs.lemmas.List.Folds.{sum_by-replicate}
use Rattle.moves.specs.declared.Cell.{Cell}
use Rattle.moves.specs.declared.TheConstants.{MAX_PASSABLE}
use Rattle.moves.specs.Maps.{Map, IsPassable, IsWithinLimits, IsSearchable, place_of, map_with, passable_count}
use Rattle.moves.specs.ComponentLaws.{HasJust}
use Rattle.moves.proofs.LandMaps.{passable_of_land, land_is_like}
use Rattle.moves.proofs.OneValue.{one_value}
use Rattle.moves.proofs.RowMajor.{same_cell_from_place, place_inside}
use Rattle.build_pool.specs.Places.{IsInSides, LieOnMap}

-- the cells before a place lie inside the sides, which are no greater than those of any map that has all cells
pub record HasSides (cells : List Cell) (width height upto : ℕ) : Type 0 where
  pub inside : (k : ℕ) (d : Cell) → k < upto → IsInSides width height (get_or cells k d)
  pub least : (columns rows : ℕ) → All (IsInSides columns rows) cells → (width ≤ columns) × (height ≤ rows)

pub sides_within : (cells : List Cell) (width height upto : ℕ) → HasSides cells width height upto → 0 < length cells → upto ≡ length cells → LieOnMap cells → IsWithinLimits width height
sides_within cells width height upto p some all on_map =
    let least = p.least on_map.width on_map.height on_map.inside in
    let first = p.inside 0 (record { x = 0; y = 0 }) (omega arith) in
    let left = first.column in
    let top = first.row in
    record {
      some_columns = omega arith;
      some_rows = omega arith;
      columns = omega (arith, least.0, on_map.limits.columns);
      rows = omega (arith, least.1, on_map.limits.rows);
      cells = omega (arith, mul-le width height on_map.width on_map.height least.0 least.1, on_map.limits.cells);
    }

-- the cells before a place are marked, and no others
pub record AreMarked (cells : List Cell) (width height : ℕ) (marks : List Bool) (upto : ℕ) : Type 0 where
  pub whole : length marks ≡ width * height
  pub marked : (c : Cell) → IsInSides width height c → (get_or marks (place_of width c) false ≡ true) ↔ Contains (take upto cells) c
  pub few : count_by (λ mark. mark) marks ≤ upto

pub marked_none : (cells : List Cell) (width height : ℕ) (marks : List Bool) → marks ≡ replicate (width * height) false → AreMarked cells width height marks 0
marked_none cells width height marks blank = record {
  whole = ap length blank ∙ length-replicate (width * height) false;
  marked = λ c inside. (
    λ mark. absurd (false≢true (sym (ap (λ xs. get_or xs (place_of width c) false) blank ∙ one_value (width * height) (place_of width c) false) ∙ mark)),
    λ has. absurd (let none = has.1 in omega arith),
  );
  few = let none = sum_by-replicate (λ (mark : Bool). cond {A = ℕ} mark 1 0) (width * height) false in rw blank (omega (arith, none));
}

module _ (cells : List Cell) (width height : ℕ) (marks : List Bool) (upto : ℕ) (p : AreMarked cells width height marks upto)
    (all : All (IsInSides width height) cells) (less : upto < length cells) (cell : Cell) (at : cell ≡ get_or cells upto cell) where
  cell_inside : IsInSides width height cell
  cell_inside = subst (IsInSides width height) (sym at) (all upto cell less)

  below : place_of width cell < length marks
  below = omega (arith, p.whole, place_inside width height cell cell_inside.column cell_inside.row)

  more : take (upto + 1) cells ≡ take upto cells ++ cell ∷ []
  more = take_more cells upto cell less ∙ ap (λ c. take upto cells ++ c ∷ []) (sym at)

  pub marked_more : AreMarked cells width height (set marks (place_of width cell) true) (upto + 1)
  marked_more = record {
    whole = length-set marks (place_of width cell) true ∙ p.whole;
    marked = λ c inside. rw more
        (elim (cases_eq (place_of width c) (place_of width cell)) [
          | inl same ↦
              let is : c ≡ cell = same_cell_from_place width c cell inside.column cell_inside.column same in (
                λ _. subst (Contains (take upto cells ++ cell ∷ [])) (sym is) (Contains-push (take upto cells) cell),
                λ _. ap (λ k. get_or (set marks (place_of width cell) true) k false) same ∙ get_or-set_same marks (place_of width cell) true false below,
              )
          | inr other ↦
              let read = get_or-set_other marks (place_of width cell) (place_of width c) true false other in (
                λ mark. Contains-append_left (take upto cells) (cell ∷ []) c ((p.marked c inside).0 (sym read ∙ mark)),
                λ has. elim (Contains-push_cases (take upto cells) cell c has) [
                  | inl before ↦ read ∙ (p.marked c inside).1 before
                  | inr is ↦ absurd (other (ap (place_of width) (sym is)))
                ],
              )
        ]);
    few = omega (arith, p.few, sum_by-set (λ mark. cond {A = ℕ} mark 1 0) marks (place_of width cell) true false below);
  }

-- all cells are marked
module _ (cells : List Cell) (width height : ℕ) (marks : List Bool) (upto : ℕ) (p : AreMarked cells width height marks upto)
    (all : All (IsInSides width height) cells) (end : upto ≡ length cells) where
  whole : take upto cells ≡ cells
  whole = take_all upto cells (omega arith)

  free_if_in : (c : Cell) → Contains cells c → IsPassable (map_with width height marks) c
  free_if_in c has =
      let inside : IsInSides width height c = subst (IsInSides width height) has.2 (all has.0 c has.1) in
      record {
        inside = record { column = inside.column; row = inside.row };
        passable = ap (λ ms. get_or ms (place_of width c) false) (passable_of_land width height marks)
            ∙ (p.marked c inside).1 (subst (λ xs. Contains xs c) (sym whole) has);
      }

  in_if_free : (c : Cell) → IsPassable (map_with width height marks) c → Contains cells c
  in_if_free c free =
      let inside : IsInSides width height c = record { column = free.inside.column; row = free.inside.row } in
      subst (λ xs. Contains xs c) whole
      ((p.marked c inside).0 (sym (ap (λ ms. get_or ms (place_of width c) false) (passable_of_land width height marks)) ∙ free.passable))

  pub just_marked : HasJust (map_with width height marks) cells
  just_marked = record {
    just_these = λ c. (in_if_free c, free_if_in c);
    one_class = λ c d in_c in_d. land_is_like width height marks c d (free_if_in c in_c) (free_if_in d in_d);
  }

  pub few_marked : length cells ≤ MAX_PASSABLE → IsSearchable (map_with width height marks)
  few_marked few =
      let same : passable_count (map_with width height marks) ≡ count_by (λ mark. mark) marks =
      ap (count_by (λ mark. mark)) (passable_of_land width height marks) in
      omega (arith, p.few)

-- there is a map that has just these cells
marks_upto : (cells : List Cell) (width height : ℕ) → All (IsInSides width height) cells
    → (upto : ℕ) → upto ≤ length cells → (marks : List Bool) × AreMarked cells width height marks upto
marks_upto cells width height all zero few = (replicate (width * height) false, marked_none cells width height (replicate (width * height) false) refl)
marks_upto cells width height all (suc upto) few =
    let before = marks_upto cells width height all upto (omega arith) in
    let cell = get_or cells upto (record { x = 0; y = 0 }) in
    let less : upto < length cells = omega arith in
    let next : upto + 1 ≡ suc upto = omega arith in
    let marked = marked_more cells width height before.0 upto before.1 all less cell (get_or_default cells upto (record { x = 0; y = 0 }) cell less) in
    (set before.0 (place_of width cell) true, subst (AreMarked cells width height (set before.0 (place_of width cell) true)) next marked)

pub some_map : (cells : List Cell) → LieOnMap cells → (map : Map) × HasJust map cells
some_map cells p =
    let marks = marks_upto cells p.width p.height p.inside (length cells) (omega arith) in
    (map_with p.width p.height marks.0, just_marked cells p.width p.height marks.0 (length cells) marks.1 p.inside refl)
