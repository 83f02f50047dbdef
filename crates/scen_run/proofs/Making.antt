-- The cells of a made map, one by one.
use Rattle.std.proofs.Common.{◌≡◌, ℕ, ◌+◌, ◌*◌, ◌<◌, ◌≤◌, Bool, true, false, not, cond, List, [], ◌∷◌, ◌++◌, length, get_or, map, take, count_by, refl, sym, ap, subst, ◌∙◌, zero-add, inl, inr, arith}
use Rattle.std.specs.List.{range_with_len}
use Rattle.std.proofs.lemmas.List.FromFn.{map-range_with_len_more, take-map-range_with_len, get_or-map-range_with_len, length-map-range_with_len}
use Rattle.std.proofs.lemmas.List.Sums.{sum_by_push, sum_by-take-le}
use Rattle.std.proofs.lemmas.Nat.{mod_below}
use Rattle.std.proofs.lemmas.Bool.{cases_eq}
use Rattle.std.specs.Int.{from_bool}
use Rattle.moves.specs.declared.Cell.{Cell}
use Rattle.moves.specs.declared.TheConstants.{MAX_PASSABLE}
use Rattle.moves.specs.Maps.{IsWithinLimits, IsSearchable, cell_at, passable_of, place_of}
use Rattle.moves.proofs.LandMaps.{passable_if_marked, passable_of_land}
use Rattle.moves.proofs.RowMajor.{place_of_cell_at, row_inside}
use Rattle.scen_run.specs.Made.{formula_map, is_blocked_at, is_free_at, IsTooMany}

abbrev counted : List Bool → ℕ
counted cells = count_by (λ passable. passable) cells

-- the cells up to a place are those of the formula, and so many of them are passable
pub record IsMadeTo (width seed place free : ℕ) (cells : List Bool) : Type 0 where
  pub cells_are : cells ≡ map (is_free_at width seed) (range_with_len 0 place)
  pub counts : free ≡ counted cells
  pub few : free ≤ MAX_PASSABLE

pub made_none : (width seed : ℕ) → IsMadeTo width seed 0 0 []
made_none width seed = record { cells_are = refl; counts = refl; few = omega arith }

module _ (width seed place free : ℕ) (cells : List Bool) (p : IsMadeTo width seed place free cells) where
  pub made_more : (passable : Bool) → passable ≡ is_free_at width seed place → free + cond {A = ℕ} passable 1 0 ≤ MAX_PASSABLE
      → IsMadeTo width seed (place + 1) (free + cond {A = ℕ} passable 1 0) (cells ++ passable ∷ [])
  made_more passable is few = record {
    cells_are =
        ap (λ b. cells ++ b ∷ []) is ∙ ap (λ cs. cs ++ is_free_at width seed place ∷ []) p.cells_are
        ∙ sym (map-range_with_len_more (is_free_at width seed) 0 place place (zero-add place));
    counts = (let more = sum_by_push (λ (b : Bool). cond {A = ℕ} b 1 0) cells passable in let counts = p.counts in omega (arith, more, counts));
    few = few;
  }

  pub made_long : length cells ≡ place
  made_long = ap length p.cells_are ∙ length-map-range_with_len (is_free_at width seed) 0 place

  one_or_none : (b : Bool) → from_bool b ≡ cond {A = ℕ} b 1 0
  one_or_none true = refl
  one_or_none false = refl

  few_more : (passable : Bool) → (passable ≡ true → free ≡ MAX_PASSABLE → ⊥) → free + cond {A = ℕ} passable 1 0 ≤ MAX_PASSABLE
  few_more true apart = elim (cases_eq free MAX_PASSABLE) [ inl same ↦ absurd (apart refl same) | inr other ↦ (let few = p.few in omega arith) ]
  few_more false apart = let few = p.few in omega arith

  -- whether the cell that stands at the place is passable
  pub free_is : (cell : Cell) (blocked : Bool) → cell ≡ cell_at width place → blocked ≡ is_blocked_at seed cell.x cell.y
      → not blocked ≡ is_free_at width seed place
  free_is cell blocked cell-is blocked-is = ap not (blocked-is ∙ ap (λ (c : Cell). is_blocked_at seed c.x c.y) cell-is)

  -- one cell more
  pub made_next : (cell : Cell) (blocked : Bool) (step : ℕ) (next : List Bool) → cell ≡ cell_at width place → blocked ≡ is_blocked_at seed cell.x cell.y
      → step ≡ from_bool (not blocked) → next ≡ cells ++ not blocked ∷ [] → (not blocked ≡ true → free ≡ MAX_PASSABLE → ⊥)
      → IsMadeTo width seed (place + 1) (free + step) next
  made_next cell blocked step next cell-is blocked-is step-is next-is apart =
      let count = step-is ∙ one_or_none (not blocked) in
      subst (λ n. IsMadeTo width seed (place + 1) (free + n) next) (sym count)
      (subst (IsMadeTo width seed (place + 1) (free + cond {A = ℕ} (not blocked) 1 0)) (sym next-is)
      (made_more (not blocked) (free_is cell blocked cell-is blocked-is) (few_more (not blocked) apart)))

  module _ (height : ℕ) (limits : IsWithinLimits width height) where
    abbrev all : List Bool
    all = map (is_free_at width seed) (range_with_len 0 (width * height))

    marked : passable_of (formula_map width height seed) ≡ all
    marked = passable_of_land width height all

    pub made_all : place ≡ width * height → (cells ≡ all) × IsSearchable (formula_map width height seed)
    made_all end =
        let same : cells ≡ all = p.cells_are ∙ ap (λ n. map (is_free_at width seed) (range_with_len 0 n)) end in
        (same, let counts = p.counts ∙ ap counted (same ∙ sym marked) in let few = p.few in omega arith)

    module _ (inside : place < width * height) (passable : is_free_at width seed place ≡ true) (full : free ≡ MAX_PASSABLE) where
      cells_before : take place all ≡ cells
      cells_before = take-map-range_with_len (is_free_at width seed) 0 (width * height) place (omega arith) ∙ sym p.cells_are

      cells_with : take (place + 1) all ≡ cells ++ true ∷ []
      cells_with =
          take-map-range_with_len (is_free_at width seed) 0 (width * height) (place + 1) (omega arith)
          ∙ map-range_with_len_more (is_free_at width seed) 0 place place (zero-add place)
          ∙ ap (λ cs. cs ++ is_free_at width seed place ∷ []) (sym p.cells_are)
          ∙ ap (λ b. cells ++ b ∷ []) passable

      pub made_too_many : (IsSearchable (formula_map width height seed) → ⊥) × IsTooMany (formula_map width height seed) (cell_at width place)
      made_too_many =
          let at = place_of_cell_at width place in
          let column = mod_below place width limits.some_columns in (
            λ few.
                let more = sum_by_push (λ (b : Bool). cond {A = ℕ} b 1 0) cells true in
                let part = sum_by-take-le (λ (b : Bool). cond {A = ℕ} b 1 0) all (place + 1) in
                let same = ap counted cells_with in
                let counts = p.counts in
                omega (arith, more, part, same, counts, full, few, ap counted marked),
            record {
              passable = passable_if_marked width height all (cell_at width place)
                  (record { column = column; row = row_inside width height (cell_at width place) (subst (λ n. n < width * height) (sym at) inside) })
                  (ap (λ n. get_or all n false) at
                  ∙ get_or-map-range_with_len (is_free_at width seed) 0 (width * height) place place false inside (zero-add place) ∙ passable);
              before = ap (λ marks. counted (take (place_of width (cell_at width place)) marks)) marked
                  ∙ ap (λ n. counted (take n all)) at ∙ ap counted cells_before ∙ sym p.counts ∙ full;
            },
          )
