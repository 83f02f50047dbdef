-- How many words an image has.
use Rattle.std.proofs.Common.{◌≡◌, ℕ, suc, ◌+◌, ◌-◌, ◌*◌, ◌^◌, ◌<◌, ◌≤◌, List, [], ◌∷◌, ◌++◌, length, map, get_or, take, drop, sum_by, refl, sym, ap, subst, ◌∙◌, inl, inr, arith}
use Rattle.std.specs.List.{AllPairs, Contains, flat_map, range_with_len}
use Rattle.std.proofs.lemmas.Bool.{cases_lt}
use Rattle.std.proofs.lemmas.List.{length-append, length-map, take-append-drop, get_or_append_left, get_or-append_right}
use Rattle.std.proofs.lemmas.List.FromFn.{length-map-range_with_len}
use Rattle.std.proofs.lemmas.List.Concat.{flat_map-append}
use Rattle.std.proofs.lemmas.List.Elements.{Contains-append_cases, Contains-get_or, All-from_get_or}
use Rattle.std.proofs.lemmas.List.Sums.{sum_by-cons, sum_by-le}
use Rattle.moves.specs.declared.Cell.{Cell}
use Rattle.moves.specs.declared.TheConstants.{MAX_PASSABLE}
use Rattle.moves.specs.Maps.{IsWithinLimits, passable_count, passable_of, place_of}
use Rattle.moves.proofs.RowMajor.{same_cell_from_place}
use Rattle.grid_search.proofs.Counting.{marked_once}
use Rattle.run_pack.specs.declared.Run.{Run}
use Rattle.run_pack.specs.Runs.{word_of}
use Rattle.row_store.specs.Comps.{Comp, IsComp}
use Rattle.row_store.proofs.CompLaws.{row_kept}
use Rattle.versions.specs.Databases.{Versioned, IsVersion, comp_at}
use Rattle.versions.proofs.BestWalks.{one_label}
use Rattle.path_image.specs.Images.{table_of, image_size, cell_word, row_start, row_words}
use Rattle.path_image.proofs.Homes.{passable_in}

-- all cells of some components
abbrev pub flat_cells : List Comp → List Cell
flat_cells comps = flat_map (λ comp. comp.cells) comps

in_flat : (comps : List Comp) (cell : Cell) → Contains (flat_cells comps) cell → (j : ℕ) × (j < length comps) × Contains (comp_at comps j).cells cell
in_flat [] cell h = let inside = h.1 in absurd (omega arith)
in_flat (comp ∷ comps) cell h =
    elim (Contains-append_cases comp.cells (flat_cells comps) cell h) [
      | inl here ↦ (0, omega arith, here)
      | inr there ↦ let r = in_flat comps cell there in let less = r.1 in (suc r.0, omega arith, r.2)
    ]

all_pairs_append : (R : Cell → Cell → Type 0) (xs ys : List Cell) → AllPairs R xs → AllPairs R ys
    → ((x y : Cell) → Contains xs x → Contains ys y → R x y) → AllPairs R (xs ++ ys)
all_pairs_append R xs ys own others cross i j d less inside =
    let size = length-append xs ys in
    elim (cases_lt j (length xs)) [
      | inl left ↦
          let a = get_or_append_left xs ys d i (omega arith) in
          let b = get_or_append_left xs ys d j left in
          rw (a, b) (own i j d less left)
      | inr right ↦
          let b = get_or-append_right xs ys (length xs) j d refl right in
          elim (cases_lt i (length xs)) [
            | inl left ↦
                let a = get_or_append_left xs ys d i left in
                rw (a, b) (cross (get_or xs i d) (get_or ys (j - length xs) d) (Contains-get_or xs i d left) (Contains-get_or ys (j - length xs) d (omega arith)))
            | inr behind ↦
                let a = get_or-append_right xs ys (length xs) i d refl behind in
                rw (a, b) (others (i - length xs) (j - length xs) d (omega arith) (omega arith))
          ]
    ]

module _ (R : Cell → Cell → Type 0) where
  flat_apart : (comps : List Comp) → ((j : ℕ) → j < length comps → AllPairs R (comp_at comps j).cells)
      → ((i j : ℕ) → i < j → j < length comps → (x y : Cell) → Contains (comp_at comps i).cells x → Contains (comp_at comps j).cells y → R x y)
      → AllPairs R (flat_cells comps)
  flat_apart [] own cross = λ i j d less inside. absurd (omega arith)
  flat_apart (comp ∷ comps) own cross =
      all_pairs_append R comp.cells (flat_cells comps) (own 0 (omega arith))
      (flat_apart comps (λ j less. own (suc j) (omega arith)) (λ i j less inside. cross (suc i) (suc j) (omega arith) (omega arith)))
      (λ x y here there. let r = in_flat comps y there in let less = r.1 in cross 0 (suc r.0) (omega arith) (omega arith) x y here r.2)

module _ (version : Versioned) (is : IsVersion version) where
  comp_whole : (label : ℕ) → label < length version.comps → IsComp (comp_at version.comps label)
  comp_whole label within = (is.database.each label within).whole

  -- no two cells of components lie at one place
  places_apart : AllPairs (λ a b. place_of version.map.width a ≡ place_of version.map.width b → ⊥) (flat_cells version.comps)
  places_apart =
      flat_apart (λ a b. place_of version.map.width a ≡ place_of version.map.width b → ⊥) version.comps
      (λ label within i j d less inside same.
      (let comp = comp_at version.comps label in
      let a = passable_in version is label (get_or comp.cells i d) within (Contains-get_or comp.cells i d (omega arith)) in
      let b = passable_in version is label (get_or comp.cells j d) within (Contains-get_or comp.cells j d inside) in
      (comp_whole label within).once i j d less inside
      (same_cell_from_place version.map.width (get_or comp.cells i d) (get_or comp.cells j d) a.inside.column b.inside.column same)))
      (λ i j less within x y here there same.
      (let before : i < length version.comps = omega arith in
      let a = passable_in version is i x before here in
      let b = passable_in version is j y within there in
      let one = same_cell_from_place version.map.width x y a.inside.column b.inside.column same in
      let label = one_label version.map version.order version.comps is.database i j before within y (subst (Contains (comp_at version.comps i).cells) one here) there in
      omega arith))

  -- so there are no more of them than passable ones
  pub few_cells : length (flat_cells version.comps) ≤ passable_count version.map
  few_cells =
      marked_once (place_of version.map.width) (flat_cells version.comps) (passable_of version.map) places_apart
      (λ k d inside.
      (let r = in_flat version.comps (get_or (flat_cells version.comps) k d) (Contains-get_or (flat_cells version.comps) k d inside) in
      (passable_in version is r.0 (get_or (flat_cells version.comps) k d) r.1 r.2).passable))

-- how many runs some rows have
pub runs_size : (rows : List (List Run)) → length (flat_map row_words rows) ≡ sum_by length rows
runs_size [] = refl
runs_size (row ∷ rows) =
    length-append (row_words row) (flat_map row_words rows) ∙ ap (λ n. length (row_words row) + n) (runs_size rows)
    ∙ ap (λ n. n + sum_by length rows) (length-map row word_of) ∙ sym (sum_by-cons length row rows)

-- how many words a table has
pub table_size : (comp : Comp) → length (table_of comp) ≡ 2 * length comp.cells + 2 + sum_by length comp.rows
unfolding table_of
table_size comp =
    let cells = length-map comp.cells cell_word in
    let borders = length-map-range_with_len (row_start comp.rows) 0 (length comp.cells + 1) in
    let runs = runs_size comp.rows in
    let one = length-append (map cell_word comp.cells) (map (row_start comp.rows) (range_with_len 0 (length comp.cells + 1)) ++ flat_map row_words comp.rows) in
    let two = length-append (map (row_start comp.rows) (range_with_len 0 (length comp.cells + 1))) (flat_map row_words comp.rows) in
    omega arith

-- few for each cell
pub small_table : (comp : Comp) → IsComp comp → length (table_of comp) ≤ 32772 * length comp.cells
small_table comp is =
    let short = sum_by-le length MAX_PASSABLE comp.rows
    (All-from_get_or (λ row. length row ≤ MAX_PASSABLE) comp.rows [] (λ k within. (row_kept comp is k (let w = is.rows.whole in omega arith)).few)) in
    let whole = is.rows.whole in
    let some = is.some in
    let size = table_size comp in
    omega arith

pub small_tables : (comps : List Comp) → ((j : ℕ) → j < length comps → IsComp (comp_at comps j))
    → (length (flat_map table_of comps) ≤ 32772 * length (flat_cells comps)) × (length comps ≤ length (flat_cells comps))
small_tables [] each = (omega arith, omega arith)
small_tables (comp ∷ comps) each =
    let rest = small_tables comps (λ j less. each (suc j) (omega arith)) in
    let here = small_table comp (each 0 (omega arith)) in
    let some = (each 0 (omega arith)).some in
    let one = length-append (table_of comp) (flat_map table_of comps) in
    let two = length-append comp.cells (flat_cells comps) in
    (let a = rest.0 in omega arith, let b = rest.1 in omega arith)

-- a map has no more components than passable cells
pub few_comps : (version : Versioned) → IsVersion version → length version.comps ≤ MAX_PASSABLE
few_comps version is =
    let tables = small_tables version.comps (λ j less. (is.database.each j less).whole) in
    let few = few_cells version is in
    let searchable = is.searchable in
    let b = tables.1 in
    omega arith

-- the first of some pieces are no longer than all
pub flat_front : {X : Type 0} (f : X → List ℕ) (xs : List X) (k : ℕ) → length (flat_map f (take k xs)) ≤ length (flat_map f xs)
flat_front f xs k =
    let all = ap (λ ys. length (flat_map f ys)) (sym (take-append-drop k xs)) ∙ ap length (flat_map-append f (take k xs) (drop k xs))
    ∙ length-append (flat_map f (take k xs)) (flat_map f (drop k xs)) in
    omega arith

-- an image has fewer words than a word can count
pub small_image : (version : Versioned) → IsVersion version → IsWithinLimits version.map.width version.map.height → image_size version < 2 ^ 32
small_image version is sides =
    let tables = small_tables version.comps (λ j less. (is.database.each j less).whole) in
    let few = few_cells version is in
    let searchable = is.searchable in
    let cells = sides.cells in
    let a = tables.0 in
    let b = tables.1 in
    omega arith
