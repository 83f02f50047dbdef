-- How long a file is.
use Rattle.std.proofs.Common.{◌≡◌, ℕ, ◌+◌, ◌*◌, ◌^◌, ◌<◌, ◌≤◌, List, [], ◌∷◌, ◌++◌, length, get_or, take, map, All, refl, sym, ap, ◌∙◌, subst, arith}
use Rattle.std.specs.List.{sum_by}
use Rattle.std.proofs.lemmas.List.{get_or-map, get_or_default, length-append, length-map, take_all, take_more}
use Rattle.std.proofs.lemmas.List.Elements.{All-contains}
use Rattle.std.proofs.lemmas.List.Sums.{sum_by-cons, sum_by-le, sum_by_more_le, sum_by_push}
use Rattle.std.proofs.lemmas.Nat.{mul-le}
use Rattle.run_pack.specs.declared.Run.{Run}
use Rattle.run_pack.specs.Runs.{word_of}
use Rattle.moves.specs.declared.Cell.{Cell}
use Rattle.moves.specs.declared.TheConstants.{MAX_PASSABLE}
use Rattle.moves.specs.Maps.{Map, IsPassable, IsWithinLimits, passable_count}
use Rattle.moves.specs.Components.{IsComponent, IsComponentList, first_of}
use Rattle.moves.proofs.RowMajor.{before_differs}
use Rattle.row_store.specs.Comps.{Comp, IsComp}
use Rattle.row_store.proofs.CompLaws.{few_runs}
use Rattle.versions.specs.Databases.{IsVersion, Versioned, comp_at, no_comp}
use Rattle.versions.proofs.Determined.{first_of_component}
use Rattle.path_file.specs.Files.{comps_bytes, file_of, ground_bytes, head_bytes, head_of, row_bytes, rows_bytes, rows_of, runs_bytes, number_bytes, terrain_byte}
use Rattle.path_file.specs.declared.head.Head.{Head}
use Rattle.path_file.proofs.CellLemmas.{apart_few}
use Rattle.path_file.proofs.Numbers.{length-number}

length-runs : (row : List Run) → length (runs_bytes row) ≡ 4 * length row
length-runs [] = refl
length-runs (run ∷ row) = omega (arith, length-append (number_bytes (word_of run)) (runs_bytes row), length-number (word_of run), length-runs row)

length-row_bytes : (row : List Run) → length (row_bytes row) ≡ 4 + 4 * length row
length-row_bytes row = omega (arith, length-append (number_bytes (length row)) (runs_bytes row), length-number (length row), length-runs row)

-- how many bytes the rows of a component take
abbrev pub comp_length : Comp → ℕ
comp_length comp = 4 * (length comp.rows + sum_by length comp.rows)

length-rows : (rows : List (List Run)) → length (rows_bytes rows) ≡ 4 * (length rows + sum_by length rows)
length-rows [] = refl
length-rows (row ∷ rows) = omega (arith, length-append (row_bytes row) (rows_bytes rows), length-row_bytes row, length-rows rows, sum_by-cons length row rows)

length-comps : (comps : List Comp) → length (comps_bytes (map (λ comp. comp.rows) comps)) ≡ sum_by comp_length comps
length-comps [] = refl
length-comps (comp ∷ comps) =
    omega (arith, length-append (rows_bytes comp.rows) (comps_bytes (map (λ c. c.rows) comps)), length-rows comp.rows, length-comps comps, sum_by-cons comp_length comp comps)

length-head : (head : Head) → length (head_bytes head) ≡ 21
length-head head = simp (length-append, length-number) refl

pub length-file : (v : Versioned) → length (file_of v) ≡ 21 + length v.map.terrain + sum_by comp_length v.comps
length-file v =
    omega (
      arith,
      length-append (head_bytes (head_of v) ++ ground_bytes v.map.terrain) (comps_bytes (rows_of v)),
      length-append (head_bytes (head_of v)) (ground_bytes v.map.terrain),
      length-head (head_of v),
      length-map v.map.terrain terrain_byte,
      length-comps v.comps,
    )

-- ---- no file is too long to be counted

module _ (m : Map) (limits : IsWithinLimits m.width m.height) (whole : length m.terrain ≡ m.width * m.height) (components : List (List Cell)) (listed : IsComponentList m components) where
  -- there are no more components than passable cells
  comps_few : length components ≤ passable_count m
  comps_few =
      let long = length-map components first_of in
      let firsts = apart_few m limits whole (map first_of components)
      (λ i j d less within same.
      let before = listed.in_order i j [] less (omega arith) in
      before_differs (first_of (get_or components i [])) (first_of (get_or components j [])) before
      (sym (get_or-map first_of components i [] d (omega arith)) ∙ same ∙ get_or-map first_of components j [] d (omega arith)))
      (λ k d within.
      let inside : k < length components = omega arith in
      let is : IsComponent m (get_or components k []) = listed.each k [] inside in
      subst (IsPassable m) (sym (get_or-map first_of components k [] d inside))
      (All-contains (IsPassable m) (get_or components k []) (first_of (get_or components k [])) is.passable (first_of_component m (get_or components k []) is))) in
      omega (arith, firsts)

short_comp : (comp : Comp) → IsComp comp → comp_length comp ≤ 4 * (MAX_PASSABLE + MAX_PASSABLE * MAX_PASSABLE)
short_comp comp is = omega (arith, few_runs comp is, is.rows.whole, is.few)

module _ (v : Versioned) (is : IsVersion v) (limits : IsWithinLimits v.map.width v.map.height) (whole : length v.map.terrain ≡ v.map.width * v.map.height) where
  each_short : All (λ comp. comp_length comp ≤ 4 * (MAX_PASSABLE + MAX_PASSABLE * MAX_PASSABLE)) v.comps
  each_short k d less =
      let kept = (is.database.each k less).whole in
      subst (λ c. comp_length c ≤ 4 * (MAX_PASSABLE + MAX_PASSABLE * MAX_PASSABLE)) (get_or_default v.comps k no_comp d less) (short_comp (comp_at v.comps k) kept)

  comps_short : sum_by comp_length v.comps ≤ 2 ^ 60
  comps_short =
      let base = is.database in
      let few = comps_few v.map limits whole base.components base.listed in
      let most = is.searchable in
      let all = sum_by-le comp_length (4 * (MAX_PASSABLE + MAX_PASSABLE * MAX_PASSABLE)) v.comps each_short in
      let product = mul-le (length v.comps) (4 * (MAX_PASSABLE + MAX_PASSABLE * MAX_PASSABLE)) MAX_PASSABLE (4 * (MAX_PASSABLE + MAX_PASSABLE * MAX_PASSABLE)) (omega (arith, base.whole, few, most)) (omega arith) in
      omega (arith, all, product)

  pub count_fits : (k : ℕ) → k < length v.comps → sum_by comp_length (take k v.comps) + comp_length (comp_at v.comps k) ≤ 2 ^ 60
  count_fits k less = omega (arith, sum_by_more_le comp_length v.comps k no_comp less, comps_short)

pub count_more : (comps : List Comp) (k : ℕ) → k < length comps → sum_by comp_length (take (k + 1) comps) ≡ sum_by comp_length (take k comps) + comp_length (comp_at comps k)
count_more comps k less = ap (sum_by comp_length) (take_more comps k no_comp less) ∙ sum_by_push comp_length (take k comps) (comp_at comps k)

pub count_all : (comps : List Comp) (k : ℕ) → length comps ≤ k → sum_by comp_length (take k comps) ≡ sum_by comp_length comps
count_all comps k end = ap (sum_by comp_length) (take_all k comps end)

-- what a component adds
pub comp_adds : (comps : List Comp) (k : ℕ) (comp : Comp) (cells : List Cell) (runs : ℕ) → comp ≡ comp_at comps k → IsComp comp → cells ≡ comp.cells
    → runs ≡ sum_by length comp.rows → 4 * (length cells + runs) ≡ comp_length (comp_at comps k)
comp_adds comps k comp cells runs at is same count =
    let size : length cells ≡ length comp.rows = ap length same ∙ sym is.rows.whole in
    ap (λ n. 4 * (n + runs)) size ∙ ap (λ n. 4 * (length comp.rows + n)) count ∙ ap comp_length at

-- the component of an element of a list
pub comp_of_item : {A : Type 0} (value : A → Comp) (items : List A) (k : ℕ) (item : A) (comp : Comp) → k < length items → item ≡ get_or items k item → comp ≡ value item
    → comp ≡ comp_at (map value items) k
comp_of_item value items k item comp less is at = at ∙ ap value is ∙ sym (get_or-map value items k item no_comp less)

-- and its rows
pub rows_of_item : {A : Type 0} (value : A → Comp) (items : List A) (k : ℕ) (item : A) (comp : Comp) → k < length items → item ≡ get_or items k item → comp ≡ value item
    → rows_bytes comp.rows ≡ rows_bytes (get_or (map (λ c. c.rows) (map value items)) k [])
rows_of_item value items k item comp less is at =
    let long = length-map items value in
    ap (λ (c : Comp). rows_bytes c.rows) (comp_of_item value items k item comp less is at)
    ∙ ap rows_bytes (sym (get_or-map (λ (c : Comp). c.rows) (map value items) k no_comp [] (omega arith)))
