-- A version that is built row by row: a part for each component of its map.
use Rattle.std.proofs.Common.{◌≡◌, ℕ, suc, ◌+◌, ◌-◌, ◌<◌, ◌≤◌, List, [], ◌∷◌, ◌++◌, length, get_or, set, drop, map, Option, None, Some, IfSome, IfNone, All, refl, sym, ap, subst, ◌∙◌, inl, inr, arith}
use Rattle.std.specs.List.{sum_by}
use Rattle.std.specs.List.Sorted.{IsPermutation}
use Rattle.std.specs.Option.{option_map}
use Rattle.std.proofs.lemmas.Bool.{cases_eq, cases_lt}
use Rattle.std.proofs.lemmas.List.{length_push, get_or_push, get_or_append_left, get_or-map, length-map, length-drop, length-set, get_or-set_same, get_or-set_other}
use Rattle.std.proofs.lemmas.List.Elements.{Contains-get_or, All-from_get_or}
use Rattle.std.proofs.lemmas.List.Sorted.{IsPermutation-sym, length_permutation}
use Rattle.std.proofs.lemmas.List.Sums.{sum_by-set, sum_by-le, sum_by-append, sum_by-cons, sum_by_more_le}
use Rattle.std.proofs.Math.Seq.{drop-cons}
use Rattle.run_pack.specs.declared.Run.{Run}
use Rattle.moves.specs.declared.Cell.{Cell}
use Rattle.moves.specs.declared.TheConstants.{MAX_PASSABLE}
use Rattle.moves.specs.Maps.{Map, IsSearchable}
use Rattle.moves.specs.Components.{IsComponent, IsComponentList}
use Rattle.moves.specs.ComponentLaws.{HasJust}
use Rattle.moves.specs.FirstSetLists.{cell_of}
use Rattle.cell_order.specs.declared.OrderKind.{OrderKind}
use Rattle.cell_order.specs.Orders.{ordered}
use Rattle.cell_order.proofs.Permuted.{orders_are_permutations}
use Rattle.row_store.specs.Rows.{row_at, IsRowFrom}
use Rattle.row_store.specs.Comps.{Comp, IsComp}
use Rattle.row_store.proofs.RowLaws.{HasJust-permuted, components_keep_each_row}
use Rattle.build_pool.specs.Places.{AreComponent, CanBeBuilt}
use Rattle.build_pool.proofs.Connecting.{IsReady, comp_in_order}
use Rattle.versions.specs.Databases.{IsKeptAs, component_at, no_comp}
use Rattle.version_build.specs.Plans.{ArePrepared, AreComplete, CanAllBeBuilt, cells_missing}
use Rattle.version_build.specs.Builders.{Parted, no_part, part_at, rows_left, part_from, comp_or, comp_of, AreBegun, AreFirstRows, IsPart, IsPartFrom, IsUnderWay, PushesRow}
use Rattle.version_build.proofs.Missing.{missing_in, missing_cons}
use Rattle.version_build.proofs.Onward.{next_less, next_parts, next_value}
use Rattle.version_build.proofs.JustThese.{just_map, just_these_cells}

-- the cells in their order are the same cells
in_order : (order : OrderKind) (component : List Cell) → CanBeBuilt component → IsPermutation (ordered order component) component
in_order order component can = orders_are_permutations order component can.some can.in_order can.connected

-- ---- before the first row

part_begun : (map : Map) (order : OrderKind) (component : List Cell) (comp : Option Comp) → IfSome comp (IsKeptAs order component) → IsPart map order component (part_from order component comp)
part_begun map order component None is = (refl, omega arith, λ place within. absurd (omega arith))
part_begun map order component (Some comp) is = (refl, refl, is)

left_begun : (order : OrderKind) (component : List Cell) (comp : Option Comp) → CanBeBuilt component → rows_left (part_from order component comp) ≡ missing_in component comp
left_begun order component None can = omega (arith, length_permutation (ordered order component) component (in_order order component can))
left_begun order component (Some comp) can = refl

-- some parts are there, and the others are still to be put to them
pub record IsParting {A : Type 0} (value : A → Comp) (order : OrderKind) (components : List (List Cell)) (all rest : List (Option A)) (parts : List Parted) : Type 0 where
  pub taken : rest ≡ drop (length parts) all
  pub few : length parts ≤ length all
  pub each : (label : ℕ) → label < length parts → part_at parts label ≡ part_from order (component_at components label) (get_or (map (option_map value) all) label None)
  pub left : sum_by rows_left parts + cells_missing (drop (length parts) components) (map (option_map value) rest) ≡ cells_missing components (map (option_map value) all)

pub parting_none : {A : Type 0} (value : A → Comp) (order : OrderKind) (components : List (List Cell)) (all : List (Option A)) → IsParting value order components all all []
parting_none value order components all = record { taken = refl; few = omega arith; each = λ label less. absurd (omega arith); left = omega arith }

module _ {A : Type 0} (value : A → Comp) (order : OrderKind) (components : List (List Cell)) (all rest : List (Option A)) (known : Option A) (parts : List Parted)
    (p : IsParting value order components all (known ∷ rest) parts) where
  pub part_less : length parts < length all
  part_less = next_less all rest known (length parts) p.taken

  pub parting_more : (part : Parted) → length all ≡ length components → CanAllBeBuilt components
      → part ≡ part_from order (component_at components (length parts)) (option_map value known)
      → IsParting value order components all rest (parts ++ part ∷ [])
  parting_more part long can is =
      let here : length parts < length components = omega (arith, part_less) in
      let next : suc (length parts) ≡ length (parts ++ part ∷ []) = omega (arith, length_push parts part) in
      let read : get_or (map (option_map value) all) (length parts) None ≡ option_map value known =
      next_value all rest known (length parts) p.taken value in
      let cells : drop (length parts) components ≡ component_at components (length parts) ∷ drop (suc (length parts)) components = drop-cons components (length parts) [] here in
      let now : rows_left part ≡ missing_in (component_at components (length parts)) (option_map value known) =
      ap rows_left is ∙ left_begun order (component_at components (length parts)) (option_map value known) (can (length parts) here) in
      record {
        taken = ap (drop 1) (next_parts all rest known (length parts) p.taken) ∙ ap (λ n. drop n all) next;
        few = omega (arith, length_push parts part, part_less);
        each = λ label less.
            elim (cases_lt label (length parts)) [
              | inl early ↦ get_or_append_left parts (part ∷ []) no_part label early ∙ p.each label early
              | inr late ↦
                  let same : length parts ≡ label = omega (arith, length_push parts part) in
                  get_or_push parts part no_part label same ∙ is ∙ sym (ap (part_from order (component_at components (length parts))) read)
                  ∙ ap (λ n. part_from order (component_at components n) (get_or (map (option_map value) all) n None)) same
            ];
        left =
            let before = p.left in
            let cut = ap (λ cs. cells_missing cs (map (option_map value) (known ∷ rest))) cells in
            let one = missing_cons (component_at components (length parts)) (drop (suc (length parts)) components) (option_map value known) (map (option_map value) rest) in
            let more = sum_by-append rows_left parts (part ∷ []) in
            let alone = sum_by-cons rows_left part [] in
            let rest_of = ap (λ n. cells_missing (drop n components) (map (option_map value) rest)) next in
            omega (arith, before, cut, one, more, alone, rest_of, now);
      }

missing_past : (components : List (List Cell)) → cells_missing components [] ≡ 0
missing_past [] = refl
missing_past (c ∷ cs) = refl

pub parting_all : {A : Type 0} (value : A → Comp) (order : OrderKind) (components : List (List Cell)) (all rest : List (Option A)) (parts : List Parted)
    → IsParting value order components all rest parts → rest ≡ [] → AreBegun order components (map (option_map value) all) parts
parting_all value order components all rest parts p none =
    let size = length-map all (option_map value) in
    let past : cells_missing (drop (length parts) components) (map (option_map value) rest) ≡ 0 =
    ap (λ r. cells_missing (drop (length parts) components) (map (option_map value) r)) none ∙ missing_past (drop (length parts) components) in
    record {
      long = omega (arith, size, ap length (sym p.taken ∙ none), length-drop (length parts) all, p.few);
      each = p.each;
      left = omega (arith, p.left, past);
    }

-- the builder begins
pub under_way_begun : (map : Map) (order : OrderKind) (components : List (List Cell)) (comps : List (Option Comp)) (parts : List Parted) (left : ℕ)
    → IsSearchable map → CanAllBeBuilt components → IsComponentList map components → ArePrepared order components comps → AreBegun order components comps parts → left ≡ cells_missing components comps
    → IsUnderWay map order components parts 0 left
under_way_begun map order components comps parts left searchable can listed prepared begun is = record {
  searchable = searchable;
  ready = can;
  listed = listed;
  long = begun.long ∙ prepared.long;
  each = λ label less.
      subst (IsPart map order (component_at components label)) (sym (begun.each label less))
      (part_begun map order (component_at components label) (get_or comps label None) (prepared.each label (omega (arith, begun.long))));
  done = λ label less. absurd (omega arith);
  left = is ∙ sym begun.left;
}

-- ---- the next row

-- the component of a part that has a row to be built
pub record IsOpen (map : Map) (order : OrderKind) (component : List Cell) (part : Parted) : Type 0 where
  pub component_of : AreComponent map part.cells
  pub few : length part.cells ≤ MAX_PASSABLE
  pub left : length part.rows < length part.cells

open_from : (map : Map) (order : OrderKind) (component cells : List Cell) (rows : List (List Run)) (kept : Option Comp) → IsComponent map component → CanBeBuilt component
    → IsPartFrom map order component cells rows kept → 0 < length cells - length rows → IsOpen map order component (record { kept = kept; cells = cells; rows = rows })
open_from map order component cells rows None is can p some = record {
  component_of = record { component = component; is = is; order = subst (λ c. IsPermutation c component) (sym p.0) (in_order order component can) };
  few = (let size = length_permutation (ordered order component) component (in_order order component can) in let few = can.few in omega (arith, ap length p.0));
  left = omega arith;
}
open_from map order component cells rows (Some comp) is can p some = absurd (let none = ap length p.0 in omega arith)

-- one row more
first_rows_pushed : (map : Map) (cells : List Cell) (rows : List (List Run)) (row : List Run) → AreFirstRows map cells rows → IsRowFrom map cells (cell_of cells (length rows)) row
    → AreFirstRows map cells (rows ++ row ∷ [])
first_rows_pushed map cells rows row first is place within =
    elim (cases_lt place (length rows)) [
      | inl early ↦ (let read : row_at (rows ++ row ∷ []) place ≡ row_at rows place = get_or_append_left rows (row ∷ []) [] place early in rw read (first place early))
      | inr late ↦
          let last : place ≡ length rows = omega (arith, length_push rows row) in
          (let read : row_at (rows ++ row ∷ []) (length rows) ≡ row = get_or_push rows row [] (length rows) refl in rw (last, read) is)
    ]

part_pushed : (map : Map) (order : OrderKind) (component cells : List Cell) (rows : List (List Run)) (kept : Option Comp) (row : List Run)
    → IsPartFrom map order component cells rows kept → length rows < length cells → IsRowFrom map cells (cell_of cells (length rows)) row → IsPartFrom map order component cells (rows ++ row ∷ []) kept
part_pushed map order component cells rows None row p less is =
    let long = length_push rows row in (
      p.0,
      omega (arith, long),
      first_rows_pushed map cells rows row p.2 is,
    )
part_pushed map order component cells rows (Some comp) row p less is = absurd (let none = ap length p.0 in omega arith)

module _ (map : Map) (order : OrderKind) (components : List (List Cell)) (parts : List Parted) (at left : ℕ) (p : IsUnderWay map order components parts at left)
    (label : ℕ) (less : label < length parts) (some : 0 < rows_left (part_at parts label)) where
  pub part_open : IsOpen map order (component_at components label) (part_at parts label)
  part_open =
      let below : label < length components = omega (arith, p.long) in
      open_from map order (component_at components label) (part_at parts label).cells (part_at parts label).rows (part_at parts label).kept
      (p.listed.each label [] below) (p.ready label below) (p.each label less) some

  module _ (done : (k : ℕ) → k < label → rows_left (part_at parts k) ≡ 0) where
    -- the number of the part is found
    pub under_way_found : IsUnderWay map order components parts label left
    under_way_found = record { searchable = p.searchable; ready = p.ready; listed = p.listed; long = p.long; each = p.each; done = done; left = p.left }

    -- one row more
    pub under_way_more : (new : Parted) → PushesRow map (part_at parts label) new → IsUnderWay map order components (set parts label new) label (left - 1)
    under_way_more new push =
        let old : Parted = part_at parts label in
        let after : IsPart map order (component_at components label) new =
        subst (IsPart map order (component_at components label)) (sym push.last)
        (part_pushed map order (component_at components label) old.cells old.rows old.kept push.row (p.each label less) part_open.left push.is) in
        let one : rows_left new + 1 ≡ rows_left old =
        (let cells : length new.cells ≡ length old.cells = ap (λ q. length q.cells) push.last in
        let rows : length new.rows ≡ length old.rows + 1 = ap (λ q. length q.rows) push.last ∙ length_push old.rows push.row in
        let more = part_open.left in
        omega arith) in
        record {
          searchable = p.searchable;
          ready = p.ready;
          listed = p.listed;
          long = length-set parts label new ∙ p.long;
          each = λ k within.
              elim (cases_eq k label) [
                | inl same ↦
                    subst (λ n. IsPart map order (component_at components n) (part_at (set parts label new) n)) (sym same)
                    (subst (IsPart map order (component_at components label)) (sym (get_or-set_same parts label new no_part less)) after)
                | inr other ↦
                    subst (IsPart map order (component_at components k)) (sym (get_or-set_other parts label k new no_part other))
                    (p.each k (omega (arith, length-set parts label new)))
              ];
          done = λ k before. ap rows_left (get_or-set_other parts label k new no_part (λ same. absurd (omega arith))) ∙ done k before;
          left = omega (arith, p.left, sum_by-set rows_left parts label new no_part less, one);
        }

-- where each part before the last has all its rows, none is left
pub none_left : (parts : List Parted) (upto : ℕ) → ((label : ℕ) → label < upto → rows_left (part_at parts label) ≡ 0) → length parts ≤ upto → sum_by rows_left parts ≡ 0
none_left parts upto done all =
    let zero_each : All (λ part. rows_left part ≤ 0) parts = All-from_get_or (λ part. rows_left part ≤ 0) parts no_part (λ k within. let none = done k (omega arith) in omega arith) in
    let sum = sum_by-le rows_left 0 parts zero_each in
    omega arith

-- ---- after the last row

-- and where none is left, each part has all its rows
part_done : (parts : List Parted) → sum_by rows_left parts ≡ 0 → (label : ℕ) → label < length parts → rows_left (part_at parts label) ≡ 0
part_done parts none label less = (let one = sum_by_more_le rows_left parts label no_part less in omega arith)

-- rows of a component over the whole map are rows over its cells alone
rows_alone : (map part : Map) (component cells : List Cell) (rows : List (List Run)) → IsComponent map component → IsPermutation cells component → HasJust part cells
    → length rows ≡ length cells → AreFirstRows map cells rows → (place : ℕ) → place < length cells → IsRowFrom part cells (cell_of cells place) (row_at rows place)
rows_alone map part component cells rows is order just long first place within =
    (components_keep_each_row map component cells part is order just (cell_of cells place) (row_at rows place)
    (Contains-get_or cells place (record { x = 0; y = 0 }) within)).1 (first place (omega arith))

complete_from : (map : Map) (order : OrderKind) (component cells : List Cell) (rows : List (List Run)) (kept : Option Comp) → IsComponent map component → CanBeBuilt component
    → IsPartFrom map order component cells rows kept → length cells - length rows ≡ 0 → IsKeptAs order component (comp_or order cells rows kept)
complete_from map order component cells rows None is can p none =
    let order_of : IsPermutation cells component = subst (λ c. IsPermutation c component) (sym p.0) (in_order order component can) in
    let part : Map = just_map map component in
    let just : HasJust part component = just_these_cells map component is.passable in
    let ready : IsReady part component cells = record { given = record { same = order_of; can = can }; just = just } in
    let just_cells : HasJust part cells = HasJust-permuted part cells component (IsPermutation-sym cells component order_of) just in
    let long : length rows ≡ length cells = (let few = p.1 in omega arith) in
    record {
      kind = refl;
      cells = p.0;
      whole = comp_in_order part component cells ready order rows long (rows_alone map part component cells rows is order_of just_cells long p.2);
    }
complete_from map order component cells rows (Some comp) is can p none = p.2

module _ (m : Map) (order : OrderKind) (components : List (List Cell)) (parts : List Parted) (at left : ℕ) (p : IsUnderWay m order components parts at left) (end : left ≡ 0) where
  pub part_complete : (label : ℕ) → label < length parts → IsKeptAs order (component_at components label) (comp_of order (part_at parts label))
  part_complete label less =
      let below : label < length components = omega (arith, p.long) in
      complete_from m order (component_at components label) (part_at parts label).cells (part_at parts label).rows (part_at parts label).kept
      (p.listed.each label [] below) (p.ready label below) (p.each label less)
      (part_done parts (sym p.left ∙ end) label less)

  -- so the parts can be made components
  pub parts_whole : All (λ part. IfNone part.kept (IsComp (comp_of order part))) parts
  parts_whole = All-from_get_or (λ part. IfNone part.kept (IsComp (comp_of order part))) parts no_part (λ label less. whole_if (part_at parts label).kept (part_complete label less).whole)
    where
      whole_if : {P : Type 0} (kept : Option Comp) → P → IfNone kept P
      whole_if None is = is
      whole_if (Some comp) is = tt

  -- and they are the map's components
  pub parts_complete : AreComplete order components (map (comp_of order) parts)
  parts_complete =
      let size = length-map parts (comp_of order) in
      record {
        long = size ∙ p.long;
        each = λ label less.
            (let within : label < length parts = omega arith in
            subst (IsKeptAs order (component_at components label)) (sym (get_or-map (comp_of order) parts label no_part no_comp within)) (part_complete label within));
      }
