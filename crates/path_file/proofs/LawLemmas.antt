-- The bytes of a version's file, taken apart.
use Rattle.std.proofs.Common.{◌≡◌, ℕ, ◌*◌, ◌^◌, ◌<◌, ◌≤◌, List, [], ◌∷◌, ◌++◌, length, get_or, take, drop, All, refl, sym, ap, ◌∙◌, subst, append_assoc, arith}
use Rattle.std.proofs.lemmas.List.{append-nil, append_cancel_left, get_or-map, get_or_default, length-map, drop_all, take_all}
use Rattle.std.proofs.lemmas.List.Concat.{flat_map_single}
use Rattle.run_pack.specs.declared.Run.{Run}
use Rattle.run_pack.specs.Runs.{IsRow, no_run, run_of_word, word_of}
use Rattle.run_pack.proofs.RowLemmas.{length-row, start_at-inside}
use Rattle.run_pack.proofs.Words.{All-move_below, run_of_word-word_of}
use Rattle.moves.specs.declared.Cell.{Cell}
use Rattle.moves.specs.declared.Terrain.{Terrain}
use Rattle.moves.specs.declared.Terrain.TheVariants.{Blocked, Land, Water}
use Rattle.moves.specs.declared.TheConstants.{MAX_PASSABLE}
use Rattle.moves.specs.Maps.{map_of}
use Rattle.moves.specs.Components.{IsComponentList}
use Rattle.cell_order.specs.declared.OrderKind.{OrderKind}
use Rattle.cell_order.specs.declared.OrderKind.TheVariants.{Rows, Dfs}
use Rattle.cell_order.specs.Orders.{kind_of, ordered}
use Rattle.row_store.specs.Comps.{Comp, IsComp}
use Rattle.row_store.specs.Rows.{row_at}
use Rattle.versions.specs.Databases.{Versioned, component_at, comp_at, no_comp}
use Rattle.versions.proofs.Determined.{same_components}
use Rattle.path_file.specs.declared.head.Head.{Head}
use Rattle.path_file.specs.Files.{HasFile, comps_bytes, file_of, ground_bytes, head_bytes, head_of, mark, number_bytes, prefix_bytes, row_bytes, rows_bytes, rows_of, run_bytes, runs_bytes, sides_bytes, terrain_byte, width_bytes}
use Rattle.path_file.specs.Fields.{AreComps, AreFileRows, IsFileRow, IsHead, map_from, rows_at}
use Rattle.path_file.proofs.Aligning.{aligned, aligned_whole}
use Rattle.path_file.proofs.CellLemmas.{can_be_ordered, count_is_free, ordered_same, ordered_size}
use Rattle.path_file.proofs.Numbers.{numbers_first}

-- ---- elements that are told apart by their bytes

pub terrain_apart : (x y : Terrain) → terrain_byte x ≡ terrain_byte y → x ≡ y
terrain_apart Blocked Blocked e = refl
terrain_apart Blocked Land e = absurd (omega (arith, e))
terrain_apart Blocked Water e = absurd (omega (arith, e))
terrain_apart Land Blocked e = absurd (omega (arith, e))
terrain_apart Land Land e = refl
terrain_apart Land Water e = absurd (omega (arith, e))
terrain_apart Water Blocked e = absurd (omega (arith, e))
terrain_apart Water Land e = absurd (omega (arith, e))
terrain_apart Water Water e = refl

pub same_head : {a b : ℕ} {xs ys : List ℕ} → a ∷ xs ≡ b ∷ ys → a ≡ b
same_head {a} e = ap (λ l. get_or l 0 a) e

pub same_tail : {a b : ℕ} {xs ys : List ℕ} → a ∷ xs ≡ b ∷ ys → xs ≡ ys
same_tail e = ap (drop 1) e

abbrev one_byte : Terrain → List ℕ
one_byte t = terrain_byte t ∷ []

bytes_apart : (x y : Terrain) (a b : List ℕ) → Unit {0} → one_byte x ++ a ≡ one_byte y ++ b → (x ≡ y) × (a ≡ b)
bytes_apart x y a b any e = (terrain_apart x y (same_head e), same_tail e)

pub order_apart : (x y : OrderKind) → kind_of x ≡ kind_of y → x ≡ y
order_apart Rows Rows e = refl
order_apart Rows Dfs e = absurd (omega (arith, e))
order_apart Dfs Rows e = absurd (omega (arith, e))
order_apart Dfs Dfs e = refl

-- a run that a word can keep
pub record IsKeptRun (run : Run) : Type 0 where
  pub word : word_of run < 2 ^ 32
  pub move : run.mv < 8

pub record AreKeptRuns (x y : Run) : Type 0 where
  pub left : IsKeptRun x
  pub right : IsKeptRun y

pub runs_apart : (x y : Run) (a b : List ℕ) → AreKeptRuns x y → run_bytes x ++ a ≡ run_bytes y ++ b → (x ≡ y) × (a ≡ b)
runs_apart x y a b kept e =
    let both = numbers_first (word_of x) (word_of y) a b kept.left.word kept.right.word e in
    (sym (run_of_word-word_of x kept.left.move) ∙ ap run_of_word both.0 ∙ run_of_word-word_of y kept.right.move, both.1)

-- a row of such runs, not too many
pub record IsKeptRow (row : List Run) : Type 0 where
  pub long : length row < 2 ^ 32
  pub each : All IsKeptRun row

pub record AreKeptRows (x y : List Run) : Type 0 where
  pub left : IsKeptRow x
  pub right : IsKeptRow y

pub rows_apart : (x y : List Run) (a b : List ℕ) → AreKeptRows x y → row_bytes x ++ a ≡ row_bytes y ++ b → (x ≡ y) × (a ≡ b)
rows_apart x y a b kept e =
    let both = numbers_first (length x) (length y) (runs_bytes x ++ a) (runs_bytes y ++ b) kept.left.long kept.right.long
    (sym (append_assoc (number_bytes (length x)) (runs_bytes x) a) ∙ e ∙ append_assoc (number_bytes (length y)) (runs_bytes y) b) in
    let size = both.0 in
    aligned_whole run_bytes AreKeptRuns runs_apart x y a b size (λ k d less. record { left = kept.left.each k d less; right = kept.right.each k d (omega arith) }) both.1

-- rows of two components of one size
pub record AreKeptComps (x y : List (List Run)) : Type 0 where
  pub size : length x ≡ length y
  pub left : All IsKeptRow x
  pub right : All IsKeptRow y

pub comps_apart : (x y : List (List Run)) (a b : List ℕ) → AreKeptComps x y → rows_bytes x ++ a ≡ rows_bytes y ++ b → (x ≡ y) × (a ≡ b)
comps_apart x y a b kept e =
    let size = kept.size in
    aligned_whole row_bytes AreKeptRows rows_apart x y a b size (λ k d less. record { left = kept.left k d less; right = kept.right k d (omega arith) }) e

-- the rows of a file can be kept
pub kept_row : (cells : ℕ) (row : List Run) → cells ≤ MAX_PASSABLE → IsFileRow cells row → IsKeptRow row
kept_row cells row few p = record {
  long = omega (arith, length-row row cells p.is_row);
  each = λ k d less.
      (let start = start_at-inside row cells p.is_row k less in
      let same : (get_or row k no_run).start ≡ (get_or row k d).start = ap (λ (r : Run). r.start) (get_or_default row k no_run d less) in
      let move = p.moves k d less in
      record { word = omega arith; move = move });
}

pub kept_rows : (cells : ℕ) (rows : List (List Run)) → cells ≤ MAX_PASSABLE → All (IsFileRow cells) rows → All IsKeptRow rows
kept_rows cells rows few each k d less = kept_row cells (get_or rows k d) few (each k d less)

-- ---- the parts of a file

module _ (v : Versioned) (p : HasFile v) where
  abbrev pub own_comps : List ℕ
  own_comps = comps_bytes (rows_of v)

  abbrev pub own_ground : List ℕ
  own_ground = ground_bytes v.map.terrain ++ own_comps

  abbrev pub own_order : List ℕ
  own_order = kind_of v.order ∷ own_ground

  abbrev pub own_prefix : List ℕ
  own_prefix = number_bytes v.prefix ++ own_order

  abbrev pub own_height : List ℕ
  own_height = number_bytes v.map.height ++ own_prefix

  abbrev pub own_width : List ℕ
  own_width = number_bytes v.map.width ++ own_height

  pub whole_is : file_of v ≡ mark ++ own_width
  whole_is =
      append_assoc (head_bytes (head_of v)) (ground_bytes v.map.terrain) own_comps
      ∙ append_assoc (prefix_bytes v.map.width v.map.height v.prefix) (kind_of v.order ∷ []) own_ground
      ∙ append_assoc (sides_bytes v.map.width v.map.height) (number_bytes v.prefix) own_order
      ∙ append_assoc (width_bytes v.map.width) (number_bytes v.map.height) own_prefix
      ∙ append_assoc mark (number_bytes v.map.width) own_height

  pub after_mark : (rest : List ℕ) → file_of v ≡ mark ++ rest → rest ≡ own_width
  after_mark rest same = append_cancel_left mark rest own_width (sym same ∙ whole_is)

  pub after_width : (width : ℕ) (rest : List ℕ) → width < 2 ^ 32 → file_of v ≡ width_bytes width ++ rest → (width ≡ v.map.width) × (rest ≡ own_height)
  after_width width rest small same =
      numbers_first width v.map.width rest own_height small (omega (arith, p.limits.columns))
      (after_mark (number_bytes width ++ rest) (same ∙ append_assoc mark (number_bytes width) rest))

  pub after_height : (width height : ℕ) (rest : List ℕ) → width < 2 ^ 32 → height < 2 ^ 32 → file_of v ≡ sides_bytes width height ++ rest
      → (width ≡ v.map.width) × (height ≡ v.map.height) × (rest ≡ own_prefix)
  after_height width height rest small low same =
      let first = after_width width (number_bytes height ++ rest) small (same ∙ append_assoc (width_bytes width) (number_bytes height) rest) in
      let next = numbers_first height v.map.height rest own_prefix low (omega (arith, p.limits.rows)) first.1 in
      (first.0, next.0, next.1)

  pub after_prefix : (width height prefix : ℕ) (rest : List ℕ) → width < 2 ^ 32 → height < 2 ^ 32 → prefix < 2 ^ 32 → file_of v ≡ prefix_bytes width height prefix ++ rest
      → (width ≡ v.map.width) × (height ≡ v.map.height) × (prefix ≡ v.prefix) × (rest ≡ own_order)
  after_prefix width height prefix rest small low few same =
      let first = after_height width height (number_bytes prefix ++ rest) small low (same ∙ append_assoc (sides_bytes width height) (number_bytes prefix) rest) in
      let next = numbers_first prefix v.prefix rest own_order few p.edits first.2 in
      (first.0, first.1, next.0, next.1)

  pub after_head : (head : Head) (rest : List ℕ) → IsHead head → file_of v ≡ head_bytes head ++ rest → (head ≡ head_of v) × (rest ≡ own_ground)
  after_head head rest is same =
      let first = after_prefix head.width head.height head.prefix (kind_of head.order ∷ rest) (omega (arith, is.limits.columns)) (omega (arith, is.limits.rows)) is.prefix
      (same ∙ append_assoc (prefix_bytes head.width head.height head.prefix) (kind_of head.order ∷ []) rest) in
      let order = order_apart head.order v.order (same_head first.3) in
      (λ i. record { width = first.0 i; height = first.1 i; prefix = first.2 i; order = order i }, same_tail first.3)

  pub after_ground : (head : Head) (cells : List Terrain) (rest : List ℕ) → IsHead head → length cells ≤ head.width * head.height
      → file_of v ≡ (head_bytes head ++ ground_bytes cells) ++ rest
      → (head ≡ head_of v) × (cells ≡ take (length cells) v.map.terrain) × (rest ≡ ground_bytes (drop (length cells) v.map.terrain) ++ own_comps)
  after_ground head cells rest is fits same =
      let first = after_head head (ground_bytes cells ++ rest) is (same ∙ append_assoc (head_bytes head) (ground_bytes cells) rest) in
      let size : head.width * head.height ≡ v.map.width * v.map.height = ap (λ (h : Head). h.width * h.height) first.0 in
      let ground = aligned one_byte (λ x y. Unit {0}) bytes_apart cells v.map.terrain rest own_comps (omega (arith, p.whole)) (λ k d less. tt)
      (ap (λ l. l ++ rest) (flat_map_single terrain_byte cells) ∙ first.1 ∙ ap (λ l. l ++ own_comps) (sym (flat_map_single terrain_byte v.map.terrain))) in
      (first.0, ground.front, ground.behind ∙ ap (λ l. l ++ own_comps) (flat_map_single terrain_byte (drop (length cells) v.map.terrain)))

  -- ---- the rows of its own

  abbrev pub components : List (List Cell)
  components = p.is_version.database.components

  pub listed : IsComponentList v.map components
  listed = p.is_version.database.listed

  pub own_size : length (rows_of v) ≡ length components
  own_size = length-map v.comps (λ comp. comp.rows) ∙ p.is_version.database.whole

  pub few_cells : (label : ℕ) → label < length components → length (component_at components label) ≤ MAX_PASSABLE
  few_cells label less = (can_be_ordered v.map p.limits p.whole (omega (arith, count_is_free v.map, p.is_version.searchable)) components listed label less).few

  comp_rows : (comp : Comp) → IsComp comp → AreFileRows (length comp.cells) comp.rows
  comp_rows comp is = record {
    whole = is.rows.whole;
    each = λ k d less.
        (let row = is.rows.each k (omega (arith, is.rows.whole)) in
        let size = row.first.whole in
        let same : row_at comp.rows k ≡ get_or comp.rows k d = get_or_default comp.rows k [] d less in
        subst (IsFileRow (length comp.cells)) same (record {
          is_row = subst (IsRow (row_at comp.rows k)) size row.tight.row;
          moves = All-move_below (row_at comp.rows k) row.sets row.tight;
        }));
  }

  pub own_rows : (label : ℕ) → label < length components → AreFileRows (length (component_at components label)) (rows_at (rows_of v) label)
  own_rows label less =
      let inside : label < length v.comps = omega (arith, p.is_version.database.whole) in
      let kept = p.is_version.database.each label inside in
      let can = can_be_ordered v.map p.limits p.whole (omega (arith, count_is_free v.map, p.is_version.searchable)) components listed label less in
      let size : length (comp_at v.comps label).cells ≡ length (component_at components label) =
      ap length kept.cells ∙ ordered_size (component_at components label) (ordered v.order (component_at components label)) (ordered_same v.order (component_at components label) can) can in
      subst (AreFileRows (length (component_at components label))) (sym (get_or-map (λ (comp : Comp). comp.rows) v.comps label no_comp [] inside))
      (subst (λ n. AreFileRows n (comp_at v.comps label).rows) size (comp_rows (comp_at v.comps label) kept.whole))

  -- what is known of the file is of this version
  pub record IsOwn (head : Head) (ground : List Terrain) (comps : List (List (List Run))) (given : List (List Cell)) (rest : List ℕ) : Type 0 where
    pub head_is : head ≡ head_of v
    pub ground_is : ground ≡ v.map.terrain
    pub given_is : given ≡ components
    pub comps_are : comps ≡ take (length comps) (rows_of v)
    pub behind : rest ≡ comps_bytes (drop (length comps) (rows_of v))

  pub after_comps : (head : Head) (ground : List Terrain) (comps : List (List (List Run))) (given : List (List Cell)) (rest : List ℕ) → AreComps head ground comps given
      → file_of v ≡ ((head_bytes head ++ ground_bytes ground) ++ comps_bytes comps) ++ rest → IsOwn head ground comps given rest
  after_comps head ground comps given rest are same =
      let first = after_ground head ground (comps_bytes comps ++ rest) are.sides (omega (arith, are.whole)) (same ∙ append_assoc (head_bytes head ++ ground_bytes ground) (comps_bytes comps) rest) in
      let size : head.width * head.height ≡ v.map.width * v.map.height = ap (λ (h : Head). h.width * h.height) first.0 in
      let long : length ground ≡ length v.map.terrain = are.whole ∙ size ∙ sym p.whole in
      let whole : take (length ground) v.map.terrain ≡ v.map.terrain = take_all (length ground) v.map.terrain (omega arith) in
      let ground_is : ground ≡ v.map.terrain = first.1 ∙ whole in
      let none : drop (length ground) v.map.terrain ≡ [] = drop_all (length ground) v.map.terrain (omega arith) in
      let bytes : comps_bytes comps ++ rest ≡ own_comps ++ [] = first.2 ∙ ap (λ ts. ground_bytes ts ++ own_comps) none ∙ sym (append-nil own_comps) in
      let map_is : map_from head ground ≡ v.map =
      ap (λ (h : Head). map_of h.width h.height ground) first.0 ∙ ap (map_of v.map.width v.map.height) ground_is in
      let given_is : given ≡ components = same_components v.map given components (subst (λ m. IsComponentList m given) map_is are.listed) listed in
      let fits : length comps ≤ length (rows_of v) = omega (arith, are.within, ap length given_is, own_size) in
      let rows = aligned rows_bytes AreKeptComps comps_apart comps (rows_of v) rest [] fits
      (λ k d less.
      let here : k < length components = omega (arith, own_size) in
      let few = few_cells k here in
      let mine = subst (λ cs. AreFileRows (length (component_at cs k)) (rows_at comps k)) given_is (are.each k less) in
      let own = own_rows k here in
      subst (λ x. AreKeptComps x (get_or (rows_of v) k d)) (get_or_default comps k [] d less)
      (subst (λ y. AreKeptComps (rows_at comps k) y) (get_or_default (rows_of v) k [] d (omega arith)) (record {
        size = mine.whole ∙ sym own.whole;
        left = kept_rows (length (component_at components k)) (rows_at comps k) few mine.each;
        right = kept_rows (length (component_at components k)) (rows_at (rows_of v) k) few own.each;
      })))
      bytes in
      record {
        head_is = first.0;
        ground_is = ground_is;
        given_is = given_is;
        comps_are = rows.front;
        behind = rows.behind ∙ append-nil (comps_bytes (drop (length comps) (rows_of v)));
      }
