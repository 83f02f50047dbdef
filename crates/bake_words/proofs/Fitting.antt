-- Each word of an image is below what 32 bits count.
use Rattle.std.proofs.Common.{ℕ, suc, ◌+◌, ◌*◌, ◌^◌, ◌<◌, List, [], ◌∷◌, length, get_or, map, sym, subst, inl, inr, arith}
use Rattle.std.specs.List.{All, flat_map, range_with_len}
use Rattle.std.proofs.lemmas.List.Elements.{All-append, All-cons, All-from_get_or, All-map}
use Rattle.std.proofs.lemmas.List.FromFn.{get_or-map-range_with_len, length-map-range_with_len}
use Rattle.moves.specs.Maps.{IsWithinLimits, cell_at, passable_count}
use Rattle.moves.proofs.RowMajor.{place_of_cell_at, row_inside}
use Rattle.cell_order.specs.Orders.{kind_of}
use Rattle.cell_order.proofs.Numbers.{kind_small}
use Rattle.run_pack.specs.Runs.{word_of}
use Rattle.row_store.specs.Rows.{row_at}
use Rattle.row_store.specs.Comps.{Comp, IsComp}
use Rattle.row_store.proofs.CompLaws.{row_kept}
use Rattle.versions.specs.Databases.{Versioned, IsVersion, comp_at, no_comp}
use Rattle.path_image.specs.declared.TheConstants.{MAGIC_PATH, MAGIC_IMAGE, FORM}
use Rattle.path_image.specs.Images.{cell_word, head_of, home_word, homes_of, image_of, image_size, row_start, row_words, starts_of, table_of, table_start}
use Rattle.path_image.proofs.Homes.{home_of_passable, passable_or_not, small_place, word_of_blocked, word_of_home}
use Rattle.path_image.proofs.Sizes.{few_comps, flat_front, runs_size, small_image, small_table, table_size}

-- the number is one that a word can have
abbrev pub IsWord : ℕ → Type 0
IsWord word = word < 2 ^ 32

none_wrong : All IsWord []
none_wrong = λ k d inside. absurd (omega arith)

all_flat : {X : Type 0} (f : X → List ℕ) (xs : List X) (d : X) → ((k : ℕ) → k < length xs → All IsWord (f (get_or xs k d))) → All IsWord (flat_map f xs)
all_flat f [] d each = none_wrong
all_flat f (x ∷ xs) d each = All-append IsWord (f x) (flat_map f xs) (each 0 (omega arith)) (all_flat f xs d (λ k within. each (suc k) (omega arith)))

module _ (comp : Comp) (is : IsComp comp) where
  cells_fit : All IsWord (map cell_word comp.cells)
  cells_fit = All-map IsWord cell_word comp.cells (λ k d inside. (let on = is.on_map k d inside in let column = on.column in let row = on.row in omega arith))

  few_runs : length (flat_map row_words comp.rows) < 2 ^ 32
  few_runs =
      let whole = table_size comp in
      let small = small_table comp is in
      let runs = runs_size comp.rows in
      let few = is.few in
      omega arith

  borders_fit : All IsWord (map (row_start comp.rows) (range_with_len 0 (length comp.cells + 1)))
  borders_fit =
      All-from_get_or IsWord (map (row_start comp.rows) (range_with_len 0 (length comp.cells + 1))) 0 (λ k within.
      (let size = length-map-range_with_len (row_start comp.rows) 0 (length comp.cells + 1) in
      let read = get_or-map-range_with_len (row_start comp.rows) 0 (length comp.cells + 1) k k 0 (omega arith) (omega arith) in
      let front = flat_front row_words comp.rows k in
      let all = few_runs in
      let below : IsWord (row_start comp.rows k) = omega arith in
      subst IsWord (sym read) below))

  row_fits : (place : ℕ) → place < length comp.cells → All IsWord (row_words (row_at comp.rows place))
  row_fits place within =
      let kept = row_kept comp is place within in
      All-map IsWord word_of (row_at comp.rows place) (λ k d inside.
      (let start = kept.starts k d inside in let move = kept.moves k d inside in omega arith))

  table_fits : All IsWord (table_of comp)
  unfolding table_of
  table_fits =
      let whole = is.rows.whole in
      let few = is.few in
      let runs = all_flat row_words comp.rows [] (λ k within. row_fits k (omega arith)) in
      All-cons IsWord (length comp.cells) _ (omega arith)
      (All-append IsWord (map cell_word comp.cells) _ cells_fit
      (All-append IsWord (map (row_start comp.rows) (range_with_len 0 (length comp.cells + 1))) (flat_map row_words comp.rows) borders_fit runs))

module _ (version : Versioned) (is : IsVersion version) (sides : IsWithinLimits version.map.width version.map.height) (prefix : IsWord version.prefix) where
  home_fits : (place : ℕ) → place < version.map.width * version.map.height → IsWord (home_word 0 version.comps (cell_at version.map.width place))
  home_fits place inside =
      let cell = cell_at version.map.width place in
      let back = place_of_cell_at version.map.width place in
      let row = row_inside version.map.width version.map.height cell (rw back inside) in
      let some = sides.some_columns in
      let column : cell.x < version.map.width = omega arith in
      elim (passable_or_not version is cell (record { column = column; row = row })) [
        | inr blocked ↦ (let word = word_of_blocked version is cell blocked in omega arith)
        | inl passable ↦
            (let home = home_of_passable version is cell passable in
            let word = word_of_home version is cell home.0 home.1 home.2 in
            let small = small_place version is cell home.0 home.1 home.2 in
            let within = home.2.within in
            let few = few_comps version is in
            omega arith)
      ]

  homes_fit : All IsWord (homes_of version)
  homes_fit =
      let word : ℕ → ℕ = λ place. home_word 0 version.comps (cell_at version.map.width place) in
      let cells = version.map.width * version.map.height in
      All-from_get_or IsWord (homes_of version) 0 (λ place within.
      (let size = length-map-range_with_len word 0 cells in
      let inside : place < cells = omega arith in
      subst IsWord (sym (get_or-map-range_with_len word 0 cells place place 0 inside (omega arith))) (home_fits place inside)))

  starts_fit : All IsWord (starts_of version)
  starts_fit =
      All-from_get_or IsWord (starts_of version) 0 (λ label within.
      (let size = length-map-range_with_len (table_start version) 0 (length version.comps) in
      let inside : label < length version.comps = omega arith in
      let front = flat_front table_of version.comps label in
      let small = small_image version is sides in
      let below : IsWord (table_start version label) = omega arith in
      subst IsWord (sym (get_or-map-range_with_len (table_start version) 0 (length version.comps) label label 0 inside (omega arith))) below))

  tables_fit : All IsWord (flat_map table_of version.comps)
  tables_fit = all_flat table_of version.comps no_comp (λ label within. table_fits (comp_at version.comps label) (is.database.each label within).whole)

  head_fits : All IsWord (head_of version)
  head_fits =
      let small = small_image version is sides in
      let columns = sides.columns in
      let rows = sides.rows in
      let kind = kind_small version.order in
      let cells = is.searchable in
      let comps = few_comps version is in
      let nine : List ℕ = length version.comps ∷ [] in
      let eight : List ℕ = passable_count version.map ∷ nine in
      let seven : List ℕ = kind_of version.order ∷ eight in
      let six : List ℕ = version.prefix ∷ seven in
      let five : List ℕ = version.map.height ∷ six in
      let four : List ℕ = version.map.width ∷ five in
      let three : List ℕ = image_size version ∷ four in
      let two : List ℕ = FORM ∷ three in
      let one : List ℕ = MAGIC_IMAGE ∷ two in
      All-cons IsWord MAGIC_PATH one (omega arith) (All-cons IsWord MAGIC_IMAGE two (omega arith) (All-cons IsWord FORM three (omega arith)
      (All-cons IsWord (image_size version) four small (All-cons IsWord version.map.width five (omega arith) (All-cons IsWord version.map.height six (omega arith)
      (All-cons IsWord version.prefix seven prefix (All-cons IsWord (kind_of version.order) eight (omega arith)
      (All-cons IsWord (passable_count version.map) nine (omega arith) (All-cons IsWord (length version.comps) [] (omega arith) none_wrong)))))))))

  pub image_fits : All IsWord (image_of version)
  unfolding image_of
  image_fits =
      All-append IsWord (head_of version) _ head_fits
      (All-append IsWord (homes_of version) _ homes_fit (All-append IsWord (starts_of version) (flat_map table_of version.comps) starts_fit tables_fit))
