-- What is read in the image of a version.
use Rattle.std.proofs.Common.{◌≡◌, ℕ, ◌+◌, ◌*◌, ◌<◌, List, [], ◌∷◌, ◌++◌, length, map, get_or, refl, sym, ap, subst, ◌∙◌, arith}
use Rattle.std.specs.List.{flat_map, range_with_len}
use Rattle.std.proofs.lemmas.List.{length-map, length-append}
use Rattle.std.proofs.lemmas.List.FromFn.{length-map-range_with_len, get_or-map-range_with_len}
use Rattle.moves.specs.declared.Cell.{Cell}
use Rattle.moves.specs.Maps.{IsInside, cell_at, passable_count, place_of}
use Rattle.moves.proofs.RowMajor.{cell_at_place_of, place_inside}
use Rattle.run_pack.specs.Runs.{word_of}
use Rattle.row_store.specs.Rows.{row_at}
use Rattle.row_store.specs.Comps.{Comp, IsComp}
use Rattle.versions.specs.Databases.{Versioned, comp_at, no_comp}
use Rattle.path_image.specs.declared.TheConstants.{HEAD}
use Rattle.path_image.specs.Images.{IsImageOf, image_of, image_size, head_of, homes_of, starts_of, table_of, table_start, tables_at, cell_word, home_word, row_start, row_words}
use Rattle.path_image.specs.Reading.{width_in, height_in, count_in, home_in, start_in, size_at, row_at_place, row_start_at, runs_at}
use Rattle.path_image.proofs.Parts.{IsPart, part_whole, part_at, part_slice, part_first, part_second, part_flat, flat_more}

module _ (words : List ℕ) (version : Versioned) (image : IsImageOf words version) where
  homes_size : length (homes_of version) ≡ version.map.width * version.map.height
  homes_size = length-map-range_with_len (λ place. home_word 0 version.comps (cell_at version.map.width place)) 0 (version.map.width * version.map.height)

  pub starts_size : length (starts_of version) ≡ length version.comps
  starts_size = length-map-range_with_len (table_start version) 0 (length version.comps)

  whole : IsPart words 0 (head_of version ++ (homes_of version ++ (starts_of version ++ flat_map table_of version.comps)))
  unfolding image_of
  whole = part_whole words (image_of version) image.is

  pub head_part : IsPart words 0 (head_of version)
  head_part = part_first words (head_of version) (homes_of version ++ (starts_of version ++ flat_map table_of version.comps)) 0 whole

  lists_part : IsPart words HEAD (homes_of version ++ (starts_of version ++ flat_map table_of version.comps))
  lists_part = part_second words (head_of version) (homes_of version ++ (starts_of version ++ flat_map table_of version.comps)) 0 HEAD whole refl

  pub homes_part : IsPart words HEAD (homes_of version)
  homes_part = part_first words (homes_of version) (starts_of version ++ flat_map table_of version.comps) HEAD lists_part

  rest_part : IsPart words (HEAD + version.map.width * version.map.height) (starts_of version ++ flat_map table_of version.comps)
  rest_part =
      part_second words (homes_of version) (starts_of version ++ flat_map table_of version.comps) HEAD (HEAD + version.map.width * version.map.height) lists_part
      (let s = homes_size in omega arith)

  pub starts_part : IsPart words (HEAD + version.map.width * version.map.height) (starts_of version)
  starts_part = part_first words (starts_of version) (flat_map table_of version.comps) (HEAD + version.map.width * version.map.height) rest_part

  pub tables_part : IsPart words (tables_at version) (flat_map table_of version.comps)
  tables_part =
      part_second words (starts_of version) (flat_map table_of version.comps) (HEAD + version.map.width * version.map.height) (tables_at version) rest_part
      (let s = starts_size in omega arith)

  -- the image says how many words it has
  pub image_long : length words ≡ image_size version
  unfolding image_of
  image_long =
      let homes = homes_size in
      let starts = starts_size in
      let one = length-append (head_of version) (homes_of version ++ (starts_of version ++ flat_map table_of version.comps)) in
      let two = length-append (homes_of version) (starts_of version ++ flat_map table_of version.comps) in
      let three = length-append (starts_of version) (flat_map table_of version.comps) in
      let all = ap length image.is in
      omega arith

  pub width_shown : width_in words ≡ version.map.width
  width_shown = part_at words (head_of version) 0 4 4 head_part (omega arith) refl

  pub height_shown : height_in words ≡ version.map.height
  height_shown = part_at words (head_of version) 0 5 5 head_part (omega arith) refl

  pub count_shown : count_in words ≡ length version.comps
  count_shown = part_at words (head_of version) 0 9 9 head_part (omega arith) refl

  pub prefix_shown : get_or words 6 0 ≡ version.prefix
  prefix_shown = part_at words (head_of version) 0 6 6 head_part (omega arith) refl

  pub cells_shown : get_or words 8 0 ≡ passable_count version.map
  cells_shown = part_at words (head_of version) 0 8 8 head_part (omega arith) refl

  pub home_at_place : (place : ℕ) → place < version.map.width * version.map.height
      → get_or words (HEAD + place) 0 ≡ home_word 0 version.comps (cell_at version.map.width place)
  home_at_place place inside =
      part_at words (homes_of version) HEAD place (HEAD + place) homes_part (let s = homes_size in omega arith) refl
      ∙ get_or-map-range_with_len (λ place. home_word 0 version.comps (cell_at version.map.width place)) 0 (version.map.width * version.map.height) place place 0 inside
      (omega arith)

  pub home_shown : (cell : Cell) → IsInside version.map cell → home_in words cell ≡ home_word 0 version.comps cell
  home_shown cell inside =
      ap (λ w. get_or words (HEAD + place_of w cell) 0) width_shown
      ∙ home_at_place (place_of version.map.width cell) (place_inside version.map.width version.map.height cell inside.column inside.row)
      ∙ ap (home_word 0 version.comps) (cell_at_place_of version.map.width cell inside.column)

  pub start_shown : (label : ℕ) → label < length version.comps → start_in words label ≡ table_start version label
  start_shown label within =
      let w = width_shown in
      let h = height_shown in
      ap (λ x. get_or words (HEAD + x * height_in words + label) 0) w
      ∙ ap (λ x. get_or words (HEAD + version.map.width * x + label) 0) h
      ∙ part_at words (starts_of version) (HEAD + version.map.width * version.map.height) label (HEAD + version.map.width * version.map.height + label) starts_part
      (let s = starts_size in omega arith) refl
      ∙ get_or-map-range_with_len (table_start version) 0 (length version.comps) label label 0 within (omega arith)

  module _ (label : ℕ) (within : label < length version.comps) where
    pub table_part : IsPart words (table_start version label) (table_of (comp_at version.comps label))
    table_part = part_flat table_of words version.comps (tables_at version) label (table_start version label) no_comp tables_part within refl

-- A table that lies in some words: the parts of it.
module _ (words : List ℕ) (start : ℕ) (comp : Comp) (of : IsComp comp) (table : IsPart words start (table_of comp)) where
  cells_size : length (map cell_word comp.cells) ≡ length comp.cells
  cells_size = length-map comp.cells cell_word

  borders_size : length (map (row_start comp.rows) (range_with_len 0 (length comp.cells + 1))) ≡ length comp.cells + 1
  borders_size = length-map-range_with_len (row_start comp.rows) 0 (length comp.cells + 1)

  opened : IsPart words start ((length comp.cells ∷ []) ++ (map cell_word comp.cells
      ++ (map (row_start comp.rows) (range_with_len 0 (length comp.cells + 1)) ++ flat_map row_words comp.rows)))
  unfolding table_of
  opened = table

  size_part : IsPart words start (length comp.cells ∷ [])
  size_part = part_first words (length comp.cells ∷ []) (map cell_word comp.cells
      ++ (map (row_start comp.rows) (range_with_len 0 (length comp.cells + 1)) ++ flat_map row_words comp.rows)) start opened

  behind_size : IsPart words (start + 1) (map cell_word comp.cells
      ++ (map (row_start comp.rows) (range_with_len 0 (length comp.cells + 1)) ++ flat_map row_words comp.rows))
  behind_size = part_second words (length comp.cells ∷ []) (map cell_word comp.cells
      ++ (map (row_start comp.rows) (range_with_len 0 (length comp.cells + 1)) ++ flat_map row_words comp.rows)) start (start + 1) opened refl

  pub cells_part : IsPart words (start + 1) (map cell_word comp.cells)
  cells_part = part_first words (map cell_word comp.cells)
      (map (row_start comp.rows) (range_with_len 0 (length comp.cells + 1)) ++ flat_map row_words comp.rows) (start + 1) behind_size

  behind_cells : IsPart words (start + 1 + length comp.cells) (map (row_start comp.rows) (range_with_len 0 (length comp.cells + 1)) ++ flat_map row_words comp.rows)
  behind_cells = part_second words (map cell_word comp.cells)
      (map (row_start comp.rows) (range_with_len 0 (length comp.cells + 1)) ++ flat_map row_words comp.rows) (start + 1) (start + 1 + length comp.cells) behind_size
      (let s = cells_size in omega arith)

  borders_part : IsPart words (start + 1 + length comp.cells) (map (row_start comp.rows) (range_with_len 0 (length comp.cells + 1)))
  borders_part = part_first words (map (row_start comp.rows) (range_with_len 0 (length comp.cells + 1))) (flat_map row_words comp.rows) (start + 1 + length comp.cells) behind_cells

  pub runs_part : IsPart words (start + 2 * length comp.cells + 2) (flat_map row_words comp.rows)
  runs_part = part_second words (map (row_start comp.rows) (range_with_len 0 (length comp.cells + 1))) (flat_map row_words comp.rows)
      (start + 1 + length comp.cells) (start + 2 * length comp.cells + 2) behind_cells (let s = borders_size in omega arith)

  pub size_read : size_at words start ≡ length comp.cells
  size_read = part_at words (length comp.cells ∷ []) start 0 start size_part (omega arith) (omega arith)

  pub cell_read : (place : ℕ) → place < length comp.cells → get_or words (start + 1 + place) 0 ≡ get_or (map cell_word comp.cells) place 0
  cell_read place inside =
      part_at words (map cell_word comp.cells) (start + 1) place (start + 1 + place) cells_part (let s = cells_size in omega arith) refl

  pub border_read : (place : ℕ) → place < length comp.cells + 1 → row_start_at words start place ≡ row_start comp.rows place
  border_read place inside =
      ap (λ n. get_or words (start + 1 + n + place) 0) size_read
      ∙ part_at words (map (row_start comp.rows) (range_with_len 0 (length comp.cells + 1))) (start + 1 + length comp.cells) place
      (start + 1 + length comp.cells + place) borders_part (let s = borders_size in omega arith) refl
      ∙ get_or-map-range_with_len (row_start comp.rows) 0 (length comp.cells + 1) place place 0 inside (omega arith)

  pub next_start : (place : ℕ) → place < length comp.cells → row_start comp.rows (place + 1) ≡ row_start comp.rows place + length (row_words (row_at comp.rows place))
  next_start place inside = flat_more row_words comp.rows place [] (let w = of.rows.whole in omega arith)

  pub row_part : (place : ℕ) → place < length comp.cells → IsPart words (start + 2 * length comp.cells + 2 + row_start comp.rows place) (row_words (row_at comp.rows place))
  row_part place inside =
      part_flat row_words words comp.rows (start + 2 * length comp.cells + 2) place (start + 2 * length comp.cells + 2 + row_start comp.rows place) [] runs_part
      (let w = of.rows.whole in omega arith) refl

  pub runs_read : runs_at words start ≡ start + 2 * length comp.cells + 2
  runs_read = (let s = size_read in omega arith)

  pub row_read : (place : ℕ) → place < length comp.cells → row_at_place words start place ≡ map word_of (row_at comp.rows place)
  row_read place inside =
      let runs = runs_read in
      let from = border_read place (omega arith) in
      let upto = border_read (place + 1) (omega arith) in
      let next = next_start place inside in
      part_slice words (row_words (row_at comp.rows place)) (start + 2 * length comp.cells + 2 + row_start comp.rows place)
      (runs_at words start + row_start_at words start place) (runs_at words start + row_start_at words start (place + 1))
      (row_part place inside) (omega arith) (omega arith)

module _ (words : List ℕ) (version : Versioned) (image : IsImageOf words version) (label : ℕ) (within : label < length version.comps) where
  of_comp : IsComp (comp_at version.comps label)
  of_comp = (image.of.database.each label within).whole

  pub table_there : IsPart words (start_in words label) (table_of (comp_at version.comps label))
  table_there = subst (λ at. IsPart words at (table_of (comp_at version.comps label))) (sym (start_shown words version image label within)) (table_part words version image label within)

  pub size_shown : size_at words (start_in words label) ≡ length (comp_at version.comps label).cells
  size_shown = size_read words (start_in words label) (comp_at version.comps label) of_comp table_there

  pub row_shown : (place : ℕ) → place < length (comp_at version.comps label).cells
      → row_at_place words (start_in words label) place ≡ map word_of (row_at (comp_at version.comps label).rows place)
  row_shown place inside = row_read words (start_in words label) (comp_at version.comps label) of_comp table_there place inside
