-- What a text stands for, from what its parts give.
use Rattle.std.proofs.Common.{◌≡◌, ℕ, ◌+◌, List, [], drop, Some, None, Ok, Err, refl, sym, ap, ◌∙◌}
use Rattle.std.proofs.lemmas.List.{drop-drop}
use Rattle.moves.specs.declared.Terrain.{Terrain}
use Rattle.map_read.specs.declared.fault.MapFault.{MapFault}
use Rattle.map_read.specs.declared.fault.MapFault.TheVariants.{Extra}
use Rattle.text_lines.specs.Lines.{lines_of}
use Rattle.map_read.specs.MapText.{header_in, rows_in, extra_in, map_of}

module _ (text : List ℕ) (lines after : List (List ℕ)) (lines-is : lines ≡ lines_of text) (after-is : after ≡ drop 4 lines) where
  after_lines : after ≡ drop 4 (lines_of text)
  after_lines = after-is ∙ ap (λ (ls : List (List ℕ)). drop 4 ls) lines-is

  pub map_bad_header : (fault : MapFault) → header_in lines ≡ Err fault → map_of text ≡ Err fault
  unfolding map_of
  map_bad_header fault bad =
      let bad' : header_in (lines_of text) ≡ Err fault = ap header_in (sym lines-is) ∙ bad in
      rw bad' refl

  module _ (width height : ℕ) (header : header_in lines ≡ Ok (width, height)) where
    good_header : header_in (lines_of text) ≡ Ok (width, height)
    good_header = ap header_in (sym lines-is) ∙ header

    pub map_bad_rows : (fault : MapFault) → rows_in width 0 height [] after ≡ Err fault → map_of text ≡ Err fault
    unfolding map_of
    map_bad_rows fault bad =
        let bad' : rows_in width 0 height [] (drop 4 (lines_of text)) ≡ Err fault = ap (rows_in width 0 height []) (sym after_lines) ∙ bad in
        rw (good_header, bad') refl

    module _ (cells : List Terrain) (rest : List (List ℕ)) (rows : rows_in width 0 height [] after ≡ Ok cells) (rest-is : rest ≡ drop height after) where
      good_rows : rows_in width 0 height [] (drop 4 (lines_of text)) ≡ Ok cells
      good_rows = ap (rows_in width 0 height []) (sym after_lines) ∙ rows

      rest_lines : rest ≡ drop (4 + height) (lines_of text)
      rest_lines = rest-is ∙ ap (λ (ls : List (List ℕ)). drop height ls) after_lines ∙ drop-drop height 4 (lines_of text)

      pub map_extra : (line : ℕ) → extra_in (5 + height) rest ≡ Some line → map_of text ≡ Err (Extra line)
      unfolding map_of
      map_extra line extra =
          let extra' : extra_in (5 + height) (drop (4 + height) (lines_of text)) ≡ Some line = ap (extra_in (5 + height)) (sym rest_lines) ∙ extra in
          rw (good_header, good_rows, extra') refl

      pub map_whole : extra_in (5 + height) rest ≡ None → map_of text ≡ Ok (record { width = width; height = height; terrain = cells })
      unfolding map_of
      map_whole none =
          let none' : extra_in (5 + height) (drop (4 + height) (lines_of text)) ≡ None = ap (extra_in (5 + height)) (sym rest_lines) ∙ none in
          rw (good_header, good_rows, none') refl
