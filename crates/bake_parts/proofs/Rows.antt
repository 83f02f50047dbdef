-- The rows of some sources, as words.
use Rattle.std.proofs.Common.{◌≡◌, ℕ, ◌+◌, ◌*◌, ◌/◌, ◌%◌, ◌<◌, List, [], ◌∷◌, ◌++◌, length, map, get_or, take, drop, refl, sym, ap, ◌∙◌, append-nil, arith}
use Rattle.std.specs.List.{flat_map}
use Rattle.std.proofs.lemmas.List.{length-append, length-map, length-drop, take_more, get_or-drop}
use Rattle.std.proofs.lemmas.List.Concat.{flat_map-append}
use Rattle.run_pack.specs.declared.Run.{Run}
use Rattle.run_pack.specs.Runs.{run_of_word, word_of}
use Rattle.moves.specs.declared.Cell.{Cell}
use Rattle.moves.specs.FirstSetLists.{cell_of}
use Rattle.row_store.specs.Rows.{row_at, AreRows, IsRowFrom}
use Rattle.row_store.proofs.RowLaws.{same_just, same_rows_from}
use Rattle.build_pool.specs.Pieces.{AreWordsOver}
use Rattle.path_image.specs.Images.{row_words}
use Rattle.bake_parts.specs.declared.sources.Sources.{Sources}
use Rattle.bake_parts.specs.Parts.{counted_row, counted_rows}
use Rattle.bake_parts.specs.Plans.{AreRowWords, PutsRow, PutsRows}
use Rattle.bake_parts.specs.Rooms.{HasFront}

-- a word is that of its run
words_again : (words : List ℕ) → row_words (map run_of_word words) ≡ words
words_again [] = refl
words_again (word ∷ words) =
    let here : word / 8 * 8 + word % 8 ≡ word = omega arith in
    ap (λ w. w ∷ row_words (map run_of_word words)) here ∙ ap (λ ws. word ∷ ws) (words_again words)

-- the words of a row are those of the row that the cells have
pub words_of_row : (cells : List Cell) (place : ℕ) (words : List ℕ) (rows : List (List Run)) → place < length cells → AreWordsOver cells place words
    → AreRows cells rows → words ≡ row_words (row_at rows place)
words_of_row cells place words rows within are all =
    let over : IsRowFrom all.map cells (cell_of cells place) (map run_of_word words) = are.row.over all.map all.just in
    let same : map run_of_word words ≡ row_at rows place =
    same_rows_from all.map all.map cells (cell_of cells place) (map run_of_word words) (row_at rows place) (same_just all.map all.map cells all.just all.just) over (all.each place within) in
    sym (words_again words) ∙ ap row_words same

-- a row more
counted_more : (rows : List (List Run)) (first count : ℕ) → first + count < length rows
    → counted_rows rows first (count + 1) ≡ counted_rows rows first count ++ counted_row (row_at rows (first + count))
counted_more rows first count within =
    let size = length-drop first rows in
    let next : get_or (drop first rows) count [] ≡ row_at rows (first + count) = get_or-drop first rows count [] in
    ap (flat_map counted_row) (take_more (drop first rows) count [] (omega arith))
    ∙ flat_map-append counted_row (take count (drop first rows)) (get_or (drop first rows) count [] ∷ [])
    ∙ ap (λ ys. counted_rows rows first count ++ ys) (append-nil (counted_row (get_or (drop first rows) count [])))
    ∙ ap (λ row. counted_rows rows first count ++ counted_row row) next

pub row_words_more : (cells : List Cell) (first count : ℕ) (words row : List ℕ) → first + count < length cells → AreRowWords cells first count words
    → AreWordsOver cells (first + count) row → AreRowWords cells first (count + 1) (words ++ length row ∷ row)
row_words_more cells first count words row within are next = λ rows all.
    let is = words_of_row cells (first + count) row rows within next all in
    let long : length row ≡ length (row_at rows (first + count)) = ap length is ∙ length-map (row_at rows (first + count)) word_of in
    let here : length row ∷ row ≡ counted_row (row_at rows (first + count)) = ap (λ n. n ∷ row) long ∙ ap (λ ws. length (row_at rows (first + count)) ∷ ws) is in
    ap (λ ws. ws ++ length row ∷ row) (are rows all) ∙ ap (λ ws. counted_rows rows first count ++ ws) here
    ∙ sym (counted_more rows first count (let w = all.whole in omega arith))

-- the head is put
pub rows_none : (cells : List Cell) (sources : Sources) (old new : List ℕ) (end : ℕ) → end ≡ 3
    → HasFront old new (sources.component ∷ sources.first ∷ sources.count ∷ []) → PutsRows cells sources 0 end old new
rows_none cells sources old new end is front = record { words = []; rows = λ rows all. refl; end = is; few = omega arith; front = front }

-- and a row more
pub rows_more : (cells : List Cell) (sources : Sources) (count at end : ℕ) (old now new : List ℕ) → sources.first + count < length cells
    → PutsRows cells sources count at old now → PutsRow cells (sources.first + count) at end now new → PutsRows cells sources (count + 1) end old new
rows_more cells sources count at end old now new within p row =
    let size = length-append p.words (length row.words ∷ row.words) in
    let at_end = p.end in
    let is = row.end in
    let short = row.row.few in
    let few = p.few in
    record {
      words = p.words ++ length row.words ∷ row.words;
      rows = row_words_more cells sources.first count p.words row.words within p.rows row.row;
      end = omega arith;
      few = omega arith;
      front = row.grows old (sources.component ∷ sources.first ∷ sources.count ∷ p.words) (omega arith) p.front;
    }
