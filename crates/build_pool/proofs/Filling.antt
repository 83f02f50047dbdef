-- Rows that are put one by one, in any order.
use Rattle.std.proofs.Common.{◌≡◌, ◌≢◌, ℕ, ◌+◌, ◌<◌, ◌≤◌, ◌⊎◌, List, [], ◌∷◌, length, replicate, set, slice_index, ap, refl, subst, ◌∙◌, Result, Ok, IfOk, inl, inr, arith}
use Rattle.std.proofs.lemmas.Bool.{cases_eq, cases_lt}
use Rattle.std.proofs.lemmas.List.{get_or-set_same, get_or-set_other, length-map, length-replicate, length-set}
use Rattle.std.specs.declared.alloc.AllocError.{AllocError}
use Rattle.run_pack.specs.declared.Run.{Run}
use Rattle.run_pack.specs.Runs.{run_of_word, IsTight}
use Rattle.run_pack.proofs.RowLemmas.{length-row}
use Rattle.moves.specs.declared.Cell.{Cell}
use Rattle.moves.specs.Maps.{Map}
use Rattle.moves.specs.ComponentLaws.{HasJust}
use Rattle.moves.specs.FirstSetLists.{cell_of, AreFirstSets}
use Rattle.moves.proofs.OneValue.{one_value}
use Rattle.moves.proofs.SamePaths.{same_first_move, same_classes_back}
use Rattle.row_store.specs.Rows.{row_at}
use Rattle.row_store.specs.Pools.{AreMerged, PutsPacked, merged}
use Rattle.row_store.proofs.RowLaws.{same_just}
use Rattle.lane_rows.specs.Tiles.{Tile, IsSolved}
use Rattle.lane_rows.specs.Packed.{words_in, IsPackedFrom, HavePackedRows}
use Rattle.build_pool.specs.Places.{AreWithNear}
use Rattle.build_pool.specs.Pieces.{AreFirstOver, IsRowOver, AreWordsOver, ArePartly, AreSome, AreWhole, AreDone, HasBlank}

-- blank rows
pub part_blank : (cells : List Cell) (count : ℕ) (rows : List (List Run)) → rows ≡ replicate count [] → ArePartly cells rows
part_blank cells count rows blank = record {
  each = λ k within. inl (ap (λ xs. row_at xs k) blank ∙ one_value count k []);
}

-- first sets over one map are those over each that has the same cells
pub first_over : (map : Map) (cells : List Cell) (place : ℕ) (sets : List ℕ) → HasJust map cells → AreFirstSets map (cell_of cells place) cells sets → AreFirstOver cells place sets
first_over map cells place sets just first = record {
  over = λ other there.
      (let same = same_just map other cells just there in
      record {
        whole = first.whole;
        bytes = first.bytes;
        each = λ k within move. (
          λ has. same_first_move map other same (cell_of cells place) (cell_of cells k) move ((first.each k within move).0 has),
          λ leads. (first.each k within move).1 (same_first_move other map (same_classes_back map other same) (cell_of cells place) (cell_of cells k) move leads),
        );
      });
}

pub row_over : (cells : List Cell) (place : ℕ) (sets : List ℕ) (row : List Run) → AreFirstOver cells place sets → IsTight row sets → IsRowOver cells place row
row_over cells place sets row first tight = record { over = λ map just. record { sets = sets; first = first.over map just; tight = tight } }

module _ (cells : List Cell) (rows new : List (List Run)) (place : ℕ) (row : List Run) (within : place < length rows)
    (over : IsRowOver cells place row) (there : new ≡ set rows place row) where
  pub put_size : length new ≡ length rows
  put_size = ap length there ∙ length-set rows place row

  -- the row stands at its place
  pub put_here : IsRowOver cells place (row_at new place)
  put_here =
      let read : row_at new place ≡ row = ap (λ xs. row_at xs place) there ∙ get_or-set_same rows place row [] within in
      rw read over

  pub put_other : (k : ℕ) → k ≢ place → row_at new k ≡ row_at rows k
  put_other k other = ap (λ xs. row_at xs k) there ∙ get_or-set_other rows place k row [] other

  pub part_put : ArePartly cells rows → ArePartly cells new
  part_put p = record {
    each = λ k inside. elim (cases_eq k place) [
      | inl same ↦ inr (rw same put_here)
      | inr other ↦ rw (put_other k other) (p.each k (let size = put_size in omega arith))
    ];
  }

pub done_none : (cells : List Cell) (rows : List (List Run)) → ArePartly cells rows → AreDone cells 0 rows
done_none cells rows part = record { part = part; done = λ k before. absurd (omega arith) }

pub done_kept : (cells : List Cell) (upto : ℕ) (rows : List (List Run)) → AreDone cells upto rows
    → upto < length rows → (row_at rows upto ≡ [] → ⊥) → AreDone cells (upto + 1) rows
done_kept cells upto rows p within there = record {
  part = p.part;
  done = λ k before. elim (cases_lt k upto) [
    | inl early ↦ p.done k early
    | inr late ↦
        let same : k ≡ upto = omega arith in
        elim (p.part.each upto within) [
          | inl blank ↦ absurd (there blank)
          | inr row ↦ rw same row
        ]
  ];
}

pub done_put : (cells : List Cell) (upto : ℕ) (rows new : List (List Run)) (sets : List ℕ)
    → AreDone cells upto rows → upto < length rows → AreFirstOver cells upto sets → PutsPacked rows new upto sets
    → AreDone cells (upto + 1) new
done_put cells upto rows new sets p within first put = record {
  part = part_put cells rows new upto put.row within over put.there p.part;
  done = λ k before. elim (cases_lt k upto) [
    | inl early ↦ rw (put_other cells rows new upto put.row within over put.there k (λ same. absurd (omega arith))) (p.done k early)
    | inr late ↦ let same : k ≡ upto = omega arith in rw same (put_here cells rows new upto put.row within over put.there)
  ];
}
  where
    over : IsRowOver cells upto put.row
    over = row_over cells upto sets put.row first put.packed.tight

-- the packed rows of a solved tile
pub packed_over : (cells : List Cell) (near : List (List ℕ)) (tile : Tile) (words : List (List ℕ)) → AreWithNear cells near → IsSolved near tile
    → HavePackedRows tile words → (lane : ℕ) → lane < 16 → AreWordsOver cells (slice_index tile.sources lane) (words_in words lane)
packed_over cells near tile words with solved packed lane l = record {
  few =
      (let row = from with.sources.board with.sources.just in
      let size = length-map (words_in words lane) run_of_word in
      omega (arith, length-row _ _ row.tight.row, row.first.whole, with.sources.few));
  row = record { over = λ map just. (let row = from map just in record { sets = row.sets; first = row.first; tight = row.tight }) };
}
  where
    from : (map : Map) → HasJust map cells → IsPackedFrom map cells (cell_of cells (slice_index tile.sources lane)) (words_in words lane)
    from map just = packed lane l map cells near (record { just = just; numbered = with.sources.numbered; edges = with.edges; pairs = with.pairs }) solved

pub done_all : (cells : List Cell) (upto count : ℕ) (rows : List (List Run)) → AreDone cells upto rows → length rows ≡ count → count ≤ upto → AreWhole cells count rows
done_all cells upto count rows p size all = record { size = size; each = λ k within. p.done k (omega arith) }

-- where no row is blank, each is that of its place
pub none_blank : (cells : List Cell) (rows : List (List Run)) → ArePartly cells rows → (HasBlank rows → ⊥) → AreWhole cells (length rows) rows
none_blank cells rows p none = record {
  size = refl;
  each = λ place within. elim (p.each place within) [
    | inl blank ↦ absurd (none (record { place = place; there = within; blank = blank }))
    | inr there ↦ there
  ];
}

-- ---- the rows of several workers

-- a merged row is one of the two
merged_is : (row other : List Run) → (merged row other ≡ other) ⊎ (merged row other ≡ row)
merged_is [] other = inl refl
merged_is (run ∷ runs) other = inr refl

pub some_blank : (cells : List Cell) (count : ℕ) (rows : List (List Run)) → rows ≡ replicate count [] → count ≡ length cells → AreSome cells rows
some_blank cells count rows blank all = record {
  size = ap length blank ∙ length-replicate {A = List Run} count [] ∙ all;
  part = part_blank cells count rows blank;
}

pub some_merged : (cells : List Cell) (rows other new : List (List Run)) → AreSome cells rows → AreSome cells other → AreMerged rows other new → AreSome cells new
some_merged cells rows other new p q m = record {
  size = m.whole ∙ p.size;
  part = record {
    each = λ k within.
        (let own : k < length rows = omega (arith, within, m.whole) in
        let others : k < length other = omega (arith, own, p.size, q.size) in
        rw (m.each k own) (elim (merged_is (row_at rows k) (row_at other k)) [
          | inl given ↦ rw given (q.part.each k others)
          | inr kept ↦ rw kept (p.part.each k own)
        ]));
  };
}

-- what a worker has built
pub share_is : {X : Type 0} (P : X → Type 0) (share : Result X AllocError) (built : X) → IfOk share P → share ≡ Ok built → P built
share_is P share built told is = subst (λ s. IfOk s P) is told
