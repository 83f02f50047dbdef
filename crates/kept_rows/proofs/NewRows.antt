-- The row of a source whose first sets stay, over the list of cells with one less or one more.
use Rattle.std.proofs.Common.{◌≡◌, ℕ, ◌+◌, ◌<◌, ◌≤◌, ◌↔◌, List, [], ◌++◌, length, map, set, get_or, slice_index, All, inl, inr, sym, ap, subst, ◌∙◌, arith}
use Rattle.std.proofs.lemmas.List.{length-map, get_or-map, get_or-take}
use Rattle.std.proofs.lemmas.List.Elements.{All-append, All-from_get_or}
use Rattle.run_pack.specs.declared.Run.{Run}
use Rattle.run_pack.specs.declared.TheConstants.{MAX_PLACES}
use Rattle.run_pack.specs.Runs.{IsPacked, run_of_word}
use Rattle.run_pack.proofs.Fewest.{IsPacked-from_tight}
use Rattle.run_pack.proofs.RowLemmas.{length-row}
use Rattle.row_edit.specs.declared.PlaceSet.{PlaceSet}
use Rattle.row_edit.specs.Edits.{IsSetOf, IsKnownRow, TakesEdits}
use Rattle.moves.specs.declared.Cell.{Cell}
use Rattle.moves.specs.declared.Move.{Move}
use Rattle.moves.specs.Maps.{Map}
use Rattle.moves.specs.MoveSets.{Has}
use Rattle.moves.specs.FirstSets.{IsFirstMove}
use Rattle.moves.specs.ComponentLaws.{HasJust}
use Rattle.moves.specs.FirstSetLists.{cell_of, AreFirstSets}
use Rattle.moves.proofs.MovesInSets.{sets_by_moves}
use Rattle.row_store.specs.Rows.{row_at, AreRows}
use Rattle.kept_sources.specs.Parts.{HaveSameFirst}
use Rattle.row_store.specs.Comps.{Comp, IsComp}
use Rattle.build_pool.specs.Pieces.{IsRowOver, AreWordsOver, AreSome}
use Rattle.build_pool.proofs.Filling.{first_over, row_over, put_size as put_size_over, part_put}
use Rattle.kept_rows.specs.Gaps.{past, AreGaps, IsPart}
use Rattle.kept_rows.specs.declared.verdict.Verdict.{Verdict}
use Rattle.kept_rows.specs.Targets.{AreMoved}
use Rattle.kept_rows.specs.Staying.{AllStay, IsFirstSet, AreFirstSetsTo, AreSetsToGaps}
use Rattle.kept_rows.specs.Verdicts.{AreSurveyed, IsOfLane}
use Rattle.kept_rows.specs.RowEdits.{places_of, sets_of, AreHoles, takes, puts, outs, ins}
use Rattle.kept_rows.proofs.Gaps.{gap_inside, past_inside, place_back}
use Rattle.kept_rows.proofs.RowEdits.{taken_size, taken_read, put_size, put_read, put_at, edited_outs, outs_suit, edited_ins, ins_suit}

-- the row whose runs these words keep
abbrev pub map_words : List ℕ → List Run
map_words words = map run_of_word words

-- ---- lists of sets without some places, and with some more

module _ (whole part : List Cell) (gaps : List ℕ) (is : IsPart whole part gaps) (map other : Map) (from : Cell)
    (same : (to : ℕ) → to < length part → HaveSameFirst map other from (cell_of part to)) (sets : List ℕ) (holes : List PlaceSet) (places : places_of holes ≡ gaps) where
  pub holes_are : AreGaps 0 (length part) (places_of holes)
  holes_are = subst (AreGaps 0 (length part)) (sym places) is.are_gaps

  pub as_many : length holes ≡ length gaps
  as_many = sym (length-map holes (λ hole. hole.place)) ∙ ap length places

  -- first sets to the cells of the longer list, without those of the gaps
  pub sets_without : AreFirstSets map from whole sets → AreFirstSets other from part (takes sets holes)
  sets_without first =
      let long : length sets ≡ length part + length holes = omega (arith, first.whole, is.size, as_many) in
      let size : length (takes sets holes) ≡ length part = taken_size 0 (length part) holes holes_are sets long in
      let read : (place : ℕ) → get_or (takes sets holes) place 0 ≡ get_or sets (past gaps place) 0 =
      λ place. taken_read 0 (length part) holes holes_are sets long place ∙ ap (λ list. get_or sets (past list place) 0) places in
      record {
        whole = size;
        bytes = All-from_get_or (λ set. set < 256) (takes sets holes) 0 (λ k l.
            subst (λ set. set < 256) (sym (read k)) (first.bytes (past gaps k) 0 (omega (arith, first.whole, size, past_inside whole part gaps is k (omega arith)))));
        each = λ place l move.
            let old = first.each (past gaps place) (past_inside whole part gaps is place l) move in
            let there : cell_of whole (past gaps place) ≡ cell_of part place = sym (is.same place l) in (
              λ has. (same place l move).0 (subst (λ c. IsFirstMove map from c move) there (old.0 (subst (λ set. Has set move) (read place) has))),
              λ leads. subst (λ set. Has set move) (sym (read place)) (old.1 (subst (λ c. IsFirstMove map from c move) (sym there) ((same place l move).1 leads))),
            );
      }

  -- first sets to the cells of the shorter list, with those of the gaps
  pub sets_with : ((number : ℕ) → number < length gaps → IsFirstSet whole from (cell_of whole (slice_index gaps number)) (get_or (sets_of holes) number 0)) → HasJust map whole
      → AreFirstSets other from part sets → AreFirstSets map from whole (puts sets holes)
  sets_with own just first =
      let size : length (puts sets holes) ≡ length whole = omega (arith, put_size 0 (length part) holes holes_are sets first.whole, is.size, as_many) in
      let at_gap : (number : ℕ) → number < length gaps → get_or (puts sets holes) (slice_index gaps number) 0 ≡ get_or (sets_of holes) number 0 =
      λ number l. ap (λ list. get_or (puts sets holes) (get_or list number 0) 0) (sym places) ∙ put_at 0 (length part) holes holes_are sets first.whole number (omega (arith, as_many)) in
      let read : (place : ℕ) → get_or (puts sets holes) (past gaps place) 0 ≡ get_or sets place 0 =
      λ place. ap (λ list. get_or (puts sets holes) (past list place) 0) (sym places) ∙ put_read 0 (length part) holes holes_are sets first.whole place in
      record {
        whole = size;
        bytes = All-from_get_or (λ s. s < 256) (puts sets holes) 0 (λ k l. elim (place_back whole part gaps is k (omega (arith, size))) [
          | inl gap ↦ subst (λ s. s < 256) (sym (ap (λ j. get_or (puts sets holes) j 0) (sym gap.2) ∙ at_gap gap.0 gap.1)) (own gap.0 gap.1).byte
          | inr back ↦ subst (λ s. s < 256) (sym (ap (λ j. get_or (puts sets holes) j 0) (sym back.2) ∙ read back.0)) (first.bytes back.0 0 (let b = back.1 in omega (arith, first.whole)))
        ]);
        each = λ place l move. elim (place_back whole part gaps is place l) [
          | inl gap ↦
              let at : get_or (puts sets holes) place 0 ≡ get_or (sets_of holes) gap.0 0 = ap (λ j. get_or (puts sets holes) j 0) (sym gap.2) ∙ at_gap gap.0 gap.1 in
              subst (λ s. Has s move ↔ IsFirstMove map from (cell_of whole place) move) (sym at)
              (subst (λ p. Has (get_or (sets_of holes) gap.0 0) move ↔ IsFirstMove map from (cell_of whole p) move) gap.2 ((own gap.0 gap.1).over map just move))
          | inr back ↦
              let at : get_or (puts sets holes) place 0 ≡ get_or sets back.0 0 = ap (λ j. get_or (puts sets holes) j 0) (sym back.2) ∙ read back.0 in
              let there : cell_of part back.0 ≡ cell_of whole place = is.same back.0 back.1 ∙ ap (cell_of whole) back.2 in
              let old = first.each back.0 back.1 move in (
                λ has. subst (λ c. IsFirstMove map from c move) there ((same back.0 back.1 move).1 (old.0 (subst (λ s. Has s move) at has))),
                λ leads. subst (λ s. Has s move) (sym at) (old.1 ((same back.0 back.1 move).0 (subst (λ c. IsFirstMove map from c move) (sym there) leads))),
              )
        ];
      }

-- a set with the first moves to a place is the set there
set_there : (map : Map) (from : Cell) (cells : List Cell) (sets : List ℕ) (place set : ℕ) → AreFirstSets map from cells sets → place < length cells → set < 256
    → ((move : Move) → Has set move ↔ IsFirstMove map from (cell_of cells place) move) → slice_index sets place ≡ set
set_there map from cells sets place set first l byte own =
    sets_by_moves (slice_index sets place) set (first.bytes place 0 (omega (arith, first.whole))) byte (λ move. (
      λ has. (own move).1 ((first.each place l move).0 has),
      λ has. (first.each place l move).1 ((own move).0 has),
    ))

-- the rows of a component, over each map that has just its cells
pub rows_over : (cells : List Cell) (rows : List (List Run)) → AreRows cells rows → (place : ℕ) → place < length cells → IsRowOver cells place (row_at rows place)
rows_over cells rows are place l =
    let row = are.each place l in
    row_over cells place row.sets (row_at rows place) (first_over are.map cells place row.sets are.just row.first) row.tight

-- words of a row over cells of which there is a map are few
pub words_over : (map : Map) (cells : List Cell) (place : ℕ) (words : List ℕ) → HasJust map cells → length cells ≤ MAX_PLACES → IsRowOver cells place (map_words words) → AreWordsOver cells place words
words_over map cells place words just few over = record {
  few =
      (let row = over.over map just in
      omega (arith, length-map words run_of_word, length-row _ _ row.tight.row, row.first.whole));
  row = over;
}

module _ (whole part : List Cell) (gaps : List ℕ) (is : IsPart whole part gaps) (map other : Map) (just : HasJust map whole) (just_part : HasJust other part) (place : ℕ) (sources sets own_sets : List ℕ) (inside : place < length part)
    (all : AllStay whole part place) (first_sets : AreFirstSetsTo whole part gaps place sources sets) (own : AreSetsToGaps whole part gaps place own_sets) (within : (lane : ℕ) → lane < 16 → slice_index sources lane < length part)
    (holes : List PlaceSet) (are_holes : AreHoles gaps own_sets holes) where
  abbrev from : Cell
  from = cell_of part place

  source_is : from ≡ cell_of whole (past gaps place)
  source_is = is.same place inside

  same : (to : ℕ) → to < length part → HaveSameFirst map other from (cell_of part to)
  same to l = (all.each to l).over map other just just_part

  shared : (lane : ℕ) → lane < 15 → (move : Move) → Has (slice_index sets lane) move ↔ IsFirstMove map from (cell_of part (slice_index sources lane)) move
  shared lane l = (first_sets.shared lane l).over map just

  short : (lane : ℕ) → lane < 15 → slice_index sources lane < length part
  short lane l = within lane (omega arith)

  many : length holes ≡ length gaps
  many = sym (length-map holes (λ hole. hole.place)) ∙ ap length are_holes.places

  are : AreGaps 0 (length part) (places_of holes)
  are = subst (AreGaps 0 (length part)) (sym are_holes.places) is.are_gaps

  -- the set of a hole
  set_is : (number : ℕ) → number < length gaps → get_or (sets_of holes) number 0 ≡ slice_index own_sets number
  set_is number l = ap (λ list. get_or list number 0) are_holes.sets_are ∙ get_or-take (length gaps) own_sets number 0 l

  own_set : (number : ℕ) → number < length gaps → IsFirstSet whole from (cell_of whole (slice_index gaps number)) (get_or (sets_of holes) number 0)
  own_set number l = subst (IsFirstSet whole from (cell_of whole (slice_index gaps number))) (sym (set_is number l)) (own.each number l)

  -- a hole has the set of its place over the longer list
  hole_known : (first : List ℕ) → AreFirstSets map from whole first → All (IsSetOf first) holes
  hole_known first are_first = λ number d l.
      let early : number < length gaps = omega (arith, many) in
      let place_is : (get_or holes number d).place ≡ slice_index gaps number = sym (get_or-map (λ hole. hole.place) holes number d 0 l) ∙ ap (λ list. get_or list number 0) are_holes.places in
      let set_of : (get_or holes number d).set ≡ get_or (sets_of holes) number 0 = sym (get_or-map (λ hole. hole.set) holes number d 0 l) in
      let at : slice_index gaps number < length whole = gap_inside whole part gaps is number early in
      record {
        inside = omega (arith, are_first.whole, place_is);
        is = ap (slice_index first) place_is ∙ set_there map from whole first (slice_index gaps number) (get_or (sets_of holes) number 0) are_first at (own_set number early).byte ((own_set number early).over map just) ∙ sym set_of;
      }

  -- a known set over the longer list
  known_whole : (moved first : List ℕ) → AreMoved gaps sources moved → AreFirstSets map from whole first → (one : PlaceSet) → IsOfLane moved sets one → IsSetOf first one
  known_whole moved first are_moved are_first one of =
      let place_is : one.place ≡ past gaps (slice_index sources of.lane) = of.place ∙ are_moved.same of.lane of.early in
      let at : past gaps (slice_index sources of.lane) < length whole = past_inside whole part gaps is (slice_index sources of.lane) (short of.lane of.early) in
      let cell : cell_of part (slice_index sources of.lane) ≡ cell_of whole (past gaps (slice_index sources of.lane)) = is.same (slice_index sources of.lane) (short of.lane of.early) in
      record {
        inside = omega (arith, are_first.whole);
        is = ap (slice_index first) place_is
            ∙ set_there map from whole first (past gaps (slice_index sources of.lane)) (slice_index sets of.lane) are_first at (first_sets.shared of.lane of.early).byte
            (λ move. subst (λ c. Has (slice_index sets of.lane) move ↔ IsFirstMove map from c move) cell (shared of.lane of.early move)) ∙ sym of.set;
      }

  -- a known set over the shorter list
  known_part : (first : List ℕ) → AreFirstSets other from part first → (one : PlaceSet) → IsOfLane sources sets one → IsSetOf first one
  known_part first are_first one of =
      let at : one.place < length part = subst (λ p. p < length part) (sym of.place) (short of.lane of.early) in
      record {
        inside = omega (arith, are_first.whole);
        is = ap (slice_index first) of.place
            ∙ set_there other from part first (slice_index sources of.lane) (slice_index sets of.lane) are_first (short of.lane of.early) (first_sets.shared of.lane of.early).byte
            (λ move.
            let whole_map = shared of.lane of.early move in
            let stays = same (slice_index sources of.lane) (short of.lane of.early) move in
            (λ h. stays.0 (whole_map.0 h), λ h. whole_map.1 (stays.1 h))) ∙ sym of.set;
      }

  module _ (words new : List ℕ) (known : List PlaceSet) where
    -- the row without the cells of the gaps
    pub row_without : (moved : List ℕ) → AreMoved gaps sources moved → IsRowOver whole (past gaps place) (map_words words) → All (IsOfLane moved sets) known
        → TakesEdits words (length whole) (outs holes) (known ++ holes) [] new → IsRowOver part place (map_words new)
    row_without moved are_moved former lanes takes_edits =
        let old = former.over map just in
        let first : AreFirstSets map from whole old.sets = subst (λ c. AreFirstSets map c whole old.sets) (sym source_is) old.first in
        let given : IsKnownRow words (length whole) (known ++ holes) old.sets = record {
          packed = IsPacked-from_tight (map_words words) old.sets old.tight;
          count = first.whole;
          agree = All-append (IsSetOf old.sets) known holes (λ k d l. known_whole moved old.sets are_moved first (get_or known k d) (lanes k d l)) (hole_known old.sets first);
        } in
        let long : length old.sets ≡ length part + length holes = omega (arith, first.whole, is.size, many) in
        let taken = takes_edits old.sets given (outs_suit 0 (length part) holes are old.sets long (hole_known old.sets first)) in
        row_over part place (takes old.sets holes) (map_words new)
        (first_over other part place (takes old.sets holes) just_part (sets_without whole part gaps is map other from same old.sets holes are_holes.places first))
        (subst (λ ws. IsPacked (map_words ws) (takes old.sets holes)) (sym taken.behind) (subst (IsPacked (map_words taken.row)) (edited_outs old.sets holes) taken.packed)).tight

    -- the row with them
    pub row_with : IsRowOver part place (map_words words) → All (IsOfLane sources sets) known
        → TakesEdits words (length part) (ins holes) known [] new → IsRowOver whole (past gaps place) (map_words new)
    row_with former lanes takes_edits =
        let old = former.over other just_part in
        let given : IsKnownRow words (length part) known old.sets = record {
          packed = IsPacked-from_tight (map_words words) old.sets old.tight;
          count = old.first.whole;
          agree = λ k d l. known_part old.sets old.first (get_or known k d) (lanes k d l);
        } in
        let put = takes_edits old.sets given (ins_suit 0 (length part) holes are old.sets old.first.whole) in
        let first : AreFirstSets map from whole (puts old.sets holes) = sets_with whole part gaps is map other from same old.sets holes are_holes.places own_set just old.first in
        row_over whole (past gaps place) (puts old.sets holes) (map_words new)
        (first_over map whole (past gaps place) (puts old.sets holes) just (subst (λ c. AreFirstSets map c whole (puts old.sets holes)) source_is first))
        (subst (λ ws. IsPacked (map_words ws) (puts old.sets holes)) (sym put.behind) (subst (IsPacked (map_words put.row)) (edited_ins old.sets holes) put.packed)).tight

-- ---- what the code has

module _ (former : Comp) (comp : IsComp former) (whole part : List Cell) (gaps : List ℕ) (sources : List ℕ) (set_lists : List (List ℕ)) (ball : List ℕ) (verdicts : List Verdict)
    (found : AreSurveyed whole part gaps sources set_lists ball verdicts) (place : ℕ) (sets own_sets : List ℕ) (inside : place < length part) (all : AllStay whole part place)
    (first_sets : AreFirstSetsTo whole part gaps place sources sets) (own : AreSetsToGaps whole part gaps place own_sets) (holes : List PlaceSet) (are_holes : AreHoles gaps own_sets holes)
    (words : List ℕ) (known : List PlaceSet) (new : List ℕ) where
  -- the new row over the shorter list
  pub kept_without : former.cells ≡ whole → (board : Map) × HasJust board part → (there count : ℕ) → there ≡ past gaps place → map_words words ≡ row_at former.rows there → (moved : List ℕ) → AreMoved gaps sources moved
      → All (IsOfLane moved sets) known → count ≡ length whole → TakesEdits words count (outs holes) (known ++ holes) [] new → AreWordsOver part place new
  kept_without cells board there count past_is read moved are_moved lanes size takes_edits =
      let just : HasJust comp.rows.map whole = subst (HasJust comp.rows.map) cells comp.rows.just in
      let short : past gaps place < length whole = past_inside whole part gaps found.cells place inside in
      let few : length part ≤ MAX_PLACES = omega (arith, comp.few, ap length cells, found.cells.size) in
      let old : IsRowOver whole (past gaps place) (map_words words) =
      subst (λ row. IsRowOver whole (past gaps place) row) (sym (read ∙ ap (row_at former.rows) past_is))
      (subst (λ list. IsRowOver list (past gaps place) (row_at former.rows (past gaps place))) cells (rows_over former.cells former.rows comp.rows (past gaps place) (omega (arith, ap length cells)))) in
      words_over board.0 part place new board.1 few
      (row_without whole part gaps found.cells comp.rows.map board.0 just board.1 place sources sets own_sets inside all first_sets own found.inside holes are_holes words new known moved are_moved old lanes
      (subst (λ n. TakesEdits words n (outs holes) (known ++ holes) [] new) size takes_edits))

  -- the new row over the longer list
  pub kept_with : former.cells ≡ part → (board : Map) × HasJust board whole → length whole ≤ MAX_PLACES → (there count : ℕ) → there ≡ past gaps place → map_words words ≡ row_at former.rows place
      → All (IsOfLane sources sets) known → count ≡ length part → TakesEdits words count (ins holes) known [] new → AreWordsOver whole there new
  kept_with cells board few there count past_is read lanes size takes_edits =
      let just_part : HasJust comp.rows.map part = subst (HasJust comp.rows.map) cells comp.rows.just in
      let old : IsRowOver part place (map_words words) =
      subst (λ row. IsRowOver part place row) (sym read)
      (subst (λ list. IsRowOver list place (row_at former.rows place)) cells (rows_over former.cells former.rows comp.rows place (omega (arith, ap length cells)))) in
      subst (λ at. AreWordsOver whole at new) (sym past_is)
      (words_over board.0 whole (past gaps place) new board.1 few
      (row_with whole part gaps found.cells board.0 comp.rows.map board.1 just_part place sources sets own_sets inside all first_sets own found.inside holes are_holes words new known old lanes
      (subst (λ n. TakesEdits words n (ins holes) known [] new) size takes_edits)))

-- rows that are some, and one more
pub some_put : (cells : List Cell) (rows new : List (List Run)) (place : ℕ) (words : List ℕ) → AreSome cells rows → place < length rows → AreWordsOver cells place words → new ≡ set rows place (map_words words)
    → AreSome cells new
some_put cells rows new place words some within over there = record {
  size = put_size_over cells rows new place (map_words words) within over.row there ∙ some.size;
  part = part_put cells rows new place (map_words words) within over.row there some.part;
}
