-- The parts of the row with one place more.
use Rattle.std.proofs.Common.{◌≡◌, refl, ℕ, ◌+◌, ◌-◌, ◌<◌, ◌≤◌, List, [], ◌∷◌, length, map, drop, slice_index, insert, Some, None, arith, subst, sym, ◌∙◌}
use Rattle.std.proofs.lemmas.List.{length-map}
use Rattle.std.proofs.lemmas.List.Edits.{get_or-insert_at}
use Rattle.run_pack.specs.declared.Run.{Run}
use Rattle.run_pack.specs.declared.TheConstants.{MAX_PLACES}
use Rattle.run_pack.specs.Sets.{Has, IsCommon, IsLeastIn, ShareNone}
use Rattle.run_pack.specs.Runs.{start_at, move_at, run_of_word, IsTight, IsPacked}
use Rattle.run_pack.proofs.RowLemmas.{border, get_or-starts_of, start_at-inside, same_runs}
use Rattle.run_pack.proofs.Fewest.{IsPacked-from_tight}
use Rattle.row_edit.specs.declared.PlaceSet.{PlaceSet}
use Rattle.row_edit.specs.declared.span.Span.{Span}
use Rattle.row_edit.specs.Edits.{AreKnown, IsKnownRow}
use Rattle.row_edit.specs.Parts.{IsSpan, EndsAt, CutsBefore, AreWith, border_of, joined, raised}
use Rattle.row_edit.proofs.TightRuns.{tight_run}
use Rattle.row_edit.proofs.Shorter.{IsShorter, shorter-insert, common_more}
use Rattle.row_edit.proofs.Moved.{IsCutAt, later}
use Rattle.row_edit.proofs.Rows.{runs_stay_with, run_comes}
use Rattle.row_edit.proofs.RaisedWords.{runs-later, runs-joined, rising_words}

module _ (words : List ℕ) (places : ℕ) (put : PlaceSet) (known : List PlaceSet) (few : places < MAX_PLACES) (inside : put.place ≤ places) where
  module _ (sets : List ℕ) (row : IsKnownRow words places known sets) where
    abbrev runs : List Run
    runs = map run_of_word words

    abbrev longer : List ℕ
    longer = insert sets put.place put.set

    tight : IsTight runs sets
    tight = row.packed.tight

    within : put.place ≤ length sets
    within = rw row.count inside

    short : IsShorter longer sets put.place
    short = shorter-insert sets put.place put.set within

    its : slice_index longer put.place ≡ put.set
    its = get_or-insert_at sets put.place put.set 0 within

    its_has : (move : ℕ) → Has put.set move → Has (slice_index longer put.place) move
    its_has move has = subst (λ set. Has set move) (sym its) has

    has_its : (move : ℕ) → Has (slice_index longer put.place) move → Has put.set move
    has_its move has = subst (λ set. Has set move) its has

    -- the words from a run on can be one place later
    behind-later : (back : ℕ) → map run_of_word (raised 8 (drop back words)) ≡ map later (map run_of_word (drop back words))
    behind-later back =
        runs-later (drop back words) (rising_words words back (λ k early.
        (let start = start_at-inside runs (length sets) tight.row k (omega (arith, length-map words run_of_word)) in
        omega (arith, row.count))))

    cut_there : (number : ℕ) → number ≤ length words → CutsBefore words places number put known → 0 < number → IsCutAt sets longer (start_at runs (number - 1)) put.place
    cut_there number upto cut some in_longer other common has =
        let last = get_or-starts_of runs (number - 1) places (omega (arith, length-map words run_of_word)) in
        cut some sets row other (rw last common) (has_its other has)

    packed_kept : (number : ℕ) → number < length words → border_of words places number ≤ put.place → put.place ≤ border_of words places (number + 1) → Has put.set (move_at runs number)
        → (border_of words places number ≡ put.place → CutsBefore words places number put known)
        → IsPacked (map run_of_word (joined words (record { front = number + 1; own = None; back = number + 1 }) 8)) longer
    packed_kept number there from upto has cut =
        let size = length-map words run_of_word in
        let start = get_or-starts_of runs number places (omega arith) in
        let new = runs_stay_with runs longer sets put.place short tight number (omega arith) (omega arith) (rw row.count upto) (its_has (move_at runs number) has) (λ at.
        cut_there number (omega arith) (cut (start ∙ at))) in
        rw (runs-joined words [] (raised 8 (drop (number + 1) words)) (number + 1) (number + 1) later (behind-later (number + 1)))
        (IsPacked-from_tight _ _ new)

    packed_own : (number word : ℕ) → number ≤ length words → border_of words places number ≡ put.place → (run_of_word word).start ≡ put.place → IsLeastIn put.set (run_of_word word).mv
        → (put.place < places → ShareNone put.set (slice_index sets put.place)) → CutsBefore words places number put known
        → IsPacked (map run_of_word (joined words (record { front = number; own = Some word; back = number }) 8)) longer
    packed_own number word upto at start least apart cut =
        let size = length-map words run_of_word in
        let move = (run_of_word word).mv in
        let behind = short.behind put.place (omega arith) in
        let new = run_comes runs longer sets put.place short tight number move (omega arith) (rw row.count at) (subst (λ set. IsLeastIn set move) (sym its) least) (λ more other own next.
        apart (omega (arith, short.size, row.count)) other (has_its other own) (subst (λ set. Has set other) behind next)) (cut_there number upto cut) in
        let run : record { start = put.place; mv = move } ≡ run_of_word word = same_runs (record { start = put.place; mv = move }) (run_of_word word) (sym start) refl in
        rw (runs-joined words (word ∷ []) (raised 8 (drop number words)) number number later (behind-later number))
        (IsPacked-from_tight _ _ (rw run at new))

  pub with_kept : (number : ℕ) → number < length words → border_of words places number ≤ put.place → put.place ≤ border_of words places (number + 1)
      → Has put.set (move_at (map run_of_word words) number)
      → (border_of words places number ≡ put.place → CutsBefore words places number put known)
      → AreWith words places put known (record { front = number + 1; own = None; back = number + 1 })
  with_kept number there from upto has cut = record {
    front = omega arith;
    back = omega arith;
    packed = λ sets row. packed_kept sets row number there from upto has cut;
  }

  -- it starts with the new place
  pub with_opened : (number : ℕ) → number < length words → border_of words places number ≡ put.place → Has put.set (move_at (map run_of_word words) number) → CutsBefore words places number put known
      → AreWith words places put known (record { front = number + 1; own = None; back = number + 1 })
  with_opened number there at has cut = record {
    front = omega arith;
    back = omega arith;
    packed = λ sets row.
        (let size = length-map words run_of_word in
        let run = tight_run (map run_of_word words) sets row.packed.tight number (omega arith) in
        let start = get_or-starts_of (map run_of_word words) number places (omega arith) in
        let end : start_at (map run_of_word words) number < border_of words places (number + 1) = rw row.count at run.covers in
        packed_kept sets row number there (omega arith) (omega arith) has (λ same. cut));
  }

  pub with_own : (number word : ℕ) → number ≤ length words → border_of words places number ≡ put.place → (run_of_word word).start ≡ put.place → IsLeastIn put.set (run_of_word word).mv
      → (put.place < places → (sets : List ℕ) → AreKnown known sets → ShareNone put.set (slice_index sets put.place)) → CutsBefore words places number put known
      → AreWith words places put known (record { front = number; own = Some word; back = number })
  with_own number word upto at start least apart cut = record {
    front = upto;
    back = upto;
    packed = λ sets row.
        packed_own sets row number word upto at start least (λ inner. apart inner sets row.agree) cut;
  }

module _ (words : List ℕ) (places : ℕ) (put : PlaceSet) (known : List PlaceSet) (span : Span) (is : IsSpan words places span) where
  -- a run that starts at the first place is the first
  pub cuts_first : span.start ≡ 0 → CutsBefore words places span.number put known
  cuts_first first some sets row other common has =
      let size = length-map words run_of_word in
      let runs = map run_of_word words in
      let number : span.number - 1 + 1 ≡ span.number = omega arith in
      let before = rw number at (tight_run runs sets row.packed.tight (span.number - 1) (omega (arith, is.within))) in
      absurd (omega (arith, rw row.count at before.covers, is.start))

  -- the run before the place is cut there, since a move that it shared with the new set would make it longer
  pub cuts_behind : put.place ≡ span.end → EndsAt span put known → CutsBefore words places (span.number + 1) put known
  cuts_behind at ends some sets row other common has =
      let size = length-map words run_of_word in
      let runs = map run_of_word words in
      let run = tight_run runs sets row.packed.tight span.number (omega (arith, is.within)) in
      let same : span.number + 1 - 1 ≡ span.number = omega arith in
      let start = get_or-starts_of runs span.number places (omega (arith, is.within)) in
      let here : IsCommon sets span.start put.place other = rw is.start (rw same at common) in
      let next = ends sets row.agree other here has in
      let end : border runs (length sets) (span.number + 1) ≡ put.place = rw row.count (sym (at ∙ is.end)) in
      let own : IsCommon sets (start_at runs span.number) put.place other = rw (is.start ∙ start) at here in
      (rw end at run).maximal next.0 other (common_more sets (start_at runs span.number) put.place other own next.1)
