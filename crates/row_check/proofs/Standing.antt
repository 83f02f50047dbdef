-- Cursors in their rows, and how they go on.
use Rattle.std.proofs.Common.{◌≡◌, ◌≢◌, ℕ, ◌+◌, ◌%◌, ◌/◌, ◌<◌, ◌≤◌, List, [], ◌∷◌, ◌++◌, length, map, get_or, set, inl, inr, refl, sym, ap, subst, ◌∙◌, arith}
use Rattle.std.proofs.lemmas.Bool.{cases_lt, cases_eq}
use Rattle.std.proofs.lemmas.List.{get_or-set_same, get_or-set_other, length-set, get_or-map, length-map, get_or_append_left}
use Rattle.std.proofs.Math.Seq.{get_or-append_seam}
use Rattle.run_pack.specs.declared.Run.{Run}
use Rattle.run_pack.specs.Runs.{IsRow, start_at, move_at, end_at, no_run, run_of_word}
use Rattle.run_pack.proofs.RowLemmas.{start_at-inside, start_at-before_end, length-row, border-le, border_past, get_or-starts_of}
use Rattle.row_store.specs.Rows.{row_at}
use Rattle.row_check.specs.declared.cursors.Cursor.{Cursor}
use Rattle.row_check.specs.Marking.{edges_of}
use Rattle.row_check.specs.Following.{no_cursor, cursor_of, step_numbered, HasRun, IsCursor, AreCursors, IsBehind, IsOver, HasGoneOn, HasGoneOnAt, HaveGoneOn, AreBehind}

-- ---- a cursor as the code reads it

-- the run of a word, read in the row
pub word_at : (words : List ℕ) (k d : ℕ) → k < length words → run_of_word (get_or words k d) ≡ get_or (map run_of_word words) k no_run
word_at words k d within = sym (get_or-map run_of_word words k d no_run within)

module _ (words edges : List ℕ) (places run : ℕ) (row : IsRow (map run_of_word words) places) (few : places ≤ 32768) (within : run < length words) where
  abbrev runs : List Run
  runs = map run_of_word words

  within_row : run < length runs
  within_row = (let s = length-map words run_of_word in omega arith)

  pub run_small : run < 32768
  run_small = (let s = length-row runs places row in let w = within_row in omega arith)

  pub start_small : (d : ℕ) → (get_or words run d) / 8 < 32768
  start_small d =
      let at : (get_or words run d) / 8 ≡ start_at runs run = ap (λ (r : Run). r.start) (word_at words run d within) in
      let inside = start_at-inside runs places row run within_row in
      omega arith

  pub end_more : run + 1 < length words → (d : ℕ) → (get_or words (run + 1) d) / 8 ≡ end_at runs places run
  end_more more d =
      let at : (get_or words (run + 1) d) / 8 ≡ start_at runs (run + 1) = ap (λ (r : Run). r.start) (word_at words (run + 1) d more) in
      let size = length-map words run_of_word in
      at ∙ sym (get_or-starts_of runs (run + 1) places (omega arith))

  pub end_last : length words ≤ run + 1 → places ≡ end_at runs places run
  end_last last =
      let size = length-map words run_of_word in
      sym (border_past runs places (run + 1) (omega arith))

  pub end_small : end_at runs places run ≤ 32768
  end_small = (let b = border-le runs places row (run + 1) in omega arith)

  pub cursor_made : (cursor : Cursor) (d e : ℕ) → cursor.run ≡ run → cursor.start ≡ (get_or words run d) / 8 → cursor.end ≡ end_at runs places run
      → cursor.next ≡ get_or edges ((get_or words run d) % 8) 0 → cursor.step ≡ step_numbered ((get_or words run d) % 8) → IsCursor runs edges places cursor
  cursor_made cursor d e is start end next step =
      let at_start : (get_or words run d) / 8 ≡ start_at runs run = ap (λ (r : Run). r.start) (word_at words run d within) in
      let at_move : (get_or words run d) % 8 ≡ move_at runs run = ap (λ (r : Run). r.mv) (word_at words run d within) in
      record {
        has = rw is (record { is_row = row; within = within_row; starts = start ∙ at_start; ends = end });
        leads = next ∙ ap (λ k. get_or edges k 0) at_move ∙ ap (λ k. get_or edges (move_at runs k) 0) (sym is);
        costs = step ∙ ap step_numbered at_move ∙ ap (λ k. step_numbered (move_at runs k)) (sym is);
      }

-- ---- going on

-- a cursor whose run does not end at the target covers it
pub over_if_stays : (cursor : Cursor) (target : ℕ) → IsBehind cursor target → cursor.end ≢ target → IsOver cursor target
over_if_stays cursor target p apart = record { from = p.from; upto = (let u = p.upto in omega arith) }

-- where a run ends before the last place, there is a next one
pub has_next : (row : List Run) (places : ℕ) (cursor : Cursor) (target : ℕ) → HasRun row places cursor → cursor.end ≡ target → target < places → cursor.run + 1 < length row
has_next row places cursor target p at inside = elim (cases_lt (cursor.run + 1) (length row)) [
  | inl more ↦ more
  | inr past ↦ (let e = border_past row places (cursor.run + 1) past in let f = p.ends in absurd (omega arith))
]

-- it starts where the run ends, and covers the target
pub over_next : (row : List Run) (places : ℕ) (old new : Cursor) (target : ℕ) → IsRow row places → HasRun row places old → HasRun row places new → old.end ≡ target → target < places
    → new.run ≡ old.run + 1 → IsOver new target
over_next row places old new target is p q at inside next =
    let more = has_next row places old target p at inside in
    let start : new.start ≡ start_at row (old.run + 1) = q.starts ∙ ap (start_at row) next in
    let old_end : old.end ≡ start_at row (old.run + 1) = p.ends ∙ get_or-starts_of row (old.run + 1) places more in
    let before = start_at-before_end row places is new.run q.within in
    let s = q.starts in
    let e = q.ends in
    record { from = omega arith; upto = omega arith }

-- a list of cursors, written at one place
module _ (rows : List (List Run)) (near : List (List ℕ)) (cursors : List Cursor) (source target : ℕ) (new : Cursor) (p : AreCursors rows near cursors) (within : source < length near)
    (is : IsCursor (row_at rows source) (edges_of near source) (length near) new) where
  here : cursor_of (set cursors source new) source ≡ new
  here = get_or-set_same cursors source new no_cursor (let w = p.whole in omega arith)

  aside : (other : ℕ) → other ≢ source → cursor_of (set cursors source new) other ≡ cursor_of cursors other
  aside other apart = get_or-set_other cursors source other new no_cursor apart

  pub cursors_set : AreCursors rows near (set cursors source new)
  cursors_set = record {
    whole = length-set cursors source new ∙ p.whole;
    each = λ other l. elim (cases_eq other source) [
      | inl same ↦ rw (same, here) is
      | inr apart ↦ rw (aside other apart) (p.each other l)
    ];
  }

  pub gone_on_at : IsRow (row_at rows source) (length near) → (cursor_of cursors source).end ≡ target → target < length near → new.run ≡ (cursor_of cursors source).run + 1
      → HasGoneOnAt cursors (set cursors source new) target source
  gone_on_at row at inside next = record {
    over = rw here (over_next (row_at rows source) (length near) (cursor_of cursors source) new target row (p.each source within).has is.has at inside next);
    on = rw here (record { stays = λ apart. absurd (apart at); goes = λ same. next });
    rest = aside;
  }

pub stays_at : (cursors : List Cursor) (source target : ℕ) → IsBehind (cursor_of cursors source) target → (cursor_of cursors source).end ≢ target → HasGoneOnAt cursors cursors target source
stays_at cursors source target p apart = record {
  over = over_if_stays (cursor_of cursors source) target p apart;
  on = record { stays = λ same. refl; goes = λ at. absurd (apart at) };
  rest = λ other away. refl;
}

-- ---- all cursors

pub gone_on_none : (cursors : List Cursor) (target : ℕ) → HaveGoneOn cursors cursors target 0
gone_on_none cursors target = record {
  over = λ source l. absurd (omega arith);
  on = λ source l. absurd (omega arith);
  rest = λ source l. refl;
}

pub gone_on_more : (old now new : List Cursor) (target source : ℕ) → HaveGoneOn old now target source → HasGoneOnAt now new target source → HaveGoneOn old new target (source + 1)
gone_on_more old now new target source p q = record {
  over = λ other l. elim (cases_eq other source) [
    | inl same ↦ rw same q.over
    | inr apart ↦ rw (q.rest other apart) (p.over other (omega arith))
  ];
  on = λ other l. elim (cases_eq other source) [
    | inl same ↦ rw same (subst (λ (c : Cursor). HasGoneOn c (cursor_of new source) target) (p.rest source (omega arith)) q.on)
    | inr apart ↦ rw (q.rest other apart) (p.on other (omega arith))
  ];
  rest = λ other l. q.rest other (λ same. absurd (omega arith)) ∙ p.rest other (omega arith);
}

-- a cursor that is not yet reached is behind the target
pub behind_at : (old now : List Cursor) (target source : ℕ) → HaveGoneOn old now target source → source < length old → AreBehind old target → IsBehind (cursor_of now source) target
behind_at old now target source p l behind = rw (p.rest source (omega arith)) (behind source l)

-- a cursor over the target is behind the next one
pub behind_next : (cursors : List Cursor) (target : ℕ) → ((source : ℕ) → source < length cursors → IsOver (cursor_of cursors source) target) → AreBehind cursors (target + 1)
behind_next cursors target over source l =
    let o = over source l in
    let f = o.from in
    let u = o.upto in
    record { from = omega arith; before = λ some. omega arith; upto = omega arith }

-- at the first run of its row a cursor is behind the first target
pub behind_first : (row : List Run) (places : ℕ) (cursor : Cursor) → IsRow row places → HasRun row places cursor → cursor.run ≡ 0 → IsBehind cursor 0
behind_first row places cursor is p first =
    let start : cursor.start ≡ 0 = p.starts ∙ ap (start_at row) first ∙ is.rises.first in
    record { from = omega arith; before = λ some. absurd (omega arith); upto = omega arith }

-- one cursor more
pub record AreBegun (rows : List (List Run)) (near : List (List ℕ)) (cursors : List Cursor) (upto : ℕ) : Type 0 where
  pub whole : length cursors ≡ upto
  pub each : (source : ℕ) → source < upto → IsCursor (row_at rows source) (edges_of near source) (length near) (cursor_of cursors source)
  pub first : (source : ℕ) → source < upto → (cursor_of cursors source).run ≡ 0

pub begun_more : (rows : List (List Run)) (near : List (List ℕ)) (cursors now : List Cursor) (source : ℕ) (new : Cursor) → AreBegun rows near cursors source
    → IsCursor (row_at rows source) (edges_of near source) (length near) new → new.run ≡ 0 → now ≡ cursors ++ new ∷ [] → length now ≡ source + 1 → AreBegun rows near now (source + 1)
begun_more rows near cursors now source new p is first joined size =
    let here : cursor_of now source ≡ new = ap (λ xs. cursor_of xs source) joined ∙ ap (cursor_of (cursors ++ new ∷ [])) (sym p.whole) ∙ get_or-append_seam cursors new [] no_cursor in
    let aside : (other : ℕ) → other < source → cursor_of now other ≡ cursor_of cursors other
    = λ other l. ap (λ xs. cursor_of xs other) joined ∙ get_or_append_left cursors (new ∷ []) no_cursor other (let w = p.whole in omega arith) in
    record {
      whole = size;
      each = λ other l. elim (cases_eq other source) [
        | inl same ↦ rw (same, here) is
        | inr apart ↦ rw (aside other (omega arith)) (p.each other (omega arith))
      ];
      first = λ other l. elim (cases_eq other source) [
        | inl same ↦ rw (same, here) first
        | inr apart ↦ rw (aside other (omega arith)) (p.first other (omega arith))
      ];
    }
