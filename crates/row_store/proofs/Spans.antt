-- Rows that lie in blocks of words.
use Rattle.std.proofs.Common.{◌≡◌, ℕ, Result, Ok, Err, OnErr, zero, suc, ◌+◌, ◌-◌, ◌*◌, ◌<◌, ◌≤◌, ◌⊎◌, List, [], ◌∷◌, ◌++◌, length, map, take, drop, get_or, set, replicate, All, sum_by, inl, inr, arith, refl, sym, ap, subst, ◌∙◌}
use Rattle.std.proofs.Math.ListN.{get_or-append}
use Rattle.std.proofs.Math.Seq.{drop-append_seam, get_or-append_seam}
use Rattle.std.proofs.lemmas.Bool.{cases_eq, cases_lt}
use Rattle.std.proofs.lemmas.List.{length-append, length-map, length-set, length-drop, length-take, length-take-le, length-replicate, drop-append-le, take-append-le, take_all, map-append, map-set, get_or-map, get_or-replicate, get_or-set_same, get_or-set_other, get_or_default, get_or-append-add, same_lists, length_push, append-nil, append_assoc}
use Rattle.std.proofs.lemmas.List.Elements.{All-push, All-set, All-replicate}
use Rattle.std.proofs.lemmas.List.Sums.{sum_by-append, sum_by-cons, sum_by-set, sum_by-le}
use Rattle.std.proofs.lemmas.List.Folds.{sum_by-replicate}
use Rattle.run_pack.specs.declared.Run.{Run}
use Rattle.run_pack.specs.declared.TheConstants.{MAX_PLACES}
use Rattle.run_pack.specs.Runs.{word_of, run_of_word, AppendsRow}
use Rattle.run_pack.proofs.RowLemmas.{length-row}
use Rattle.run_pack.proofs.Words.{map-run_of_word}
use Rattle.moves.specs.declared.TheConstants.{MAX_PASSABLE}
use Rattle.row_store.specs.declared.pool.Span.{Span}
use Rattle.row_store.specs.declared.pool.TheConstants.{MAX_BLOCKS}
use Rattle.row_store.specs.Rows.{row_at}
use Rattle.row_store.specs.Pools.{AreMerged, AreMergedInPart, CanBeKept, PushesPacked, PutsPacked, merged}
use Rattle.row_store.specs.Layout.{block_numbered, blocks_of, row_in, rows_in, AreSpans, CanBeSpan, moved, nowhere, span_at, AreApart, AreFilled, IsFilled}

-- functions that agree on each element of a list
pub map_same_on : {X Y : Type 0} (f g : X → Y) (xs : List X) → All (λ x. f x ≡ g x) xs → map f xs ≡ map g xs
map_same_on f g [] same = refl
map_same_on f g (x ∷ xs) same =
    let head : f x ≡ g x = same 0 x (omega arith) in
    let rest : map f xs ≡ map g xs = map_same_on f g xs (λ k d within. same (suc k) d (omega arith)) in
    rw (head, rest) refl

-- a list has as many elements where each is seen as another
pub counted : {X Y : Type 0} (f : X → Y) (xs : List X) (count : ℕ) → count ≡ length xs → count ≡ length (map f xs)
counted f xs count is = is ∙ sym (length-map xs f)

-- ---- blocks that only grow

-- each block begins as it was
abbrev pub Grow : List (List ℕ) → List (List ℕ) → Type 0
Grow blocks new =
    (number : ℕ) → number < length blocks → (more : List ℕ) × (block_numbered new number ≡ block_numbered blocks number ++ more)

-- more words at the end of the last block
last_grows : (closed : List (List ℕ)) (words more : List ℕ) → Grow (blocks_of closed words) (blocks_of closed (words ++ more))
last_grows closed words more number within = elim (cases_lt number (length closed)) [
  | inl low ↦
      let now = get_or-append closed ((words ++ more) ∷ []) [] number low in
      let before = get_or-append closed (words ∷ []) [] number low in
      let none = append-nil (block_numbered (blocks_of closed words) number) in
      ([], now ∙ sym before ∙ sym none)
  | inr high ↦
      let last : number ≡ length closed = omega (arith, length_push closed words) in
      let now = get_or-append_seam closed (words ++ more) [] [] in
      let before = get_or-append_seam closed words [] [] in
      (more, rw last (now ∙ ap (λ block. block ++ more) (sym before)))
]

-- more blocks behind the others
left_grows : (blocks others : List (List ℕ)) → Grow blocks (blocks ++ others)
left_grows blocks others number within =
    ([], get_or-append blocks others [] number within ∙ sym (append-nil (block_numbered blocks number)))

-- ---- one row

-- a row that lies in its block has as many runs as its span has words
pub length-row_in : (blocks : List (List ℕ)) (span : Span) → span.start + span.len ≤ length (block_numbered blocks span.block) → length (row_in blocks span) ≡ span.len
unfolding row_in
length-row_in blocks span inside =
    let words = block_numbered blocks span.block in
    let rest = length-drop span.start words in
    length-map (take span.len (drop span.start words)) run_of_word ∙ length-take-le span.len (drop span.start words) (omega arith)

-- where blocks grow no row changes
row_in-grown : (blocks new : List (List ℕ)) (span : Span) → Grow blocks new → span.block < length blocks
    → span.start + span.len ≤ length (block_numbered blocks span.block) → row_in new span ≡ row_in blocks span
unfolding row_in
row_in-grown blocks new span grow there inside =
    let words = block_numbered blocks span.block in
    let grown = grow span.block there in
    let rest = length-drop span.start words in
    let start = drop-append-le span.start words grown.0 (omega arith) in
    let part = take-append-le span.len (drop span.start words) grown.0 (omega arith) in
    rw (grown.1, start, part) refl

-- the words that come last in their block
row_in-last : (blocks : List (List ℕ)) (words more : List ℕ) (span : Span) → block_numbered blocks span.block ≡ words ++ more
    → span.start ≡ length words → span.len ≡ length more → row_in blocks span ≡ map run_of_word more
unfolding row_in
row_in-last blocks words more span is start len =
    rw (is, start, len, drop-append_seam words more, take_all (length more) more (omega arith)) refl

-- the words of a row whose block comes behind others
row_in-moved : (blocks others : List (List ℕ)) (span : Span) → row_in (blocks ++ others) (moved (length blocks) span) ≡ row_in others span
unfolding row_in
row_in-moved blocks others span =
    let same : block_numbered (blocks ++ others) (length blocks + span.block) ≡ block_numbered others span.block =
    get_or-append-add blocks others span.block [] in
    rw same refl

-- no words are no row
row_in-none : (blocks : List (List ℕ)) (span : Span) → span.len ≡ 0 → row_in blocks span ≡ []
unfolding row_in
row_in-none blocks span len = rw len refl

-- ---- all rows

rows_in-grown : (blocks new : List (List ℕ)) (spans : List Span) → AreSpans blocks spans → Grow blocks new → rows_in new spans ≡ rows_in blocks spans
rows_in-grown blocks new spans p grow =
    map_same_on (row_in new) (row_in blocks) spans
    (λ k d within. row_in-grown blocks new (get_or spans k d) grow (p.there k d within) (p.inside k d within))

-- as many words as the rows have runs
pub sum_by-rows_in : (blocks : List (List ℕ)) (spans : List Span)
    → All (λ span. span.start + span.len ≤ length (block_numbered blocks span.block)) spans
    → sum_by length (rows_in blocks spans) ≡ sum_by (λ span. span.len) spans
sum_by-rows_in blocks [] inside = refl
sum_by-rows_in blocks (span ∷ spans) inside =
    let first = sum_by-cons length (row_in blocks span) (rows_in blocks spans) in
    let other = sum_by-cons (λ span. span.len) span spans in
    let len = length-row_in blocks span (inside 0 span (omega arith)) in
    let rest = sum_by-rows_in blocks spans (λ k d within. inside (suc k) d (omega arith)) in
    first ∙ (rw (len, rest) (sym other))

pub count_of_words : (blocks : List (List ℕ)) (spans : List Span) → AreSpans blocks spans → sum_by length (rows_in blocks spans) ≡ sum_by length blocks
count_of_words blocks spans p = sum_by-rows_in blocks spans p.inside ∙ p.all

pub few_words : (blocks : List (List ℕ)) (spans : List Span) → AreSpans blocks spans → sum_by length blocks ≤ 1073741824
few_words blocks spans p =
    omega (arith, p.all, p.few, sum_by-le (λ span. span.len) MAX_PLACES spans p.short)

-- the last block has no more than all
sum_of_blocks : (closed : List (List ℕ)) (words : List ℕ) → sum_by length (blocks_of closed words) ≡ sum_by length closed + length words
sum_of_blocks closed words = omega (arith, sum_by-append length closed (words ∷ []), sum_by-cons length words [])

pub few_last : (closed : List (List ℕ)) (words : List ℕ) (spans : List Span) → AreSpans (blocks_of closed words) spans → length words ≤ 1073741824
few_last closed words spans p = omega (arith, few_words (blocks_of closed words) spans p, sum_of_blocks closed words)

-- a block has a number of sixteen bits
pub few_closed : (closed : List (List ℕ)) (words : List ℕ) (spans : List Span) → AreSpans (blocks_of closed words) spans → length closed < MAX_BLOCKS
few_closed closed words spans p = omega (arith, p.numbered, length_push closed words)

-- words that were added at the end of the last block can be those of a row
pub can_be_span : (closed : List (List ℕ)) (words more new : List ℕ) (spans : List Span)
    → AreSpans (blocks_of closed words) spans → length new ≡ length words + length more → length more ≤ MAX_PLACES
    → CanBeSpan (length closed) (length words) (length new)
can_be_span closed words more new spans p size short = record {
  number = few_closed closed words spans p;
  order = omega (arith, size);
  short = omega (arith, size, short);
  limit = omega (arith, size, short, few_last closed words spans p);
}

-- where blocks grow each span stays inside
inside_grown : (blocks new : List (List ℕ)) (spans : List Span) → AreSpans blocks spans → Grow blocks new
    → All (λ span. span.start + span.len ≤ length (block_numbered new span.block)) spans
inside_grown blocks new spans p grow = λ k d within.
    (let span = get_or spans k d in
    let grown = grow span.block (p.there k d within) in
    let size : length (block_numbered new span.block) ≡ length (block_numbered blocks span.block) + length grown.0 =
    ap length grown.1 ∙ length-append (block_numbered blocks span.block) grown.0 in
    omega (arith, p.inside k d within))

module _ (closed : List (List ℕ)) (words more : List ℕ) (spans : List Span) (p : AreSpans (blocks_of closed words) spans) (span : Span)
    (block : span.block ≡ length closed) (start : span.start ≡ length words) (len : span.len ≡ length more)
    (short : length more ≤ MAX_PLACES) where
  abbrev before : List (List ℕ)
  before = blocks_of closed words

  abbrev now : List (List ℕ)
  now = blocks_of closed (words ++ more)

  grow : Grow before now
  grow = last_grows closed words more

  last_block : block_numbered now span.block ≡ words ++ more
  last_block = rw block (get_or-append_seam closed (words ++ more) [] [])

  last_inside : span.start + span.len ≤ length (block_numbered now span.block)
  last_inside = rw last_block (omega (arith, length-append words more))

  as_many : length now ≡ length before
  as_many = omega (arith, length_push closed (words ++ more), length_push closed words)

  last_there : span.block < length now
  last_there = omega (arith, length_push closed (words ++ more))

  all_there : All (λ s. s.block < length now) spans
  all_there = λ k d within. omega (arith, p.there k d within, as_many)

  sum_now : sum_by length now ≡ sum_by length before + length more
  sum_now = omega (arith, sum_of_blocks closed (words ++ more), sum_of_blocks closed words, length-append words more)

  sum_of_one : sum_by (λ (s : Span). s.len) (span ∷ []) ≡ span.len
  sum_of_one = omega (arith, sum_by-cons (λ (s : Span). s.len) span [])

  -- the last words are a row more
  pub spans_pushed : length spans < MAX_PASSABLE → AreSpans now (spans ++ span ∷ [])
  spans_pushed few = record {
    there = All-push (λ s. s.block < length now) spans span all_there last_there;
    inside = All-push (λ s. s.start + s.len ≤ length (block_numbered now s.block)) spans span (inside_grown before now spans p grow) last_inside;
    short = All-push (λ s. s.len ≤ MAX_PLACES) spans span p.short (omega arith);
    few = omega (arith, length_push spans span);
    numbered = omega (arith, p.numbered, as_many);
    all = omega (arith, sum_by-append (λ s. s.len) spans (span ∷ []), p.all, sum_now, sum_of_one);
  }

  pub rows_pushed : rows_in now (spans ++ span ∷ []) ≡ rows_in before spans ++ map run_of_word more ∷ []
  rows_pushed =
      rw (map-append (row_in now) spans (span ∷ []), rows_in-grown before now spans p grow, row_in-last now words more span last_block start len) refl

  module _ (place : ℕ) (within : place < length spans) (empty : row_at (rows_in before spans) place ≡ []) where
    -- a row without runs has no words
    none_before : (get_or spans place nowhere).len ≡ 0
    none_before =
        let at = get_or-map (row_in before) spans place nowhere [] within in
        let none : row_in before (get_or spans place nowhere) ≡ [] = sym at ∙ empty in
        let len = length-row_in before (get_or spans place nowhere) (p.inside place nowhere within) in
        let zero : length (row_in before (get_or spans place nowhere)) ≡ 0 = ap length none in
        omega arith

    -- the last words are a row that had none
    pub spans_put : AreSpans now (set spans place span)
    spans_put = record {
      there = All-set (λ s. s.block < length now) spans place span last_there all_there;
      inside = All-set (λ s. s.start + s.len ≤ length (block_numbered now s.block)) spans place span last_inside (inside_grown before now spans p grow);
      short = All-set (λ s. s.len ≤ MAX_PLACES) spans place span (omega arith) p.short;
      few = omega (arith, length-set spans place span, p.few);
      numbered = omega (arith, p.numbered, as_many);
      all = omega (arith, none_before, sum_by-set (λ s. s.len) spans place span nowhere within, p.all, sum_now);
    }

    pub rows_put : rows_in now (set spans place span) ≡ set (rows_in before spans) place (map run_of_word more)
    rows_put =
        rw (map-set (row_in now) spans place span, rows_in-grown before now spans p grow, row_in-last now words more span last_block start len) refl

-- ---- two pools of as many rows

-- what holds of the span at each place holds of all
all_spans : (P : Span → Type 0) (spans : List Span) → ((k : ℕ) → k < length spans → P (span_at spans k)) → All P spans
all_spans P spans each = λ k d within. subst P (get_or_default spans k nowhere d within) (each k within)

-- the sum of a list whose elements are sums
sum_of_both : (a b c : List Span) → length a ≡ length c → length b ≡ length c
    → ((k : ℕ) → k < length c → (span_at c k).len ≡ (span_at a k).len + (span_at b k).len)
    → sum_by (λ (s : Span). s.len) c ≡ sum_by (λ (s : Span). s.len) a + sum_by (λ (s : Span). s.len) b
sum_of_both [] [] [] p q each = refl
sum_of_both [] (y ∷ b) [] p q each = absurd (omega (arith, q))
sum_of_both (x ∷ a) b [] p q each = absurd (omega (arith, p))
sum_of_both [] b (z ∷ c) p q each = absurd (omega (arith, p))
sum_of_both (x ∷ a) [] (z ∷ c) p q each = absurd (omega (arith, q))
sum_of_both (x ∷ a) (y ∷ b) (z ∷ c) p q each =
    let first : z.len ≡ x.len + y.len = each 0 (omega arith) in
    let rest = sum_of_both a b c (omega (arith, p)) (omega (arith, q)) (λ k within. each (suc k) (omega arith)) in
    omega (arith, first, rest, sum_by-cons (λ (s : Span). s.len) x a, sum_by-cons (λ (s : Span). s.len) y b, sum_by-cons (λ (s : Span). s.len) z c)

merged_own : (row other : List Run) → 0 < length row → merged row other ≡ row
merged_own [] other some = absurd (omega arith)
merged_own (run ∷ runs) other some = refl

module _ (here there : List (List ℕ)) (spans more now : List Span) (p : AreSpans here spans) (q : AreSpans there more)
    (size : length spans ≡ length more) (apart : AreApart spans more (length spans))
    (filled : AreFilled (length here) spans more now (length spans)) (room : length here + length there ≤ MAX_BLOCKS) where
  abbrev both : List (List ℕ)
  both = here ++ there

  abbrev Given : ℕ → Type 0
  Given k = ((span_at spans k).len ≡ 0) × (span_at now k ≡ moved (length here) (span_at more k))

  abbrev Kept : ℕ → Type 0
  Kept k = ((span_at spans k).len ≡ 0 → ⊥) × (span_at now k ≡ span_at spans k)

  given_or_kept : (k : ℕ) → k < length spans → Given k ⊎ Kept k
  given_or_kept k within = elim (cases_eq (span_at spans k).len 0) [
    | inl none ↦ inl (none, (filled.each k within).blank none)
    | inr some ↦ inr (some, (filled.each k within).kept some)
  ]

  len_now : (k : ℕ) → k < length spans → (span_at now k).len ≡ (span_at spans k).len + (span_at more k).len
  len_now k within = elim (given_or_kept k within) [
    | inl given ↦ rw given.1 (omega (arith, given.0))
    | inr kept ↦ elim (apart.each k within) [
      | inl none ↦ absurd (kept.0 none)
      | inr none ↦ rw kept.1 (omega (arith, none))
    ]
  ]

  among : (k : ℕ) → k < length now → k < length spans
  among k within = omega (arith, within, filled.whole)

  among_more : (k : ℕ) → k < length now → k < length more
  among_more k within = omega (arith, within, filled.whole, size)

  pub spans_merged : AreSpans both now
  spans_merged = record {
    there = all_spans (λ s. s.block < length both) now (λ k within. elim (given_or_kept k (among k within)) [
      | inl given ↦ rw given.1 (omega (arith, length-append here there, q.there k nowhere (among_more k within)))
      | inr kept ↦ rw kept.1 (omega (arith, length-append here there, p.there k nowhere (among k within)))
    ]);
    inside = all_spans (λ s. s.start + s.len ≤ length (block_numbered both s.block)) now (λ k within. elim (given_or_kept k (among k within)) [
      | inl given ↦ rw (given.1, get_or-append-add here there (span_at more k).block []) (q.inside k nowhere (among_more k within))
      | inr kept ↦ rw kept.1 (inside_grown here both spans p (left_grows here there) k nowhere (among k within))
    ]);
    short = all_spans (λ s. s.len ≤ MAX_PLACES) now (λ k within. elim (given_or_kept k (among k within)) [
      | inl given ↦ rw given.1 (q.short k nowhere (among_more k within))
      | inr kept ↦ rw kept.1 (p.short k nowhere (among k within))
    ]);
    few = omega (arith, filled.whole, p.few);
    numbered = omega (arith, length-append here there, room);
    all =
        let sum = sum_of_both spans more now (sym filled.whole) (omega (arith, filled.whole, size)) (λ k within. len_now k (among k within)) in
        omega (arith, sum, p.all, q.all, sum_by-append length here there);
  }

  merged_at : (k : ℕ) → k < length spans → row_in both (span_at now k) ≡ merged (row_in here (span_at spans k)) (row_in there (span_at more k))
  merged_at k within = elim (given_or_kept k within) [
    | inl given ↦ rw (given.1, row_in-none here (span_at spans k) given.0) (row_in-moved here there (span_at more k))
    | inr kept ↦
        let inside = p.inside k nowhere within in
        let grown = row_in-grown here both (span_at spans k) (left_grows here there) (p.there k nowhere within) inside in
        let len = length-row_in here (span_at spans k) inside in
        let some : 0 < length (row_in here (span_at spans k)) = elim (cases_lt 0 (span_at spans k).len) [
          | inl more ↦ omega (arith, len, more)
          | inr none ↦ absurd (kept.0 (omega (arith, none)))
        ] in
        rw kept.1 (grown ∙ sym (merged_own (row_in here (span_at spans k)) (row_in there (span_at more k)) some))
  ]

  pub rows_merged : AreMerged (rows_in here spans) (rows_in there more) (rows_in both now)
  rows_merged = record {
    whole = omega (arith, length-map now (row_in both), length-map spans (row_in here), filled.whole);
    each = λ k within.
        (let inside : k < length spans = omega (arith, within, length-map spans (row_in here)) in
        let own = get_or-map (row_in here) spans k nowhere [] inside in
        let other = get_or-map (row_in there) more k nowhere [] (omega (arith, inside, size)) in
        let new = get_or-map (row_in both) now k nowhere [] (omega (arith, inside, filled.whole)) in
        rw (own, other, new) (merged_at k inside));
  }

-- the spans before a place are filled, and one more
pub filled_none : (blocks : ℕ) (before others : List Span) → AreFilled blocks before others before 0
filled_none blocks before others = record { whole = refl; each = λ k within. absurd (omega arith); rest = λ k within. refl }

pub filled_more : (blocks : ℕ) (before others now : List Span) (place : ℕ) (new : Span) → AreFilled blocks before others now place → place < length before
    → IsFilled blocks (span_at now place) (span_at others place) new → AreFilled blocks before others (set now place new) (place + 1)
filled_more blocks before others now place new p within is = record {
  whole = length-set now place new ∙ p.whole;
  each = λ k early. elim (cases_lt k place) [
    | inl low ↦ rw (get_or-set_other now place k new nowhere (λ same. absurd (omega (arith, same, low)))) (p.each k low)
    | inr high ↦
        let here : k ≡ place = omega (arith, early, high) in
        let read : span_at (set now place new) place ≡ new = get_or-set_same now place new nowhere (omega (arith, within, p.whole)) in
        rw (here, read, ← p.rest place (omega arith)) is
  ];
  rest = λ k late. get_or-set_other now place k new nowhere (λ same. absurd (omega (arith, same, late))) ∙ p.rest k (omega (arith, late));
}

-- no place before the next one has words in both lists
pub apart_more : (own others : List Span) (place : ℕ) → AreApart own others place → ((span_at own place).len ≡ 0) ⊎ ((span_at others place).len ≡ 0)
    → AreApart own others (place + 1)
apart_more own others place p here = record {
  each = λ k early. elim (cases_lt k place) [
    | inl low ↦ p.each k low
    | inr high ↦ (let same : k ≡ place = omega (arith, early, high) in rw same here)
  ];
}

-- the last block of the one pool stands before the blocks of the other
blocks_joined : (closed more : List (List ℕ)) (words last : List ℕ) → blocks_of (closed ++ words ∷ more) last ≡ blocks_of closed words ++ blocks_of more last
blocks_joined closed more words last =
    append_assoc closed (words ∷ more) (last ∷ []) ∙ sym (append_assoc closed (words ∷ []) (blocks_of more last))

-- ---- empty rows

no_runs : (row : List Run) → length row ≡ 0 → row ≡ []
no_runs [] none = refl
no_runs (run ∷ runs) none = absurd (omega (arith, none))

-- where the rows have no runs, each of them is blank
all_blank : (rows : List (List Run)) (place : ℕ) → sum_by length rows ≡ 0 → row_at rows place ≡ []
all_blank [] place none = refl
all_blank (row ∷ rows) zero none = no_runs row (omega (arith, none, sum_by-cons length row rows))
all_blank (row ∷ rows) (suc place) none = all_blank rows place (omega (arith, none, sum_by-cons length row rows))

-- blank rows become those of the other pool
pub none_merged : (rows others : List (List Run)) → length rows ≡ length others → sum_by length rows ≡ 0 → AreMerged rows others others
none_merged rows others size none = record {
  whole = sym size;
  each = λ place within. (rw (all_blank rows place none) refl);
}

pub spans_blank : (count : ℕ) (span : Span) → span.start ≡ 0 → span.len ≡ 0 → span.block ≡ 0 → count ≤ MAX_PASSABLE → AreSpans (blocks_of [] []) (replicate count span)
spans_blank count span start len block few = record {
  there = All-replicate (λ s. s.block < 1) count span (omega arith);
  inside = All-replicate (λ s. s.start + s.len ≤ length (block_numbered (blocks_of [] []) s.block)) count span (rw (start, len, block) (omega arith));
  short = All-replicate (λ s. s.len ≤ MAX_PLACES) count span (omega arith);
  few = omega (arith, length-replicate count span);
  numbered = omega arith;
  all =
      let product : count * span.len ≡ 0 = rw len (omega arith) in
      let none = sum_of_blocks [] [] in
      sum_by-replicate (λ s. s.len) count span ∙ product ∙ sym none;
}

pub rows_blank : (count : ℕ) (span : Span) → span.len ≡ 0 → rows_in (blocks_of [] []) (replicate count span) ≡ replicate count []
rows_blank count span len =
    let spans = replicate count span in
    let size = length-replicate count span in
    let rows = length-map spans (row_in (blocks_of [] [])) in
    let blank = length-replicate {A = List Run} count [] in
    same_lists (rows_in (blocks_of [] []) spans) (replicate count []) (omega arith) (λ k d within.
    (let inside : k < length spans = omega arith in
    let below : k < count = omega arith in
    let read = get_or-map (row_in (blocks_of [] [])) spans k span d inside in
    let same = get_or-replicate count k span span below in
    let none = row_in-none (blocks_of [] []) span len in
    let other = get_or-replicate {A = List Run} count k [] d below in
    read ∙ ap (row_in (blocks_of [] [])) same ∙ none ∙ sym other))

-- ---- as the code reads them

-- as many rows as spans
pub length-rows_in : (blocks : List (List ℕ)) (spans : List Span) → length (rows_in blocks spans) ≡ length spans
length-rows_in blocks spans = length-map spans (row_in blocks)

-- so a row has a span
pub row_has_span : (blocks : List (List ℕ)) (spans : List Span) (place : ℕ) → place < length (rows_in blocks spans) → place < length spans
row_has_span blocks spans place within = omega (arith, length-rows_in blocks spans)

-- and there is room for a span where there is for a row
pub room_for_span : (blocks : List (List ℕ)) (spans : List Span) → length (rows_in blocks spans) < MAX_PASSABLE → length spans < MAX_PASSABLE
room_for_span blocks spans few = omega (arith, length-rows_in blocks spans)

-- the row at a place
pub row_read : (blocks : List (List ℕ)) (words : List ℕ) (spans : List Span) (place : ℕ) (span : Span) → place < length spans → span ≡ get_or spans place nowhere
    → words ≡ block_numbered blocks span.block
    → map run_of_word (take (span.start + span.len - span.start) (drop span.start words)) ≡ row_at (rows_in blocks spans) place
unfolding row_in
row_read blocks words spans place span within is block =
    let len : span.start + span.len - span.start ≡ span.len = omega arith in
    let read = get_or-map (row_in blocks) spans place nowhere [] within in
    rw (len, block, read, ← is) refl

-- it has no more words than a row may have
pub row_short : (blocks : List (List ℕ)) (words : List ℕ) (spans : List Span) (place : ℕ) (span : Span) → AreSpans blocks spans → place < length spans → span ≡ get_or spans place nowhere
    → length (take (span.start + span.len - span.start) (drop span.start words)) ≤ MAX_PLACES
row_short blocks words spans place span p within is =
    let short : span.len ≤ MAX_PLACES = rw is (p.short place nowhere within) in
    omega (arith, length-take (span.start + span.len - span.start) (drop span.start words))

-- the words of a packed row behind the others
module _ (closed : List (List ℕ)) (words new : List ℕ) (spans : List Span) (sets : List ℕ) (p : AreSpans (blocks_of closed words) spans)
    (few : length sets ≤ MAX_PLACES) (appended : AppendsRow words new sets) where
  abbrev added : List ℕ
  added = appended.row

  size_appended : length new ≡ length words + length added
  size_appended = ap length appended.behind ∙ length-append words added

  short_appended : length added ≤ MAX_PLACES
  short_appended =
      omega (arith, length-map added run_of_word, length-row (map run_of_word added) (length sets) appended.packed.tight.row, few)

  pub sets_can_be_span : CanBeSpan (length closed) (length words) (length new)
  sets_can_be_span = can_be_span closed words added new spans p size_appended short_appended

  module _ (span : Span) (block : span.block ≡ length closed) (start : span.start ≡ length words) (end : span.start + span.len ≡ length new) where
    len_appended : span.len ≡ length added
    len_appended = omega (arith, size_appended)

    pub spans_pushed_sets : (now : List Span) → now ≡ spans ++ span ∷ [] → length spans < MAX_PASSABLE → AreSpans (blocks_of closed new) now
    spans_pushed_sets now push room =
        rw (appended.behind, push) (spans_pushed closed words added spans p span block start len_appended short_appended room)

    pub rows_pushed_sets : (now : List Span) → now ≡ spans ++ span ∷ [] → PushesPacked (rows_in (blocks_of closed words) spans) (rows_in (blocks_of closed new) now) sets
    rows_pushed_sets now push =
        let rows : rows_in (blocks_of closed (words ++ added)) now ≡ rows_in (blocks_of closed words) spans ++ map run_of_word added ∷ [] =
        rw push (rows_pushed closed words added spans p span block start len_appended short_appended) in
        record {
          row = map run_of_word added;
          packed = appended.packed;
          last = ap (λ w. rows_in (blocks_of closed w) now) appended.behind ∙ rows;
        }

    module _ (place : ℕ) (within : place < length spans) (empty : row_at (rows_in (blocks_of closed words) spans) place ≡ []) where
      pub spans_put_sets : AreSpans (blocks_of closed new) (set spans place span)
      spans_put_sets = rw appended.behind (spans_put closed words added spans p span block start len_appended short_appended place within empty)

      pub rows_put_sets : PutsPacked (rows_in (blocks_of closed words) spans) (rows_in (blocks_of closed new) (set spans place span)) place sets
      rows_put_sets = record {
        row = map run_of_word added;
        packed = appended.packed;
        there =
            ap (λ w. rows_in (blocks_of closed w) (set spans place span)) appended.behind
            ∙ (rows_put closed words added spans p span block start len_appended short_appended place within empty);
      }

-- the words of runs behind the others
module _ (closed : List (List ℕ)) (words new : List ℕ) (spans : List Span) (runs : List Run) (p : AreSpans (blocks_of closed words) spans)
    (kept : CanBeKept runs) (appended : new ≡ words ++ map word_of runs) where
  abbrev made : List ℕ
  made = map word_of runs

  size_made : length new ≡ length words + length made
  size_made = ap length appended ∙ length-append words made

  short_made : length made ≤ MAX_PLACES
  short_made = omega (arith, length-map runs word_of, kept.few)

  pub runs_can_be_span : CanBeSpan (length closed) (length words) (length new)
  runs_can_be_span = can_be_span closed words made new spans p size_made short_made

  made_back : map run_of_word made ≡ runs
  made_back = map-run_of_word runs (λ k d within. (let small : (get_or runs k d).mv ≤ 7 = kept.moves k d within in omega arith))

  module _ (span : Span) (block : span.block ≡ length closed) (start : span.start ≡ length words) (end : span.start + span.len ≡ length new)
      (now : List Span) (push : now ≡ spans ++ span ∷ []) where
    len_made : span.len ≡ length made
    len_made = omega (arith, size_made)

    pub spans_pushed_runs : length spans < MAX_PASSABLE → AreSpans (blocks_of closed new) now
    spans_pushed_runs room = rw (appended, push) (spans_pushed closed words made spans p span block start len_made short_made room)

    pub rows_pushed_runs : rows_in (blocks_of closed new) now ≡ rows_in (blocks_of closed words) spans ++ runs ∷ []
    rows_pushed_runs =
        rw (appended, push) (rows_pushed closed words made spans p span block start len_made short_made ∙ ap (λ row. rows_in (blocks_of closed words) spans ++ row ∷ []) made_back)

-- the blocks and the spans of a pool are merged with those of another
module _ {X : Type 0} (items : X → List ℕ) (closed more : List X) (words last : List ℕ) (spans others : List Span)
    (p : AreSpans (blocks_of (map items closed) words) spans) (q : AreSpans (blocks_of (map items more) last) others)
    (size : length (rows_in (blocks_of (map items closed) words) spans) ≡ length (rows_in (blocks_of (map items more) last) others))
    (blocks : ℕ) (counted : blocks ≡ length closed + 1) (room : blocks + length more < MAX_BLOCKS) where
  abbrev here : List (List ℕ)
  here = blocks_of (map items closed) words

  abbrev there : List (List ℕ)
  there = blocks_of (map items more) last

  blocks_here : blocks ≡ length here
  blocks_here = omega (arith, counted, length_push (map items closed) words, length-map closed items)

  pub same_size : length spans ≡ length others
  same_size = omega (arith, size, length-map spans (row_in here), length-map others (row_in there))

  pub numbers_fit : All (λ span. blocks + span.block < MAX_BLOCKS) others
  numbers_fit = λ k d within. omega (arith, q.there k d within, room, length_push (map items more) last, length-map more items)

  module _ (new : List X) (ending : X) (now : List Span) (joined : new ≡ closed ++ ending ∷ more) (ends : items ending ≡ words)
      (apart : AreApart spans others (length spans)) (filled : AreFilled blocks spans others now (length spans)) where
    blocks_are : blocks_of (map items new) last ≡ here ++ there
    blocks_are =
        let all_items : map items new ≡ map items closed ++ words ∷ map items more =
        ap (map items) joined ∙ map-append items closed (ending ∷ more) ∙ ap (λ block. map items closed ++ block ∷ map items more) ends in
        ap (λ blocks. blocks_of blocks last) all_items ∙ blocks_joined (map items closed) (map items more) words last

    all_filled : AreFilled (length here) spans others now (length spans)
    all_filled = rw (← blocks_here) filled

    enough : length here + length there ≤ MAX_BLOCKS
    enough = omega (arith, blocks_here, room, length_push (map items more) last, length-map more items)

    pub spans_joined : AreSpans (blocks_of (map items new) last) now
    spans_joined = rw blocks_are (spans_merged here there spans others now p q same_size apart all_filled enough)

    pub rows_joined : AreMerged (rows_in here spans) (rows_in there others) (rows_in (blocks_of (map items new) last) now)
    rows_joined = rw blocks_are (rows_merged here there spans others now p q same_size apart all_filled enough)

-- the words of all blocks, counted block by block
module _ {X : Type 0} (items : X → List ℕ) (closed : List X) (words : List ℕ) where
  sum_by_items : (blocks : List X) → sum_by length (map items blocks) ≡ sum_by (λ block. length (items block)) blocks
  sum_by_items [] = refl
  sum_by_items (block ∷ blocks) =
      let seen = sum_by-cons length (items block) (map items blocks) in
      let counted = sum_by-cons (λ block. length (items block)) block blocks in
      let rest = sum_by_items blocks in
      omega arith

  pub words_counted : sum_by length (blocks_of (map items closed) words) ≡ length words + sum_by (λ block. length (items block)) closed
  words_counted = omega (arith, sum_of_blocks (map items closed) words, sum_by_items closed)

-- rows that are as before are merged up to none
pub unmerged : (old other new : List (List Run)) → new ≡ old → AreMergedInPart old other new
unmerged old other new same = (
  0,
  record {
    whole = ap length same;
    each = λ place less. absurd (omega (arith, less));
    rest = λ place upto. ap (λ rows. row_at rows place) same;
  },
)

-- what holds whatever came holds after an error
pub on_err : {A E : Type 0} (P : Type 0) (result : Result A E) → P → OnErr result P
on_err P (Ok value) holds = _
on_err P (Err error) holds = holds
