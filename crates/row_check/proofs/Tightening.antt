-- The common moves of runs, and whether a row is loose at a target.
use Rattle.std.proofs.Common.{◌≡◌, ◌≢◌, ℕ, ◌+◌, ◌%◌, ◌^◌, ◌<◌, ◌≤◌, bit_and, w8, List, length, map, get_or, set, slice_index, inl, inr, refl, sym, ap, subst, ◌∙◌, arith}
use Rattle.std.specs.Int.{trailing_zeros}
use Rattle.std.specs.Int.Bits.{and_lt}
use Rattle.std.proofs.lemmas.Bool.{cases_lt, cases_eq}
use Rattle.std.proofs.lemmas.List.{get_or-map, length-map, get_or-set_same, get_or-set_other, length-set}
use Rattle.run_pack.specs.declared.Run.{Run}
use Rattle.run_pack.specs.Runs.{Rises, start_at, move_at, no_run, run_of_word}
use Rattle.run_pack.specs.Sets.{Has, IsCommon, IsLeastCommon, IsLeastIn}
use Rattle.run_pack.proofs.SetLemmas.{Has-and, Has-and_left, Has-and_right, Has-below, Has-trailing_zeros, IsLeastIn-trailing_zeros, none_in_empty}
use Rattle.run_pack.proofs.RowLemmas.{start_at-le, start_at-lt, start_at-inside, get_or-starts_of}
use Rattle.row_store.specs.Rows.{row_at}
use Rattle.row_check.specs.declared.cursors.Cursor.{Cursor}
use Rattle.row_check.specs.Faults.{IsLooseAt, could_go_on, not_least, last_not_least}
use Rattle.row_check.specs.Following.{cursor_of, HasRun, IsOver}
use Rattle.row_check.specs.Joining.{IsEnded, IsJoined, IsNextSet, IsAdded, IsTaken, IsFoundLoose, AreTaken, IsFirstFoundLoose}

-- ---- starts

-- two runs that start at one place are one
pub one_start : (row : List Run) → Rises row → (i j : ℕ) → i < length row → j < length row → start_at row i ≡ start_at row j → i ≡ j
one_start row rises i j p q same = elim (cases_lt i j) [
  | inl less ↦ absurd (let step = start_at-lt row rises i (omega arith) in let far = start_at-le row rises (i + 1) j (omega arith) q in omega arith)
  | inr from ↦ elim (cases_lt j i) [
    | inl less ↦ absurd (let step = start_at-lt row rises j (omega arith) in let far = start_at-le row rises (j + 1) i (omega arith) p in omega arith)
    | inr upto ↦ omega arith
  ]
]

-- where some run starts at the target, the run that covers the target is that one
pub covering_starts : (row : List Run) (places target k : ℕ) (cursor : Cursor) → HasRun row places cursor → IsOver cursor target → k < length row → start_at row k ≡ target → cursor.run ≡ k
covering_starts row places target k cursor has over l at =
    let from = over.from in
    let upto = over.upto in
    let starts = has.starts in
    let ends = has.ends in
    elim (cases_lt cursor.run k) [
      | inl less ↦ absurd (let next = get_or-starts_of row (cursor.run + 1) places (omega arith) in let far = start_at-le row has.is_row.rises (cursor.run + 1) k (omega arith) l in omega arith)
      | inr more ↦ one_start row has.is_row.rises cursor.run k has.within l (let far = start_at-le row has.is_row.rises k cursor.run more has.within in omega arith)
    ]

-- the run that covers the last place is the last
pub covering_last : (row : List Run) (places target : ℕ) (cursor : Cursor) → HasRun row places cursor → IsOver cursor target → target + 1 ≡ places → cursor.run + 1 ≡ length row
covering_last row places target cursor has over last = elim (cases_lt (cursor.run + 1) (length row)) [
  | inl more ↦ absurd (
      let next = get_or-starts_of row (cursor.run + 1) places more in
      let inside = start_at-inside row places has.is_row (cursor.run + 1) more in
      let upto = over.upto in
      let ends = has.ends in
      omega arith)
  | inr past ↦ (let w = has.within in omega arith)
]

-- the first run that starts elsewhere than at the first place starts later
pub starts_later : (row : List Run) → Rises row → (k : ℕ) → k + 1 < length row → 0 < start_at row (k + 1)
starts_later row rises k more = (let step = start_at-lt row rises k more in omega arith)

-- the move of a run, read in its word
pub word_move : (words : List ℕ) (row : List Run) (k : ℕ) → map run_of_word words ≡ row → k < length row → (get_or words k 0) % 8 ≡ move_at row k
word_move words row k same within =
    let size : length (map run_of_word words) ≡ length words = length-map words run_of_word in
    let long : length (map run_of_word words) ≡ length row = ap length same in
    let read = get_or-map run_of_word words k 0 no_run (omega arith) in
    ap (λ (r : Run). r.mv) (sym read) ∙ ap (λ rs. move_at rs k) same

-- ---- the least of the common moves

pub least_common : (row : List Run) (sets : List ℕ) (upto run common move : ℕ) → IsJoined row sets upto run common → IsLeastIn common move → IsLeastCommon sets (start_at row run) upto move
least_common row sets upto run common move p least = record {
  common = record { number = least.number; everywhere = (p.shared move least.number).0 least.member };
  least = λ other its. least.least other ((p.shared other its.number).1 its.everywhere);
}

pub least_in : (row : List Run) (sets : List ℕ) (upto run common move : ℕ) → common < 256 → IsJoined row sets upto run common → IsLeastCommon sets (start_at row run) upto move → IsLeastIn common move
least_in row sets upto run common move byte p least = record {
  number = least.common.number;
  member = (p.shared move least.common.number).1 least.common.everywhere;
  least = λ other has.
      let number = Has-below common other byte has in
      least.least other (record { number = number; everywhere = (p.shared other number).0 has });
}

-- ---- one set more

-- the common moves of the sets and of one more
shared_more : (row : List Run) (sets : List ℕ) (target run common set : ℕ) → IsJoined row sets target run common → slice_index sets target ≡ set
    → (move : ℕ) → move < 8 → Has common move → Has set move → IsCommon sets (start_at row run) (target + 1) move
shared_more row sets target run common set p is move number a b = record {
  number = number;
  everywhere = λ place from upto. elim (cases_eq place target) [
    | inl same ↦ rw (same, is) b
    | inr apart ↦ (p.shared move number).0 a place from (omega arith)
  ];
}

-- and back
common_of : (row : List Run) (sets : List ℕ) (target run common set : ℕ) → IsJoined row sets target run common → slice_index sets target ≡ set → start_at row run ≤ target
    → (move : ℕ) → IsCommon sets (start_at row run) (target + 1) move → Has common move × Has set move
common_of row sets target run common set p is from move c = (
  (p.shared move c.number).1 (λ place start upto. c.everywhere place start (omega arith)),
  subst (λ s. Has s move) is (c.everywhere target from (omega arith)),
)

module _ (row : List Run) (places target : ℕ) (cursor : Cursor) (common set : ℕ) (has : HasRun row places cursor) (over : IsOver cursor target) where
  from_start : start_at row cursor.run ≤ target
  from_start = (let s = has.starts in let f = over.from in omega arith)

  -- no run starts at the target
  pub added_going : (0 < target → cursor.start ≢ target) → IsAdded row places target cursor common set (bit_and common set)
  added_going going sets next =
      let p = next.before.going going in (
        record {
          ended = p.ended;
          shared = λ move number. (
            λ h. (shared_more row sets target cursor.run common set p next.is move number (Has-and_left common set move h) (Has-and_right common set move h)).everywhere,
            λ every. let both = common_of row sets target cursor.run common set p next.is from_start move (record { number = number; everywhere = every }) in
                Has-and common set move both.0 both.1,
          );
        },
        λ k more at. absurd (
            let same = covering_starts row places target (k + 1) cursor has over more at in
            let start : cursor.start ≡ target = has.starts ∙ ap (start_at row) same ∙ at in
            let later = starts_later row has.is_row.rises k more in
            going (omega arith) start),
      )

  module _ (some : 0 < target) (start : cursor.start ≡ target) where
    run_starts : start_at row cursor.run ≡ target
    run_starts = sym has.starts ∙ start

    -- the run before
    before : (sets : List ℕ) → IsNextSet row places target cursor common set sets → (k : ℕ) × (cursor.run ≡ k + 1) × IsJoined row sets target k common
    before sets next = next.before.starting some start

    next_starts : (k : ℕ) → cursor.run ≡ k + 1 → start_at row (k + 1) ≡ target
    next_starts k is = ap (start_at row) (sym is) ∙ run_starts

    has_more : (k : ℕ) → cursor.run ≡ k + 1 → k + 1 < length row
    has_more k is = (let w = has.within in omega arith)

    starts_before : (k : ℕ) → cursor.run ≡ k + 1 → start_at row k ≤ target
    starts_before k is = (let step = start_at-lt row has.is_row.rises k (has_more k is) in let n = next_starts k is in omega arith)

    -- there is a run before
    pub some_run : cursor.run ≢ 0
    some_run none = (let first : start_at row cursor.run ≡ 0 = ap (start_at row) none ∙ has.is_row.rises.first in let s = run_starts in absurd (omega arith))

    -- it could go on
    pub loose_going_on : common < 256 → set < 256 → bit_and common set ≢ 0 → IsFoundLoose row places target cursor common set
    loose_going_on byte other_byte shared sets next =
        let b = before sets next in
        let small : bit_and common set < 2 ^ 8 = and_lt 8 common set byte other_byte in
        let both = Has-trailing_zeros (bit_and common set) (omega arith) small in
        let number = (IsLeastIn-trailing_zeros (bit_and common set) (omega arith) small).number in
        could_go_on b.0 (has_more b.0 b.1) (next_starts b.0 b.1) (trailing_zeros w8 (bit_and common set))
        (shared_more row sets target b.0 common set b.2 next.is _ number (Has-and_left common set _ both) (Has-and_right common set _ both))

    -- it has not the least of its common moves
    pub loose_not_least : common < 256 → (move : ℕ) → ((k : ℕ) → cursor.run ≡ k + 1 → move ≡ move_at row k) → (IsLeastIn common move → ⊥) → IsFoundLoose row places target cursor common set
    loose_not_least byte move is without sets next =
        let b = before sets next in
        not_least b.0 (has_more b.0 b.1) (next_starts b.0 b.1)
        (λ least. without (subst (IsLeastIn common) (sym (is b.0 b.1)) (least_in row sets target b.0 common (move_at row b.0) byte b.2 least)))

    -- it is ended
    pub added_starting : bit_and common set ≡ 0 → (move : ℕ) → ((k : ℕ) → cursor.run ≡ k + 1 → move ≡ move_at row k) → IsLeastIn common move → IsAdded row places target cursor common set set
    added_starting none move is least sets next =
        let b = before sets next in
        let k = b.0 in
        let at = next_starts k b.1 in
        let kept : IsLeastIn common (move_at row k) = subst (IsLeastIn common) (is k b.1) least in
        let ended : IsEnded row sets k = record {
          least = rw at (least_common row sets target k common (move_at row k) b.2 kept);
          maximal = λ other c.
              let c' : IsCommon sets (start_at row k) (target + 1) other = rw at at c in
              let both = common_of row sets target k common set b.2 next.is (starts_before k b.1) other c' in
              none_in_empty other (subst (λ s. Has s other) none (Has-and common set other both.0 both.1));
        } in (
          record {
            ended = λ j less. elim (cases_eq j k) [
              | inl same ↦ rw same ended
              | inr apart ↦ b.2.ended j (let e = b.1 in omega arith)
            ];
            shared = λ other number. (
              λ h place from upto. (let here : place ≡ target = (let s = run_starts in omega arith) in rw (here, next.is) h),
              λ every. subst (λ s. Has s other) next.is (every target (let s = run_starts in omega arith) (omega arith)),
            );
          },
          λ j more start_j.
              let same = covering_starts row places target (j + 1) cursor has over more start_j in
              let is_k : j ≡ k = (let e = b.1 in omega arith) in
              rw is_k ended,
        )

  -- ---- the last place

  pub loose_last : (now move : ℕ) → now < 256 → IsAdded row places target cursor common set now → target + 1 ≡ places → move ≡ move_at row cursor.run → (IsLeastIn now move → ⊥) → IsFoundLoose row places target cursor common set
  loose_last now move byte added last is without sets next =
      let p = (added sets next).0 in
      last_not_least cursor.run (covering_last row places target cursor has over last) (last ∙ sym next.size)
      (λ least. without (subst (IsLeastIn now) (sym is) (least_in row sets (target + 1) cursor.run now (move_at row cursor.run) byte p least)))

  pub taken : (now : ℕ) → IsAdded row places target cursor common set now → (target + 1 ≡ places → IsLeastIn now (move_at row cursor.run)) → IsTaken row places target cursor common set now
  taken now added least sets next = (p, never)
    where
      p : IsJoined row sets (target + 1) cursor.run now
      p = (added sets next).0

      never : IsLooseAt row sets target → ⊥
      never (could_go_on k more at move c) = ((added sets next).1 k more at).maximal move (rw at c)
      never (not_least k more at no_least) = no_least (rw at at ((added sets next).1 k more at).least)
      never (last_not_least k end all no_least) =
          let last : target + 1 ≡ places = all ∙ next.size in
          let same : k ≡ cursor.run = (let e = covering_last row places target cursor has over last in omega arith) in
          no_least (rw same (least_common row sets (target + 1) cursor.run now (move_at row cursor.run) p (least last)))

-- ---- all sources

pub taken_none : (rows : List (List Run)) (cursors : List Cursor) (target : ℕ) (before sets : List ℕ) → AreTaken rows cursors target before sets before 0
taken_none rows cursors target before sets = record { whole = refl; each = λ source l. absurd (omega arith); rest = λ source l. refl }

pub taken_more : (rows : List (List Run)) (cursors : List Cursor) (target : ℕ) (before sets now : List ℕ) (source new : ℕ) → AreTaken rows cursors target before sets now source → source < length before
    → IsTaken (row_at rows source) (length cursors) target (cursor_of cursors source) (slice_index now source) (slice_index sets source) new
    → AreTaken rows cursors target before sets (set now source new) (source + 1)
taken_more rows cursors target before sets now source new p l is = record {
  whole = length-set now source new ∙ p.whole;
  each = λ other m. elim (cases_eq other source) [
    | inl same ↦
        let here : slice_index (set now source new) source ≡ new = get_or-set_same now source new 0 (let w = p.whole in omega arith) in
        rw (same, here) (subst (λ c. IsTaken (row_at rows source) (length cursors) target (cursor_of cursors source) c (slice_index sets source) new) (p.rest source (omega arith)) is)
    | inr apart ↦ rw (get_or-set_other now source other new 0 apart) (p.each other (omega arith))
  ];
  rest = λ other m. get_or-set_other now source other new 0 (λ same. absurd (omega arith)) ∙ p.rest other (omega arith);
}

pub first_loose : (rows : List (List Run)) (cursors : List Cursor) (target : ℕ) (before sets now : List ℕ) (source : ℕ) → AreTaken rows cursors target before sets now source → source < length cursors
    → IsFoundLoose (row_at rows source) (length cursors) target (cursor_of cursors source) (slice_index now source) (slice_index sets source)
    → IsFirstFoundLoose rows cursors target before sets source
first_loose rows cursors target before sets now source p l is = record {
  within = l;
  loose = subst (λ c. IsFoundLoose (row_at rows source) (length cursors) target (cursor_of cursors source) c (slice_index sets source)) (p.rest source (omega arith)) is;
  earlier = λ other m. (slice_index now other, p.each other m);
}
