-- What packing from the lanes keeps: in each lane the runs that are done, and the one that may still grow.
use Rattle.std.proofs.Common.{◌≡◌, ◌≢◌, ℕ, ◌+◌, ◌^◌, ◌<◌, ◌≤◌, Bool, true, false, cond, eqb, List, [], ◌∷◌, ◌++◌, length, set, get_or, slice_index, replicate, All, refl, sym, ap, subst, ◌∙◌, inl, inr, arith, eqb-true, eq-eqb, below_more}
use Rattle.std.proofs.lemmas.Bool.{cases_eq, cases_lt}
use Rattle.std.proofs.lemmas.List.{get_or-map, get_or-set_same, get_or-set_other, get_or_past, length-set, length-map, map_push}
use Rattle.std.proofs.lemmas.Simd.{get_or-replicate}
use Rattle.run_pack.specs.declared.TheConstants.{MAX_PLACES}
use Rattle.run_pack.specs.Sets.{Has, IsShared, ShareNone, IsLeastIn}
use Rattle.run_pack.specs.Runs.{run_of_word}
use Rattle.run_pack.proofs.SetLemmas.{none_in_empty}
use Rattle.run_pack.proofs.Packing.{IsPackedUpTo, packed_first, packed_longer, packed_cut, packed_all}
use Rattle.lane_rows.specs.Packed.{row_of, sets_in, words_in, ArePackedLanes, HasRunMore, AreCut}

-- a choice by whether a number is another
pub choice : (x z a b : ℕ) → (x ≡ z → cond (eqb x z) a b ≡ a) × ((x ≡ z → ⊥) → cond (eqb x z) a b ≡ b)
choice x z a b = (λ same. ap (λ t. cond t a b) (eq-eqb x z same), λ other. go other (eqb x z) refl)
  where
    go : (x ≡ z → ⊥) → (t : Bool) → eqb x z ≡ t → cond (eqb x z) a b ≡ b
    go other true e = absurd (other (eqb-true _ _ e))
    go other false e = ap (λ t. cond t a b) e

-- ---- one cut, lane by lane

-- the lanes before one are cut, and the others are as they were
pub record IsCutting (old now : List (List ℕ)) (starts next common kept : List ℕ) (place upto : ℕ) : Type 0 where
  pub lists : length now ≡ length old
  pub whole : length next ≡ length starts
  pub words : (lane : ℕ) → slice_index kept lane ≢ 0 → words_in now lane ≡ words_in old lane
  pub begun : (lane : ℕ) → slice_index kept lane ≢ 0 → slice_index next lane ≡ slice_index starts lane
  pub later_words : (lane : ℕ) → upto ≤ lane → words_in now lane ≡ words_in old lane
  pub later_starts : (lane : ℕ) → upto ≤ lane → slice_index next lane ≡ slice_index starts lane
  pub ended : (lane : ℕ) → lane < upto → slice_index kept lane ≡ 0
      → HasRunMore (words_in old lane) (words_in now lane) (slice_index starts lane) (slice_index common lane)
  pub again : (lane : ℕ) → lane < upto → slice_index kept lane ≡ 0 → slice_index next lane ≡ place

pub cutting_first : (old : List (List ℕ)) (starts common kept : List ℕ) (place : ℕ) → IsCutting old old starts starts common kept place 0
cutting_first old starts common kept place = record {
  lists = refl;
  whole = refl;
  words = λ lane some. refl;
  begun = λ lane some. refl;
  later_words = λ lane later. refl;
  later_starts = λ lane later. refl;
  ended = λ lane before. absurd (omega arith);
  again = λ lane before. absurd (omega arith);
}

module _ (old now : List (List ℕ)) (starts next common kept : List ℕ) (place upto : ℕ) (p : IsCutting old now starts next common kept place upto) where
  -- something is kept in the lane
  pub cutting_kept : slice_index kept upto ≢ 0 → IsCutting old now starts next common kept place (upto + 1)
  cutting_kept some = record {
    lists = p.lists;
    whole = p.whole;
    words = p.words;
    begun = p.begun;
    later_words = λ lane later. p.later_words lane (omega arith);
    later_starts = λ lane later. p.later_starts lane (omega arith);
    ended = below_more _ _ p.ended (λ none. absurd (some none));
    again = below_more _ _ p.again (λ none. absurd (some none));
  }

  -- nothing is kept in the lane
  module _ (word : ℕ) (none : slice_index kept upto ≡ 0) (list : upto < length now) (start : upto < length next)
      (from : 0 < slice_index common upto → (run_of_word word).start ≡ slice_index next upto)
      (least : 0 < slice_index common upto → IsLeastIn (slice_index common upto) (run_of_word word).mv) where
    abbrev now' : List (List ℕ)
    now' = set now upto (words_in now upto ++ word ∷ [])

    abbrev next' : List ℕ
    next' = set next upto place

    other_words : (lane : ℕ) → lane ≢ upto → words_in now' lane ≡ words_in now lane
    other_words lane other = get_or-set_other now upto lane (words_in now upto ++ word ∷ []) [] other

    other_starts : (lane : ℕ) → lane ≢ upto → slice_index next' lane ≡ slice_index next lane
    other_starts lane other = get_or-set_other next upto lane place 0 other

    apart : (lane : ℕ) → slice_index kept lane ≢ 0 → lane ≢ upto
    apart lane some same = some (ap (slice_index kept) same ∙ none)

    ended_here : HasRunMore (words_in old upto) (words_in now' upto) (slice_index starts upto) (slice_index common upto)
    ended_here = record {
      word = word;
      last = get_or-set_same now upto (words_in now upto ++ word ∷ []) [] list ∙ ap (λ ws. ws ++ word ∷ []) (p.later_words upto (omega arith));
      from = λ some. from some ∙ p.later_starts upto (omega arith);
      least = least;
    }

    pub cutting_next : IsCutting old now' starts next' common kept place (upto + 1)
    cutting_next = record {
      lists = length-set now upto (words_in now upto ++ word ∷ []) ∙ p.lists;
      whole = length-set next upto place ∙ p.whole;
      words = λ lane some. other_words lane (apart lane some) ∙ p.words lane some;
      begun = λ lane some. other_starts lane (apart lane some) ∙ p.begun lane some;
      later_words = λ lane later. other_words lane (λ same. omega arith) ∙ p.later_words lane (omega arith);
      later_starts = λ lane later. other_starts lane (λ same. omega arith) ∙ p.later_starts lane (omega arith);
      ended = below_more _ _
          (λ lane before empty.
          subst (λ ws. HasRunMore (words_in old lane) ws (slice_index starts lane) (slice_index common lane))
          (sym (other_words lane (λ same. omega arith))) (p.ended lane before empty))
          (λ empty. ended_here);
      again = below_more _ _ (λ lane before empty. other_starts lane (λ same. omega arith) ∙ p.again lane before empty)
          (λ empty. get_or-set_same next upto place 0 start);
    }

  pub cutting_all : 16 ≤ upto → AreCut old now starts next common kept place
  cutting_all all = record {
    lists = p.lists;
    whole = p.whole;
    words = λ lane l some. p.words lane some;
    begun = λ lane l some. p.begun lane some;
    ended = λ lane l none. p.ended lane (omega arith) none;
    again = λ lane l none. p.again lane (omega arith) none;
  }

-- where something is kept in each lane there is nothing to cut
pub no_cut : (words : List (List ℕ)) (starts common kept : List ℕ) (place : ℕ) → ((lane : ℕ) → lane < 16 → slice_index kept lane ≡ 0 → ⊥)
    → AreCut words words starts starts common kept place
no_cut words starts common kept place some = record {
  lists = refl;
  whole = refl;
  words = λ lane l _. refl;
  begun = λ lane l _. refl;
  ended = λ lane l none. absurd (some lane l none);
  again = λ lane l none. absurd (some lane l none);
}

-- ---- all places

-- the sets before a place are in the runs that are done and in one that may grow, in each lane whose sets have moves
pub record IsPacking (sets words : List (List ℕ)) (starts common : List ℕ) (upto : ℕ) : Type 0 where
  pub lists : length words ≡ 16
  pub within : (lane : ℕ) → lane < 16 → slice_index starts lane < MAX_PLACES
  pub bytes : (lane place : ℕ) → lane < 16 → place < upto → slice_index (sets_in sets lane) place < 256
  pub packed : (lane : ℕ) → lane < 16 → All (λ set. 0 < set) (sets_in sets lane)
      → IsPackedUpTo (sets_in sets lane) (row_of (words_in words lane)) (slice_index starts lane) (slice_index common lane) upto

pub zeros : (lane : ℕ) → lane < 16 → slice_index (replicate 16 0) lane ≡ 0
zeros lane l = get_or-replicate {A = ℕ} 16 lane 0 0 l

fulls : (lane : ℕ) → lane < 16 → slice_index (replicate 16 255) lane ≡ 255
fulls lane l = get_or-replicate {A = ℕ} 16 lane 255 0 l

pub packing_first : (sets words : List (List ℕ)) → length words ≡ 16 → ((lane : ℕ) → lane < 16 → words_in words lane ≡ [])
    → IsPacking sets words (replicate 16 0) (replicate 16 255) 0
packing_first sets words lists empty = record {
  lists = lists;
  within = λ lane l. let zero = zeros lane l in omega arith;
  bytes = λ lane place l before. absurd (omega arith);
  packed = λ lane l some. rw (empty lane l, zeros lane l, fulls lane l) (packed_first (sets_in sets lane));
}

module _ (sets words new : List (List ℕ)) (starts next common kept now set : List ℕ) (upto : ℕ) (p : IsPacking sets words starts common upto)
    (within : upto < length sets) (few : length sets ≤ MAX_PLACES) (is : get_or sets upto [] ≡ set)
    (shared : (lane : ℕ) → lane < 16 → IsShared (slice_index kept lane) (slice_index common lane) (slice_index set lane))
    (byte : (lane : ℕ) → lane < 16 → slice_index set lane < 256)
    (same : (lane : ℕ) → lane < 16 → slice_index kept lane ≢ 0 → slice_index now lane ≡ slice_index kept lane)
    (renew : (lane : ℕ) → lane < 16 → slice_index kept lane ≡ 0 → slice_index now lane ≡ slice_index set lane)
    (cut : AreCut words new starts next common kept upto) where
  here : (lane : ℕ) → slice_index (sets_in sets lane) upto ≡ slice_index set lane
  here lane = get_or-map (λ row. slice_index row lane) sets upto [] 0 within ∙ ap (λ row. slice_index row lane) is

  within_next : (lane : ℕ) → lane < 16 → slice_index next lane < MAX_PLACES
  within_next lane l = elim (cases_eq (slice_index kept lane) 0) [
    | inl none ↦ let at = cut.again lane l none in omega arith
    | inr some ↦ let at = cut.begun lane l some in let before = p.within lane l in omega arith
  ]

  module _ (lane : ℕ) (l : lane < 16) (all : All (λ set. 0 < set) (sets_in sets lane)) where
    before : IsPackedUpTo (sets_in sets lane) (row_of (words_in words lane)) (slice_index starts lane) (slice_index common lane) upto
    before = p.packed lane l all

    both : IsShared (slice_index kept lane) (slice_index common lane) (slice_index (sets_in sets lane) upto)
    both = rw (here lane) (shared lane l)

    more : 0 < slice_index (sets_in sets lane) upto
    more = all upto 0 (let size = length-map sets (λ row. slice_index row lane) in omega arith)

    packed_on : slice_index kept lane ≢ 0 → IsPackedUpTo (sets_in sets lane) (row_of (words_in new lane)) (slice_index next lane) (slice_index now lane) (upto + 1)
    packed_on some =
        rw (cut.words lane l some, same lane l some)
        (packed_longer (sets_in sets lane) (row_of (words_in words lane)) (slice_index starts lane) (slice_index common lane) upto before
        (slice_index next lane) (slice_index kept lane) (cut.begun lane l some) (omega arith) both)

    packed_off : slice_index kept lane ≡ 0 → IsPackedUpTo (sets_in sets lane) (row_of (words_in new lane)) (slice_index next lane) (slice_index now lane) (upto + 1)
    packed_off none =
        let run = cut.ended lane l none in
        let nothing : ShareNone (slice_index common lane) (slice_index (sets_in sets lane) upto) = λ move a b. none_in_empty move (subst (λ k. Has k move) none ((both move).1 (a, b))) in
        let small : slice_index (sets_in sets lane) upto < 2 ^ 8 = let b = byte lane l in let h = here lane in omega arith in
        let row : row_of (words_in new lane) ≡ row_of (words_in words lane) ++ run_of_word run.word ∷ [] = ap row_of run.last ∙ map_push run_of_word (words_in words lane) run.word in
        rw (row, cut.again lane l none, renew lane l none, ← here lane)
        (packed_cut (sets_in sets lane) (row_of (words_in words lane)) (slice_index starts lane) (slice_index common lane) upto before
        (run_of_word run.word) (run.from before.some) (run.least before.some) small more nothing)

    packed_next : IsPackedUpTo (sets_in sets lane) (row_of (words_in new lane)) (slice_index next lane) (slice_index now lane) (upto + 1)
    packed_next = elim (cases_eq (slice_index kept lane) 0) [
      | inl none ↦ packed_off none
      | inr some ↦ packed_on some
    ]

  pub packing_next : IsPacking sets new next now (upto + 1)
  packing_next = record {
    lists = cut.lists ∙ p.lists;
    within = within_next;
    bytes = λ lane place l before. elim (cases_lt place upto) [
      | inl early ↦ p.bytes lane place l early
      | inr late ↦ let at : place ≡ upto = omega arith in rw at (let b = byte lane l in let h = here lane in omega arith)
    ];
    packed = packed_next;
  }

-- the last cut ends all runs
module _ (sets words new : List (List ℕ)) (starts next common kept : List ℕ) (upto place : ℕ) (p : IsPacking sets words starts common upto) (all : upto ≡ length sets) (some : 0 < upto)
    (none : (lane : ℕ) → lane < 16 → slice_index kept lane ≡ 0) (cut : AreCut words new starts next common kept place) where
  pub packing_all : ArePackedLanes sets new
  packing_all lane l moves =
      let run = cut.ended lane l (none lane l) in
      let before = p.packed lane l moves in
      let size = length-map sets (λ row. slice_index row lane) in
      let row : row_of (words_in new lane) ≡ row_of (words_in words lane) ++ run_of_word run.word ∷ [] = ap row_of run.last ∙ map_push run_of_word (words_in words lane) run.word in
      rw row
      (packed_all (sets_in sets lane) (row_of (words_in words lane)) (slice_index starts lane) (slice_index common lane) upto before
      (run_of_word run.word) (run.from before.some) (run.least before.some) (omega arith) some)

  pub all_bytes : (lane at : ℕ) → lane < 16 → slice_index (sets_in sets lane) at < 256
  all_bytes lane at l = elim (cases_lt at upto) [
    | inl inside ↦ p.bytes lane at l inside
    | inr past ↦
        let size = length-map sets (λ row. slice_index row lane) in
        let nothing = get_or_past (sets_in sets lane) at 0 (omega arith) in
        omega arith
  ]
