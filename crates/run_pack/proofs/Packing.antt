-- What `pack` keeps: the runs that are done, and the stretch that may still grow.
use Rattle.std.proofs.Common.{◌≡◌, ℕ, ◌+◌, ◌-◌, ◌^◌, ◌<◌, ◌≤◌, w8, List, [], ◌∷◌, ◌++◌, length, map, take, drop, get_or, slice_index, arith, ap, refl, subst, sym, ◌∙◌, inl, inr}
use Rattle.std.specs.Int.{trailing_zeros}
use Rattle.std.specs.List.{All, slice_range}
use Rattle.std.specs.Array.{IsFirstChunk}
use Rattle.std.proofs.lemmas.Bool.{cases_lt}
use Rattle.std.proofs.Math.Seq.{take-length, drop-length}
use Rattle.std.proofs.lemmas.List.Elements.{All-get_or, All-from_get_or}
use Rattle.std.proofs.lemmas.List.{length-take-le, length-drop, get_or-take, get_or-drop, get_or_append_left, get_or_default, get_or_push, map_push, length_push, take-append-le, drop-append-le}
use Rattle.run_pack.specs.declared.Run.{Run}
use Rattle.run_pack.specs.declared.Stretch.{Stretch}
use Rattle.run_pack.specs.Sets.{Has, IsShared, AreShared, ShareNone, IsLeastIn, IsCommon, IsLeastCommon}
use Rattle.run_pack.specs.Stretches.{GrowsBy, IsCutBefore}
use Rattle.run_pack.specs.Runs.{starts_of, start_at, move_at, end_at, no_run, IsTight}
use Rattle.run_pack.proofs.SetLemmas.{Has-all, Has-below, Has-trailing_zeros}
use Rattle.run_pack.proofs.RowLemmas.{border, border_past, get_or-starts_of, length-starts_of, row_from_borders}
use Rattle.run_pack.proofs.Fewest.{IsCommon-part}

module _ (runs : List Run) (run : Run) where
  read_push_before : (k : ℕ) → k < length runs → get_or (runs ++ run ∷ []) k no_run ≡ get_or runs k no_run
  read_push_before k within = get_or_append_left runs (run ∷ []) no_run k within

  read_push_last : (k : ℕ) → k ≡ length runs → get_or (runs ++ run ∷ []) k no_run ≡ run
  read_push_last k last = get_or_push runs run no_run k (sym last)

  -- the borders of a row with one run more
  border_push_before : (places k : ℕ) → k < length runs → border (runs ++ run ∷ []) places k ≡ border runs run.start k
  border_push_before places k within =
      let size = length-starts_of runs in
      let inside : k < length (starts_of runs) = omega arith in
      rw (map_push (λ run. run.start) runs run)
      (get_or_append_left (starts_of runs) (run.start ∷ []) places k inside ∙ get_or_default (starts_of runs) k places run.start inside)

  border_push_last : (places k : ℕ) → k ≡ length runs → border (runs ++ run ∷ []) places k ≡ border runs run.start k
  border_push_last places k last =
      let size = length-starts_of runs in
      rw (map_push (λ run. run.start) runs run)
      (get_or_push (starts_of runs) run.start places k (omega arith) ∙ sym (border_past runs run.start k (omega arith)))

  pub border_push : (places k : ℕ) → k ≤ length runs → border (runs ++ run ∷ []) places k ≡ border runs run.start k
  border_push places k within =
      elim (cases_lt k (length runs)) [
        | inl before ↦ border_push_before places k before
        | inr past ↦ border_push_last places k (omega arith)
      ]

  pub border_push_past : (places k : ℕ) → length runs < k → border (runs ++ run ∷ []) places k ≡ places
  border_push_past places k past =
      let size = length_push runs run in
      border_past (runs ++ run ∷ []) places k (omega arith)

-- the start, the end and the move of each run are related so
pub record EachRun (R : ℕ → ℕ → ℕ → Type 0) (runs : List Run) (places : ℕ) : Type 0 where
  pub at : (k : ℕ) → k < length runs → R (start_at runs k) (end_at runs places k) (move_at runs k)

module _ (R : ℕ → ℕ → ℕ → Type 0) (runs : List Run) (run : Run) (places : ℕ) (before : EachRun R runs run.start) (last : R run.start places run.mv) where
  each_push_before : (k : ℕ) → k < length runs → R (start_at (runs ++ run ∷ []) k) (end_at (runs ++ run ∷ []) places k) (move_at (runs ++ run ∷ []) k)
  each_push_before k within =
      let read = read_push_before runs run k within in
      let start : start_at (runs ++ run ∷ []) k ≡ start_at runs k = ap (λ r. r.start) read in
      let move : move_at (runs ++ run ∷ []) k ≡ move_at runs k = ap (λ r. r.mv) read in
      let end : end_at (runs ++ run ∷ []) places k ≡ end_at runs run.start k = border_push runs run places (k + 1) (omega arith) in
      rw (start, end, move) (before.at k within)

  each_push_last : (k : ℕ) → k ≡ length runs → R (start_at (runs ++ run ∷ []) k) (end_at (runs ++ run ∷ []) places k) (move_at (runs ++ run ∷ []) k)
  each_push_last k here =
      let read = read_push_last runs run k here in
      let start : start_at (runs ++ run ∷ []) k ≡ run.start = ap (λ r. r.start) read in
      let move : move_at (runs ++ run ∷ []) k ≡ run.mv = ap (λ r. r.mv) read in
      let end : end_at (runs ++ run ∷ []) places k ≡ places = border_push_past runs run places (k + 1) (omega arith) in
      rw (start, end, move) last

  pub each_push : EachRun R (runs ++ run ∷ []) places
  each_push = record {
    at = λ k within.
        (let size = length_push runs run in
        elim (cases_lt k (length runs)) [
          | inl early ↦ each_push_before k early
          | inr late ↦ each_push_last k (omega arith)
        ]);
  }

-- a run that covers a place
abbrev CoversSome : ℕ → ℕ → ℕ → Type 0
CoversSome start end move = start < end

-- a run that one set more would leave with no common move
abbrev IsMaximal : List ℕ → ℕ → ℕ → ℕ → Type 0
IsMaximal sets start end move = (other : ℕ) → IsCommon sets start (end + 1) other → ⊥

-- The runs that are done end where the next begins, and each is as a tight row has it.
pub record IsDone (sets : List ℕ) (runs : List Run) (next : ℕ) : Type 0 where
  pub first : border runs next 0 ≡ 0
  pub rising : EachRun CoversSome runs next
  pub least : EachRun (IsLeastCommon sets) runs next
  pub maximal : EachRun (IsMaximal sets) runs next

-- The sets before place `upto` are in the runs that are done and in a stretch from `start`, whose common moves are known.
pub record IsPackedUpTo (sets : List ℕ) (runs : List Run) (start common upto : ℕ) : Type 0 where
  pub done : IsDone sets runs start
  pub some : 0 < common
  pub begun : start ≤ upto
  pub before : 0 < upto → start < upto
  pub sound : (move : ℕ) → move < 8 → Has common move → IsCommon sets start upto move
  pub whole : (move : ℕ) → IsCommon sets start upto move → Has common move

pub packed_first : (sets : List ℕ) → IsPackedUpTo sets [] 0 255 0
packed_first sets = record {
  done = record {
    first = refl;
    rising = record { at = λ k within. absurd (omega arith) };
    least = record { at = λ k within. absurd (omega arith) };
    maximal = record { at = λ k within. absurd (omega arith) };
  };
  some = omega arith;
  begun = omega arith;
  before = λ above. absurd (omega arith);
  sound = λ move below has. record { number = below; everywhere = λ place from upto. absurd (omega arith) };
  whole = λ move common. Has-all move common.number;
}

-- what is common to one set more
IsCommon-more : (sets : List ℕ) (from upto move : ℕ) → IsCommon sets from upto move → Has (slice_index sets upto) move → IsCommon sets from (upto + 1) move
IsCommon-more sets from upto move common has = record {
  number = common.number;
  everywhere = λ place a b.
      elim (cases_lt place upto) [
        | inl early ↦ common.everywhere place a early
        | inr late ↦ (let same : place ≡ upto = omega arith in rw same has)
      ];
}

-- reading in the sets from one place to before another
module _ (sets : List ℕ) (from upto : ℕ) where
  length-part : upto ≤ length sets → length (slice_range sets from upto) ≡ upto - from
  length-part inside = length-take-le (upto - from) (drop from sets) (omega (arith, length-drop from sets))

  read-part : (i : ℕ) → i < upto - from → slice_index (slice_range sets from upto) i ≡ slice_index sets (from + i)
  read-part i within = get_or-take (upto - from) (drop from sets) i 0 within ∙ get_or-drop from sets i 0

  All-part : (P : ℕ → Type 0) → upto ≤ length sets → All P (slice_range sets from upto) → (place : ℕ) → from ≤ place → place < upto → P (slice_index sets place)
  All-part P inside all place a b =
      let size = length-part inside in
      let same : from + (place - from) ≡ place = omega arith in
      subst P (read-part (place - from) (omega arith) ∙ ap (slice_index sets) same) (All-get_or P _ (place - from) 0 (omega arith) all)

  All-from_part : (P : ℕ → Type 0) → upto ≤ length sets → ((place : ℕ) → from ≤ place → place < upto → P (slice_index sets place)) → All P (slice_range sets from upto)
  All-from_part P inside each =
      let size = length-part inside in
      All-from_get_or P _ 0 (λ i within. subst P (sym (read-part i (omega arith))) (each (from + i) (omega arith) (omega arith)))

-- what is common to one set alone
IsCommon-one : (sets : List ℕ) (place move : ℕ) → move < 8 → Has (slice_index sets place) move → IsCommon sets place (place + 1) move
IsCommon-one sets place move below has = record {
  number = below;
  everywhere = λ other a b. (let same : other ≡ place = omega arith in rw same has);
}

module _ (sets : List ℕ) (runs : List Run) (start common upto : ℕ) (packed : IsPackedUpTo sets runs start common upto) where
  -- the stretch grows by the next set
  pub packed_longer : (start' common' : ℕ) → start' ≡ start → 0 < common' → IsShared common' common (slice_index sets upto) → IsPackedUpTo sets runs start' common' (upto + 1)
  packed_longer start' common' same some both = rw same (record {
    done = packed.done;
    some = some;
    begun = omega (arith, packed.begun);
    before = λ above. omega (arith, packed.begun);
    sound = λ move below has.
        (let parts = (both move).0 has in
        IsCommon-more sets start upto move (packed.sound move below parts.0) parts.1);
    whole = λ move shared.
        (both move).1 (packed.whole move (IsCommon-part sets start (upto + 1) start upto move shared (omega arith) (omega arith)), shared.everywhere upto packed.begun (omega arith));
  })

  -- the stretch grows by all sets from there to before another place
  module _ (start' common' after : ℕ) (same : start' ≡ start) (some : 0 < common') (more : upto < after) (inside : after ≤ length sets) where
    pub packed_many : AreShared common' common (slice_range sets upto after) → IsPackedUpTo sets runs start' common' after
    packed_many shared = rw same (record {
      done = packed.done;
      some = some;
      begun = omega (arith, packed.begun);
      before = λ above. omega (arith, packed.begun);
      sound = λ move below has.
          (let parts = (shared move).0 has in
          let early = packed.sound move below parts.0 in
          let late = All-part sets upto after (λ set. Has set move) inside parts.1 in
          record {
            number = below;
            everywhere = λ place a b. (elim (cases_lt place upto) [
              | inl before ↦ early.everywhere place a before
              | inr behind ↦ late place behind b
            ]);
          });
      whole = λ move common_to_all.
          (let early = IsCommon-part sets start after start upto move common_to_all (omega arith) (omega arith) in
          let late = All-from_part sets upto after (λ set. Has set move) inside (λ place a b. common_to_all.everywhere place (omega (arith, packed.begun)) b) in
          (shared move).1 (packed.whole move early, late));
    })

  -- a set that shares nothing with the stretch is not the first
  covers_some : slice_index sets upto < 2 ^ 8 → 0 < slice_index sets upto → ShareNone common (slice_index sets upto) → start < upto
  covers_some byte some none =
      elim (cases_lt 0 upto) [
        | inl above ↦ packed.before above
        | inr first ↦
            let move = trailing_zeros w8 (slice_index sets upto) in
            let has = Has-trailing_zeros (slice_index sets upto) some byte in
            absurd (none move
            (packed.whole move (record { number = Has-below (slice_index sets upto) move byte has; everywhere = λ place a b. absurd (omega arith) }))
            has)
      ]

  module _ (run : Run) (same : run.start ≡ start) (least : IsLeastIn common run.mv) where
    -- the run that the stretch becomes has the least of its common moves
    run_least : IsLeastCommon sets run.start upto run.mv
    run_least = rw same (record {
      common = packed.sound run.mv least.number least.member;
      least = λ other shared. least.least other (packed.whole other shared);
    })

    done_as : IsDone sets runs run.start
    done_as = rw same packed.done

    -- the stretch is done, and the next begins with the next set
    pub packed_cut : slice_index sets upto < 2 ^ 8 → 0 < slice_index sets upto → ShareNone common (slice_index sets upto) → IsPackedUpTo sets (runs ++ run ∷ []) upto (slice_index sets upto) (upto + 1)
    packed_cut byte some none =
        let covers = covers_some byte some none in
        let full : IsMaximal sets run.start upto run.mv = λ other shared.
        none other
        (packed.whole other (IsCommon-part sets run.start (upto + 1) start upto other shared (omega arith) (omega arith)))
        (shared.everywhere upto (omega (arith, packed.begun)) (omega arith)) in
        record {
          done = record {
            first = border_push runs run upto 0 (omega arith) ∙ done_as.first;
            rising = each_push CoversSome runs run upto done_as.rising (omega arith);
            least = each_push (IsLeastCommon sets) runs run upto done_as.least run_least;
            maximal = each_push (IsMaximal sets) runs run upto done_as.maximal full;
          };
          some = some;
          begun = omega arith;
          before = λ above. omega arith;
          sound = λ move below has. IsCommon-one sets upto move below has;
          whole = λ move shared. shared.everywhere upto (omega arith) (omega arith);
        }

    -- all sets are packed
    pub packed_all : upto ≡ length sets → 0 < upto → IsTight (runs ++ run ∷ []) sets
    packed_all all some =
        let places = length sets in
        let size = length_push runs run in
        let covers = packed.before some in
        let rising = each_push CoversSome runs run places done_as.rising (omega arith) in
        let last : IsLeastCommon sets run.start places run.mv = rw (← all) run_least in
        let least = each_push (IsLeastCommon sets) runs run places done_as.least last in
        let first : border (runs ++ run ∷ []) places 0 ≡ 0 = border_push runs run places 0 (omega arith) ∙ done_as.first in
        record {
          row = row_from_borders (runs ++ run ∷ []) places (omega arith) (omega (arith, first, get_or-starts_of (runs ++ run ∷ []) 0 places (omega arith))) rising.at;
          least = least.at;
          maximal = λ k within move shared.
              (let before : k < length runs = omega arith in
              let start_same : start_at (runs ++ run ∷ []) k ≡ start_at runs k = ap (λ r. r.start) (read_push_before runs run k before) in
              let end_same : end_at (runs ++ run ∷ []) places k ≡ end_at runs run.start k = border_push runs run places (k + 1) (omega arith) in
              done_as.maximal.at k before move (IsCommon-part sets _ _ _ _ move shared (omega arith) (omega arith)));
        }

-- Behind what was stored before, the sets up to a place are packed.
pub record IsFilledUpTo {X : Type 0} (run_of : X → Run) (old stored : List X) (sets : List ℕ) (start common upto : ℕ) : Type 0 where
  pub kept : take (length old) stored ≡ old
  pub enough : length old ≤ length stored
  pub packed : IsPackedUpTo sets (map run_of (drop (length old) stored)) start common upto

pub filled_first : {X : Type 0} (run_of : X → Run) (old : List X) (sets : List ℕ) → IsFilledUpTo run_of old old sets 0 255 0
filled_first run_of old sets = record {
  kept = take-length old;
  enough = omega arith;
  packed = rw (drop-length old) (packed_first sets);
}

module _ {X : Type 0} (run_of : X → Run) (old stored : List X) (sets : List ℕ) (start common upto : ℕ) (filled : IsFilledUpTo run_of old stored sets start common upto) where
  -- the place by another name
  pub filled_to : (place : ℕ) → upto ≡ place → IsFilledUpTo run_of old stored sets start common place
  filled_to place same = rw (← same) filled

  abbrev row : List Run
  row = map run_of (drop (length old) stored)

  -- the stretch grows by the next set
  pub filled_longer : (start' common' : ℕ) → start' ≡ start → 0 < common' → IsShared common' common (slice_index sets upto) → IsFilledUpTo run_of old stored sets start' common' (upto + 1)
  filled_longer start' common' same some both = record {
    kept = filled.kept;
    enough = filled.enough;
    packed = packed_longer sets row start common upto filled.packed start' common' same some both;
  }

  -- the stretch grows by all sets from there to before another place
  module _ (start' common' after : ℕ) (same : start' ≡ start) (some : 0 < common') (more : upto < after) (inside : after ≤ length sets) where
    pub filled_many : AreShared common' common (slice_range sets upto after) → IsFilledUpTo run_of old stored sets start' common' after
    filled_many shared = record {
      kept = filled.kept;
      enough = filled.enough;
      packed = packed_many sets row start common upto filled.packed start' common' after same some more inside shared;
    }

  module _ (now : List X) (item : X) (run : Run) (push : now ≡ stored ++ item ∷ []) (is : run_of item ≡ run) (same : run.start ≡ start) (least : IsLeastIn common run.mv) where
    pub kept_pushed : take (length old) now ≡ old
    kept_pushed = rw push (take-append-le (length old) stored (item ∷ []) filled.enough ∙ filled.kept)

    row_pushed : map run_of (drop (length old) now) ≡ row ++ run ∷ []
    row_pushed =
        rw (push, drop-append-le (length old) stored (item ∷ []) filled.enough, map_push run_of (drop (length old) stored) item, is) refl

    -- the stretch is done, and its run is stored
    pub filled_cut : slice_index sets upto < 2 ^ 8 → 0 < slice_index sets upto → ShareNone common (slice_index sets upto) → IsFilledUpTo run_of old now sets upto (slice_index sets upto) (upto + 1)
    filled_cut byte some none = record {
      kept = kept_pushed;
      enough = rw push (omega (arith, length_push stored item, filled.enough));
      packed = rw row_pushed (packed_cut sets row start common upto filled.packed run same least byte some none);
    }

    -- all sets are packed
    pub filled_all : upto ≡ length sets → 0 < upto → IsTight (map run_of (drop (length old) now)) sets
    filled_all all some = rw row_pushed (packed_all sets row start common upto filled.packed run same least all some)

-- The sets from a place on, as they are read: all of them, and the first so many.
module _ (sets : List ℕ) (from : ℕ) where
  abbrev rest : List ℕ
  rest = slice_range sets from (length sets)

  rest_is : rest ≡ drop from sets
  rest_is = rw (← length-drop from sets) (take-length (drop from sets))

  pub length-rest : length rest ≡ length sets - from
  length-rest = rw rest_is (length-drop from sets)

  pub read-rest : (i : ℕ) → slice_index rest i ≡ slice_index sets (from + i)
  read-rest i = rw rest_is (get_or-drop from sets i 0)

  module _ (next : List ℕ) (count : ℕ) (inside : from ≤ length sets) (chunk : IsFirstChunk rest next count) where
    pub chunk_inside : from + count ≤ length sets
    chunk_inside = omega (arith, length-rest, chunk.enough)

    pub chunk_is : next ≡ slice_range sets from (from + count)
    chunk_is =
        let size : from + count - from ≡ count = omega arith in
        rw (chunk.same, rest_is, size) refl

    pub read-chunk : (i : ℕ) → i < count → slice_index next i ≡ slice_index sets (from + i)
    read-chunk i within =
        rw (chunk.same, rest_is) (get_or-take count (drop from sets) i 0 within ∙ get_or-drop from sets i 0)

-- What the next set does to the stretch, as `take` says it.
module _ {X : Type 0} (run_of : X → Run) (old stored : List X) (sets : List ℕ) (before after : Stretch) (upto past set : ℕ) where
  module _ (filled : IsFilledUpTo run_of old stored sets before.start before.common upto) (next : past ≡ upto + 1) (read : set ≡ slice_index sets upto) where
    pub filled_grown : GrowsBy before after set → IsFilledUpTo run_of old stored sets after.start after.common past
    filled_grown grows =
        let both : IsShared after.common before.common (slice_index sets upto) = subst (IsShared after.common before.common) read grows.common in
        rw next (filled_longer run_of old stored sets before.start before.common upto filled after.start after.common grows.start grows.some both)

    module _ (now : List X) (item : X) (run : Run) (push : now ≡ stored ++ item ∷ []) (is : run_of item ≡ run) (cut : IsCutBefore before after upto set run) where
      pub filled_ended : slice_index sets upto < 2 ^ 8 → 0 < slice_index sets upto → IsFilledUpTo run_of old now sets after.start after.common past
      filled_ended byte some =
          let none : ShareNone before.common (slice_index sets upto) = subst (ShareNone before.common) read cut.none in
          rw (next, cut.next_start, cut.next_common, read)
          (filled_cut run_of old stored sets before.start before.common upto filled now item run push is cut.start cut.least byte some none)
