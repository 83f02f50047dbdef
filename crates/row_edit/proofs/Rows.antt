-- The whole row, where the list has a place more or less.
use Rattle.std.proofs.Common.{◌≡◌, refl, ℕ, ◌+◌, ◌-◌, ◌<◌, ◌≤◌, List, [], ◌∷◌, ◌++◌, length, map, take, drop, get_or, slice_index, All, arith, subst, sym, ◌∙◌}
use Rattle.std.proofs.lemmas.List.{take-append-drop, take_more, get_or-take, get_or-drop, length-take-le, drop-map, append_assoc}
use Rattle.std.proofs.lemmas.List.Elements.{All-from_get_or}
use Rattle.run_pack.specs.declared.Run.{Run}
use Rattle.run_pack.specs.Sets.{Has, IsLeastIn, ShareNone}
use Rattle.run_pack.specs.Runs.{starts_of, start_at, move_at, end_at, no_run, IsTight}
use Rattle.run_pack.proofs.RowLemmas.{border, get_or-starts_of, start_at-le}
use Rattle.row_edit.proofs.TightRuns.{IsTightRun, AreTight, border-append, tight_joined, tight_front, tight_back, tight_run, tight_runs, tight_row}
use Rattle.row_edit.proofs.Shorter.{IsShorter}
use Rattle.row_edit.proofs.Moved.{IsCutAt, front_stays, earlier, later, border-earlier, border-later, back_moves, back_moves_on, run_with, run_alone}

-- ---- a row cut in two at a run

pub border-drop : (runs : List Run) (places j : ℕ) → border (drop j runs) places 0 ≡ border runs places j
border-drop runs places j =
    let same : j + 0 ≡ j = omega arith in
    rw (drop-map (λ run. run.start) j runs, same) at (get_or-drop j (starts_of runs) 0 places)

-- runs to before a place and runs from there to the end
pub row_joined : (front back : List Run) (sets : List ℕ) (middle : ℕ) → AreTight sets front middle → AreTight sets back (length sets) → border back (length sets) 0 ≡ middle
    → border front middle 0 ≡ 0 → 0 < length sets → IsTight (front ++ back) sets
row_joined front back sets middle before behind same first some =
    tight_row (front ++ back) sets
    (tight_joined sets front back (length sets) (rw same before) behind)
    (rw (border-append front back (length sets), same) first)
    some

module _ (runs : List Run) (sets : List ℕ) (tight : IsTight runs sets) (j : ℕ) where
  abbrev middle : ℕ
  middle = border runs (length sets) j

  halves : AreTight sets (take j runs ++ drop j runs) (length sets)
  halves = rw (take-append-drop j runs) (tight_runs runs sets tight)

  front_half : AreTight sets (take j runs) middle
  front_half =
      rw (border-drop runs (length sets) j) at (tight_front sets (take j runs) (drop j runs) (length sets) halves)

  pub back_half : AreTight sets (drop j runs) (length sets)
  back_half = tight_back sets (take j runs) (drop j runs) (length sets) halves

  -- the runs before run `j` start no later than the last of them
  front_starts : j ≤ length runs → All (λ run. run.start ≤ start_at runs (j - 1)) (take j runs)
  front_starts inside =
      let size = length-take-le j runs inside in
      All-from_get_or (λ run. run.start ≤ start_at runs (j - 1)) (take j runs) no_run (λ k within.
      (let read = get_or-take j runs k no_run (omega arith) in
      let order : start_at runs k ≤ start_at runs (j - 1) = start_at-le runs tight.row.rises k (j - 1) (omega arith) (omega arith) in
      subst (λ run. run.start ≤ start_at runs (j - 1)) (sym read) order))

  pub first_border : border (take j runs) middle 0 ≡ 0
  first_border =
      let first : border runs (length sets) 0 ≡ 0 =
      get_or-starts_of runs 0 (length sets) tight.row.rises.some ∙ tight.row.rises.first in
      let whole = border-append (take j runs) (drop j runs) (length sets) in
      let joined : border runs (length sets) 0 ≡ border (take j runs) (border (drop j runs) (length sets) 0) 0 = rw (take-append-drop j runs) at whole in
      rw (border-drop runs (length sets) j) at (sym joined ∙ first)

  -- before the place at which another list begins to differ they stay, the last of them if it's still cut there
  pub front_kept : (others : List ℕ) (place : ℕ) → ((k : ℕ) → k < place → slice_index sets k ≡ slice_index others k) → place ≤ length sets → place ≤ length others → j ≤ length runs → middle ≤ place
      → (middle ≡ place → 0 < j → IsCutAt sets others (start_at runs (j - 1)) place) → AreTight others (take j runs) middle
  front_kept others place same in_sets in_others inside before cut =
      let size = length-take-le j runs inside in
      front_stays sets others place same in_sets in_others (start_at runs (j - 1)) (take j runs) middle front_half before (front_starts inside) (λ at some.
      cut at (omega arith))

-- a run moves from the runs behind it to those before it
pub run_between : (runs back : List Run) (j : ℕ) → j < length runs → take (j + 1) runs ++ back ≡ take j runs ++ (get_or runs j no_run ∷ back)
run_between runs back j inside =
    rw (take_more runs j no_run inside) (append_assoc (take j runs) (get_or runs j no_run ∷ []) back)

-- ---- a place less

module _ (runs : List Run) (longer shorter : List ℕ) (place : ℕ) (short : IsShorter longer shorter place) (tight : IsTight runs longer) (j : ℕ) (inside : j < length runs) where
  abbrev start : ℕ
  start = start_at runs j

  abbrev end : ℕ
  end = end_at runs (length longer) j

  -- the runs behind run `j` start one place earlier
  rest_back : place < end → AreTight shorter (map earlier (drop (j + 1) runs)) (length shorter)
  rest_back upto =
      let size : length longer - 1 ≡ length shorter = omega (arith, short.size) in
      rw size at (back_moves longer shorter place short (drop (j + 1) runs) (length longer) (back_half runs longer tight (j + 1)) (rw (border-drop runs (length longer) (j + 1)) upto))

  rest_border : border (map earlier (drop (j + 1) runs)) (length shorter) 0 ≡ end - 1
  rest_border =
      let size : length longer - 1 ≡ length shorter = omega (arith, short.size) in
      rw (size, border-drop runs (length longer) (j + 1)) at (border-earlier (drop (j + 1) runs) (length longer))

  front_back : start ≤ place → (start ≡ place → 0 < j → IsCutAt longer shorter (start_at runs (j - 1)) place) → AreTight shorter (take j runs) start
  front_back from cut =
      let same : border runs (length longer) j ≡ start = get_or-starts_of runs j (length longer) inside in
      rw same at (front_kept runs longer tight j shorter place short.before (omega (arith, short.size, short.inside)) short.inside (omega arith) (rw same from) (λ at. cut (sym same ∙ at)))

  first_back : border (take j runs) start 0 ≡ 0
  first_back =
      let same : border runs (length longer) j ≡ start = get_or-starts_of runs j (length longer) inside in
      rw same at (first_border runs longer tight j)

  module _ (from : start ≤ place) (upto : place < end) (some : 0 < length shorter) (cut : start ≡ place → 0 < j → IsCutAt longer shorter (start_at runs (j - 1)) place) where
    -- all runs stay
    pub runs_stay_without : IsTightRun shorter start (end - 1) (move_at runs j) → IsTight (take (j + 1) runs ++ map earlier (drop (j + 1) runs)) shorter
    runs_stay_without run =
        rw (run_between runs (map earlier (drop (j + 1) runs)) j inside)
        (row_joined (take j runs) (get_or runs j no_run ∷ map earlier (drop (j + 1) runs)) shorter start (front_back from cut) (rw rest_border run, rest_back upto) refl first_back some)

    -- the run that had this place alone is gone
    pub run_goes : start ≡ place → end ≡ place + 1 → IsTight (take j runs ++ map earlier (drop (j + 1) runs)) shorter
    run_goes at alone =
        let behind : border (map earlier (drop (j + 1) runs)) (length shorter) 0 ≡ start = omega (arith, rest_border) in
        row_joined (take j runs) (map earlier (drop (j + 1) runs)) shorter start (front_back from cut) (rest_back upto) behind first_back some

-- ---- a place more

module _ (runs : List Run) (longer shorter : List ℕ) (place : ℕ) (short : IsShorter longer shorter place) (tight : IsTight runs shorter) (j : ℕ) where
  abbrev middle_with : ℕ
  middle_with = border runs (length shorter) j

  -- the runs from run `j` on start one place later
  rest_on : place ≤ middle_with → AreTight longer (map later (drop j runs)) (length longer)
  rest_on late =
      rw (← short.size) at (back_moves_on longer shorter place short (drop j runs) (length shorter) (back_half runs shorter tight j) (rw (border-drop runs (length shorter) j) late))

  rest_border_on : border (map later (drop j runs)) (length longer) 0 ≡ middle_with + 1
  rest_border_on =
      rw (← short.size, border-drop runs (length shorter) j) at (border-later (drop j runs) (length shorter))

  front_on : j ≤ length runs → middle_with ≤ place → (middle_with ≡ place → 0 < j → IsCutAt shorter longer (start_at runs (j - 1)) place) → AreTight longer (take j runs) middle_with
  front_on within before cut =
      front_kept runs shorter tight j longer place (λ k early. sym (short.before k early)) short.inside (omega (arith, short.size, short.inside)) within before cut

  -- the new place is a run of its own
  pub run_comes : (move : ℕ) → j ≤ length runs → middle_with ≡ place → IsLeastIn (slice_index longer place) move
      → (place + 1 < length longer → ShareNone (slice_index longer place) (slice_index longer (place + 1)))
      → (0 < j → IsCutAt shorter longer (start_at runs (j - 1)) place)
      → IsTight (take j runs ++ (record { start = place; mv = move } ∷ map later (drop j runs))) longer
  run_comes move within at least apart cut =
      let own = run_alone longer shorter place short move least apart in
      let end : border (map later (drop j runs)) (length longer) 0 ≡ place + 1 = omega (arith, rest_border_on) in
      row_joined (take j runs) (record { start = place; mv = move } ∷ map later (drop j runs)) longer middle_with
      (front_on within (omega arith) (λ same. cut))
      (rw end own, rest_on (omega arith))
      (sym at)
      (first_border runs shorter tight j)
      (omega (arith, short.size))

module _ (runs : List Run) (longer shorter : List ℕ) (place : ℕ) (short : IsShorter longer shorter place) (tight : IsTight runs shorter) (j : ℕ) (inside : j < length runs) where
  -- all runs stay, run `j` with the new place
  pub runs_stay_with : start_at runs j ≤ place → place ≤ end_at runs (length shorter) j → Has (slice_index longer place) (move_at runs j)
      → (start_at runs j ≡ place → 0 < j → IsCutAt shorter longer (start_at runs (j - 1)) place)
      → IsTight (take (j + 1) runs ++ map later (drop (j + 1) runs)) longer
  runs_stay_with from upto has cut =
      let same : border runs (length shorter) j ≡ start_at runs j = get_or-starts_of runs j (length shorter) inside in
      let run = run_with longer shorter place short (start_at runs j) (end_at runs (length shorter) j) (move_at runs j) (tight_run runs shorter tight j inside) from upto has in
      let back = rest_on runs longer shorter place short tight (j + 1) upto in
      let end = rest_border_on runs longer shorter place short tight (j + 1) in
      rw (run_between runs (map later (drop (j + 1) runs)) j inside)
      (row_joined (take j runs) (get_or runs j no_run ∷ map later (drop (j + 1) runs)) longer (border runs (length shorter) j)
      (front_on runs longer shorter place short tight j (omega arith) (omega arith) (λ at. cut (sym same ∙ at)))
      (rw end run, back)
      (sym same)
      (first_border runs shorter tight j)
      (omega (arith, short.size)))
