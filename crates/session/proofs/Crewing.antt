-- What a crew did, door by door.
use Rattle.std.proofs.Common.{◌≡◌, ℕ, ◌+◌, ◌-◌, ◌<◌, Bool, true, false, List, [], ◌∷◌, ◌++◌, All, length, length-append, get_or, None, Option, Some, inl, inr, sym, subst, ap, ◌∙◌, arith}
use Rattle.std.proofs.lemmas.List.{get_or_append_left}
use Rattle.std.proofs.lemmas.List.Folds.{Any-from_list_any, list_any_at}
use Rattle.turn_book.specs.Turns.{book_of, made_of}
use Rattle.path_board.specs.declared.pass.Pass.{Pass}
use Rattle.path_board.specs.Passes.{seen_of, SamePass}
use Rattle.wire.specs.Causes.{Rose}
use Rattle.wire.specs.Talks.{EndedTalk}
use Rattle.session.specs.declared.crews.Worker.{Worker}
use Rattle.session.specs.declared.doors.DoorEnded.{DoorEnded}
use Rattle.session.specs.declared.doors.DoorEnded.TheVariants.{Halting, Closed, Failed}
use Rattle.session.specs.Crews.{EndsWell, HasEnded, HasRun, HaveAllRun, HaveRun, MayBegin, SomeRose, any_of, backwards, has_failed}
use Rattle.session.specs.Doors.{DoorEndsSo}
use Rattle.session.specs.Seats.{place_of}
use Rattle.session.specs.Standing.{Place, Shared, Standing}
use Rattle.session.proofs.Hiring.{back_at, back_long}
use Rattle.wire.specs.Knocks.{AtDoor}

-- ---- passes by their places

abbrev shared_or : Shared → Option Shared → Shared
shared_or other None = other
shared_or other (Some shared) = shared

-- a pass at the same place is the same pass
pub same_by_place : (before after : Pass) → place_of after ≡ place_of before → SamePass before after
same_by_place before after same =
    let first : Shared = record { board = book_of before.seat; passes = made_of before.seat } in
    let shared : shared_or first (place_of after).shared ≡ shared_or first (place_of before).shared = ap (λ (p : Place). shared_or first p.shared) same in
    record {
      board = ap (λ (s : Shared). s.board) shared;
      number = ap (λ (p : Place). p.pass) same;
      base = λ i. record { start = (same i).start; order = (same i).order; room = (same i).room };
      made = ap (λ (s : Shared). s.passes) shared;
    }

-- ---- workers by the places of their doors

-- any list that has an element
pub default_of : {X : Type 0} (P : Type 0) (xs : List X) → 0 < length xs → (X → P) → P
default_of P [] some f = absurd (omega (arith, some))
default_of P (x ∷ xs) some f = f x

module _ {D : Type 0} (at : D → AtDoor)
    (held : Place → Standing → EndedTalk → Standing → Type 0) (silent : Place → Type 0) where
  -- how a loop ended that did not fail
  ends_well : (before after : D) (pass_before pass_after : Pass) (ended : Option DoorEnded) → (has_failed ended ≡ true → ⊥)
      → HasRun at held silent pass_before before pass_after after ended → EndsWell at before after pass_after
  ends_well before after pass_before pass_after ended well run = by_how run.how run.ended_is run.ends
    where
      by_how : (how : DoorEnded) → ended ≡ Some how → DoorEndsSo how (seen_of pass_after) (at before) (at after)
          → EndsWell at before after pass_after
      by_how Halting is ends = record { faults_are = ends.2; why = inr ends.0 }
      by_how Closed is ends = record { faults_are = ends.1; why = inl ends.0 }
      by_how Failed is ends = absurd (well (ap has_failed is))

  -- the count of a door rose whose loop failed
  rose_there : (before after : D) (pass_before pass_after : Pass) (ended : Option DoorEnded) → has_failed ended ≡ true
      → HasRun at held silent pass_before before pass_after after ended → Rose (at before).faults (at after).faults
  rose_there before after pass_before pass_after ended failed run = by_how run.how (sym (ap has_failed run.ended_is) ∙ failed) run.ends
    where
      by_how : (how : DoorEnded) → has_failed (Some how) ≡ true → DoorEndsSo how (seen_of pass_after) (at before) (at after)
          → Rose (at before).faults (at after).faults
      by_how Halting is ends = let clash : false ≡ true = is in absurd (cc)
      by_how Closed is ends = let clash : false ≡ true = is in absurd (cc)
      by_how Failed is ends = ends.1

-- what holds of all that was read of workers holds of what is read of each
pub read_each : {W X : Type 0} (P : X → Type 0) (read : W → X) (crew : List W) (xs : List X) → backwards crew read ≡ xs → All P xs
    → (i : ℕ) (worker : W) → i < length crew → P (read (get_or crew i worker))
read_each P read crew xs is all i worker early =
    let long : length crew ≡ length xs = sym (back_long crew read) ∙ ap length is in
    let k = length crew - 1 - i in
    let back : length crew - 1 - k ≡ i = omega (arith, early) in
    subst P (ap (λ l. get_or l k (read worker)) (sym is) ∙ back_at crew read k (read worker) worker (omega (arith, early))
    ∙ ap (λ n. read (get_or crew n worker)) back) (all k (read worker) (omega (arith, early, long)))

-- what holds of a whole list holds of its front
pub all_front : {X : Type 0} (P : X → Type 0) (front rest all : List X) → all ≡ front ++ rest → All P all → All P front
all_front P front rest all is each = λ i d early.
    let long : length all ≡ length front + length rest = ap length is ∙ length-append front rest in
    subst P (ap (λ l. get_or l i d) is ∙ get_or_append_left front rest d i early) (each i d (omega (arith, early, long)))

-- all workers may begin
pub may_begin : {D B C : Type 0} (at : D → AtDoor) (fits : Place → Type 0) (crew : List (Worker D B C)) (doors : List D) (passes : List Pass)
    → backwards crew (λ w. w.door) ≡ doors → backwards crew (λ w. w.seat.pass) ≡ passes → All (λ door. (at door).closed ≡ false) doors
    → All (λ pass. fits (place_of pass)) passes → (i : ℕ) (worker : Worker D B C) → i < length crew → MayBegin at fits (get_or crew i worker)
may_begin at fits crew doors passes doors_are passes_are shut fit i worker early = record {
  door_is = read_each (λ door. (at door).closed ≡ false) (λ w. w.door) crew doors doors_are shut i worker early;
  place_fits = read_each (λ pass. fits (place_of pass)) (λ w. w.seat.pass) crew passes passes_are fit i worker early;
}

module _ {D B C : Type 0} (at : D → AtDoor)
    (held : Place → Standing → EndedTalk → Standing → Type 0) (silent : Place → Type 0) where
  module _ (crew then : List (Worker D B C)) (doors : List D) (passes : List Pass) (doors_then : List D) (passes_then : List Pass)
      (ran : HaveAllRun at held silent crew then) (doors_are : backwards crew (λ w. w.door) ≡ doors) (passes_are : backwards crew (λ w. w.seat.pass) ≡ passes)
      (doors_come : doors_then ≡ backwards then (λ w. w.door)) (passes_come : passes_then ≡ backwards then (λ w. w.seat.pass)) where
    crew_long : length crew ≡ length doors
    crew_long = sym (back_long crew (λ w. w.door)) ∙ ap length doors_are

    -- what holds of a worker before and after holds of what stands at its place in the lists
    at_place : (P : Pass → D → Pass → D → Type 0) (i : ℕ) (door : D) (pass : Pass) (worker : Worker D B C) → i < length doors
        → P (get_or crew (length crew - 1 - i) worker).seat.pass (get_or crew (length crew - 1 - i) worker).door
        (get_or then (length crew - 1 - i) worker).seat.pass (get_or then (length crew - 1 - i) worker).door
        → P (get_or passes i pass) (get_or doors i door) (get_or passes_then i pass) (get_or doors_then i door)
    at_place P i door pass worker early p =
        let k = length crew - 1 - i in
        let total = crew_long in
        let here : i < length crew = omega (arith, early, total) in
        let long = ran.long in
        let there : i < length then = omega (arith, here, long) in
        let same : length then - 1 - i ≡ k = ap (λ n. n - 1 - i) long in
        let a : (get_or crew k worker).seat.pass ≡ get_or passes i pass =
        sym (back_at crew (λ w. w.seat.pass) i pass worker here) ∙ ap (λ l. get_or l i pass) passes_are in
        let b : (get_or crew k worker).door ≡ get_or doors i door =
        sym (back_at crew (λ w. w.door) i door worker here) ∙ ap (λ l. get_or l i door) doors_are in
        let c : (get_or then k worker).seat.pass ≡ get_or passes_then i pass =
        ap (λ n. (get_or then n worker).seat.pass) (sym same) ∙ sym (back_at then (λ w. w.seat.pass) i pass worker there) ∙ ap (λ l. get_or l i pass) (sym passes_come) in
        let d : (get_or then k worker).door ≡ get_or doors_then i door =
        ap (λ n. (get_or then n worker).door) (sym same) ∙ sym (back_at then (λ w. w.door) i door worker there) ∙ ap (λ l. get_or l i door) (sym doors_come) in
        subst (λ y. P (get_or passes i pass) (get_or doors i door) (get_or passes_then i pass) y) d
        (subst (λ y. P (get_or passes i pass) (get_or doors i door) y (get_or then k worker).door) c
        (subst (λ y. P (get_or passes i pass) y (get_or then k worker).seat.pass (get_or then k worker).door) b
        (subst (λ y. P y (get_or crew k worker).door (get_or then k worker).seat.pass (get_or then k worker).door) a p)))

    some_worker : (P : Type 0) (i : ℕ) → i < length doors → (Worker D B C → P) → P
    some_worker P i early f = let total = crew_long in default_of P crew (omega (arith, early, total)) f

    each_ran : (i : ℕ) (door : D) (pass : Pass) → i < length doors
        → HasEnded at held silent (get_or passes i pass) (get_or doors i door) (get_or passes_then i pass) (get_or doors_then i door)
    each_ran i door pass early = some_worker _ i early (λ worker.
        let total = crew_long in
        at_place (HasEnded at held silent) i door pass worker early (record {
          ended = (get_or then (length crew - 1 - i) worker).ended;
          run = ran.each (length crew - 1 - i) worker (omega (arith, early, total));
        }))

    some_rose : any_of then (λ w. has_failed w.ended) ≡ true → SomeRose at doors doors_then
    some_rose failed =
        let found = Any-from_list_any (λ (w : Worker D B C). has_failed w.ended) then failed in
        let k = found.0 in
        let w = found.1 in
        let total = crew_long in
        let long = ran.long in
        let within = found.2 in
        let back : length crew - 1 - (length crew - 1 - k) ≡ k = omega (arith, within, long) in
        let rose = rose_there at held silent (get_or crew k w).door (get_or then k w).door (get_or crew k w).seat.pass (get_or then k w).seat.pass (get_or then k w).ended
        (ap (λ (x : Worker D B C). has_failed x.ended) found.3 ∙ found.4) (ran.each k w (omega (arith, within, long))) in
        record {
          place = length crew - 1 - k;
          within = omega (arith, within, long, total);
          rose = λ door.
              at_place (λ _ x _ y. Rose (at x).faults (at y).faults) (length crew - 1 - k) door (get_or crew k w).seat.pass w (omega (arith, within, long, total))
              (subst (λ n. Rose (at (get_or crew n w).door).faults (at (get_or then n w).door).faults) (sym back) rose);
        }

    none_failed : any_of then (λ w. has_failed w.ended) ≡ false → (i : ℕ) (door : D) (pass : Pass) → i < length doors
        → EndsWell at (get_or doors i door) (get_or doors_then i door) (get_or passes_then i pass)
    none_failed well i door pass early = some_worker _ i early (λ worker.
        let total = crew_long in
        let long = ran.long in
        let k = length crew - 1 - i in
        let within : k < length then = omega (arith, early, total, long) in
        at_place (λ _ x p y. EndsWell at x y p) i door pass worker early
        (ends_well at held silent (get_or crew k worker).door (get_or then k worker).door (get_or crew k worker).seat.pass (get_or then k worker).seat.pass
        (get_or then k worker).ended
        (λ on. let clash : false ≡ true = sym well ∙ list_any_at (λ (w : Worker D B C). has_failed w.ended) then k worker within on in absurd (cc))
        (ran.each k worker (omega (arith, early, total)))))

    pub have_run : (failed : Bool) → failed ≡ any_of then (λ w. has_failed w.ended) → HaveRun at held silent doors passes doors_then passes_then failed
    have_run failed told =
        let total = crew_long in
        let long = ran.long in
        let doors_back : length doors_then ≡ length then = ap length doors_come ∙ back_long then (λ w. w.door) in
        let passes_back : length passes_then ≡ length then = ap length passes_come ∙ back_long then (λ w. w.seat.pass) in
        record {
          doors_long = omega (arith, doors_back, long, total);
          passes_long = omega (arith, passes_back, long, total);
          each = each_ran;
          some = λ on. some_rose (sym told ∙ on);
          none = λ off. none_failed (sym told ∙ off);
        }
