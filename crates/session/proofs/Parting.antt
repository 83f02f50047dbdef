-- What a shared board is when it is closed after it was served.
use Rattle.std.proofs.Common.{◌≡◌, ◌⊎◌, ℕ, ◌+◌, ◌-◌, ◌<◌, Bool, true, false, IsFalse, List, [], ◌∷◌, All, length, get_or, Some, inl, inr, refl, sym, subst, ap, ◌∙◌, arith, length-append}
use Rattle.std.specs.List.{list_any}
use Rattle.std.proofs.Math.Seq.{get_or-append_seam}
use Rattle.std.proofs.lemmas.Bool.{cases_lt}
use Rattle.std.proofs.lemmas.List.{get_or_append_left}
use Rattle.atomic_table.specs.Seated.{TableId}
use Rattle.path_core.specs.declared.entry.Entry.{Entry}
use Rattle.path_core.specs.Boards.{Boarded}
use Rattle.path_core.specs.Histories.{is_halt, IsHalting}
use Rattle.path_core.specs.Passes.{OthersAdd}
use Rattle.path_core.proofs.Passing.{others_begin}
use Rattle.path_board.specs.declared.pass.Pass.{Pass}
use Rattle.path_board.specs.declared.state.Foundation.{Foundation}
use Rattle.path_board.specs.Foundations.{foundation_of}
use Rattle.path_board.specs.Passes.{base_by, seen_of, SamePass}
use Rattle.path_board.specs.SharedBoards.{AreAllPasses, AreNewPasses, GoesOnFromAll, IsBaseOfLast, IsNewPass}
use Rattle.path_board.proofs.Same.{same_all}
use Rattle.wire.specs.Talks.{EndedTalk}
use Rattle.session.specs.declared.builder.BuildTotals.{BuildTotals}
use Rattle.session.specs.Builders.{HasBuilt}
use Rattle.session.specs.declared.trades.Trade.{Trade}
use Rattle.session.specs.Doors.{HasServed, IsServedTalk}
use Rattle.session.specs.Trades.{IsHeldBy, IsNoFeed, feeds_at}
use Rattle.session.specs.Seats.{place_of, standing_of}
use Rattle.session.specs.ServedBoards.{AreServed, AreServedBy, FailedSo, FitsBoard, IsBuiltBy, IsParted, IsPlaceAt, IsServed, IsServedBy, first_standing}
use Rattle.session.specs.Standing.{Place, Standing}
use Rattle.session.proofs.Crewing.{default_of, same_by_place}
use Rattle.session.proofs.Leading.{halts_still, served_as}
use Rattle.wire.specs.Knocks.{AtDoor}

-- a board that halted halts later
halts_later : (pass : ℕ) (seen history : List Entry) → OthersAdd pass seen history → IsHalting seen → IsHalting history
halts_later pass seen history grown halts = halts_still seen history (others_begin pass seen history grown) halts

-- how a new pass stands
stands_first : (id : TableId) (board : Boarded) (count place : ℕ) (pass : Pass) → IsNewPass id board count place pass → board.version.prefix ≡ 0
    → standing_of pass ≡ first_standing
stands_first id board count place pass new zero = λ i. record {
  seen = new.seen i;
  held = (ap (λ v. v.prefix) new.held ∙ zero) i;
  looks = Some (new.looks i);
}

place_at : (id : TableId) (board : Boarded) (count place : ℕ) (pass : Pass) → IsNewPass id board count place pass → IsPlaceAt board place (place_of pass)
place_at id board count place pass new = record {
  pass = new.number;
  start = ap (λ (f : Foundation). f.start) new.base;
  order = ap (λ (f : Foundation). f.order) new.base;
  room = ap (λ (f : Foundation). f.room) new.base;
}

-- all new passes are at places that fit
pub all_fit : (fits : Place → Type 0) (id : TableId) (board : Boarded) (count : ℕ) (passes : List Pass) → FitsBoard fits board
    → AreNewPasses id board count passes → All (λ pass. fits (place_of pass)) passes
all_fit fits id board count passes fit news = λ i d early.
    fit i (place_of (get_or passes i d)) (place_at id board count i (get_or passes i d) (news.each i d early))

module _ {D : Type 0} (at : D → AtDoor)
    (held : Place → Standing → EndedTalk → Standing → Type 0) (silent : Place → Type 0) (id : TableId) (board : Boarded) (count : ℕ)
    (doors : List D) (passes : List Pass) (doors_after : List D) (passes_after : List Pass) (builds : BuildTotals) (failed : Bool) (rung_before rung_after : ℕ)
    (news : AreNewPasses id board count passes) (some : 0 < length doors)
    (p : IsParted at held silent doors passes doors_after passes_after builds failed rung_before rung_after) where
  long_before : length passes ≡ length doors + 1
  long_before = let long = p.long in
      let all : length passes ≡ length p.first + 1 = ap length p.passes_are ∙ length-append p.first (p.builder ∷ []) in omega (arith, long, all)

  pub long_after : length passes_after ≡ length doors + 1
  long_after = let long = p.ran.passes_long in
      let all : length passes_after ≡ length p.first_after + 1 = ap length p.passes_after_are ∙ length-append p.first_after (p.builder_after ∷ []) in omega (arith, long, all)

  -- passes by their places
  first_at : (i : ℕ) (d : Pass) → i < length doors → get_or passes i d ≡ get_or p.first i d
  first_at i d early = let long = p.long in
      ap (λ l. get_or l i d) p.passes_are ∙ get_or_append_left p.first (p.builder ∷ []) d i (omega (arith, early, long))

  first_after_at : (i : ℕ) (d : Pass) → i < length doors → get_or passes_after i d ≡ get_or p.first_after i d
  first_after_at i d early = let long = p.ran.passes_long in
      ap (λ l. get_or l i d) p.passes_after_are ∙ get_or_append_left p.first_after (p.builder_after ∷ []) d i (omega (arith, early, long))

  builder_at : (d : Pass) → get_or passes (length doors) d ≡ p.builder
  builder_at d = ap (λ n. get_or passes n d) (sym p.long) ∙ ap (λ l. get_or l (length p.first) d) p.passes_are ∙ get_or-append_seam p.first p.builder [] d

  builder_after_at : (d : Pass) → get_or passes_after (length doors) d ≡ p.builder_after
  builder_after_at d = ap (λ n. get_or passes_after n d) (sym p.ran.passes_long) ∙ ap (λ l. get_or l (length p.first_after) d) p.passes_after_are
      ∙ get_or-append_seam p.first_after p.builder_after [] d

  -- each is the same pass as before
  same_at : (i : ℕ) (d : Pass) → i < length passes → SamePass (get_or passes i d) (get_or passes_after i d)
  same_at i d early = elim (cases_lt i (length doors)) [
    | inl within ↦ default_of (SamePass (get_or passes i d) (get_or passes_after i d)) doors some (λ door.
        subst (λ x. SamePass x (get_or passes_after i d)) (sym (first_at i d within))
        (subst (SamePass (get_or p.first i d)) (sym (first_after_at i d within))
        (same_by_place (get_or p.first i d) (get_or p.first_after i d) (p.ran.each i door d within).run.same)))
    | inr beyond ↦
        let long = long_before in
        let last : length doors ≡ i = omega (arith, beyond, early, long) in
        subst (λ n. SamePass (get_or passes n d) (get_or passes_after n d)) last
        (subst (λ x. SamePass x (get_or passes_after (length doors) d)) (sym (builder_at d))
        (subst (SamePass p.builder) (sym (builder_after_at d)) (same_by_place p.builder p.builder_after p.same)))
  ]

  pub all_passes : AreAllPasses id passes_after
  all_passes = let a = long_before in let b = long_after in let n = news.count_is in
      same_all id board count passes passes_after news (omega (arith, a, n)) (omega (arith, a, b)) same_at

  new_at : (i : ℕ) → i < length doors → IsNewPass id board count i (get_or p.first i p.builder)
  new_at i early = let a = long_before in
      subst (IsNewPass id board count i) (first_at i p.builder early) (news.each i p.builder (omega (arith, a, early)))

  new_builder : IsNewPass id board count (length doors) p.builder
  new_builder = let a = long_before in
      subst (IsNewPass id board count (length doors)) (builder_at p.builder) (news.each (length doors) p.builder (omega (arith, a)))

  module _ (history : List Entry) (zero : board.version.prefix ≡ 0) (goes : GoesOnFromAll passes_after history) where
    seen_on : (i : ℕ) → i < length doors → OthersAdd i (seen_of (get_or p.first_after i p.builder)) history
    seen_on i early = let b = long_after in
        subst (λ (x : Pass). OthersAdd i (seen_of x) history) (first_after_at i p.builder early) (goes i p.builder (omega (arith, b, early)))

    pub are_served : AreServedBy at held silent board doors doors_after history
    are_served = record {
      long = p.ran.doors_long;
      each = λ i door early.
          let run = (p.ran.each i door p.builder early).run in
          let new = new_at i early in
          record {
            place = place_of (get_or p.first i p.builder);
            place_is = place_at id board count i (get_or p.first i p.builder) new;
            last = standing_of (get_or p.first_after i p.builder);
            served = subst
                (λ s. HasServed held silent (place_of (get_or p.first i p.builder)) s (at (get_or doors i door)).talks (standing_of (get_or p.first_after i p.builder))
                (at (get_or doors_after i door)).talks)
                (stands_first id board count i (get_or p.first i p.builder) new zero) run.served;
            ended = run.how;
            ends = run.ends;
            port_is = run.port_is;
            to_end = seen_on i early;
          };
    }

    pub built_by : IsBuiltBy board (length doors) builds rung_before rung_after history
    built_by = record {
      place = place_of p.builder;
      place_is = place_at id board count (length doors) p.builder new_builder;
      last = standing_of p.builder_after;
      built = subst (λ s. HasBuilt (place_of p.builder) s builds rung_before (standing_of p.builder_after) rung_after)
          (stands_first id board count (length doors) p.builder new_builder zero) p.built;
      to_end = let b = long_after in
          subst (λ (x : Pass). OthersAdd (length doors) (seen_of x) history) (builder_after_at p.builder) (goes (length doors) p.builder (omega (arith, b)));
    }

    well_or_halts : (halts : Bool) → list_any is_halt history ≡ halts → IsFalse failed
        → IsHalting history ⊎ ((i : ℕ) (default : D) → i < length doors_after → (at (get_or doors_after i default)).closed ≡ true)
    well_or_halts true is off = inl is
    well_or_halts false is off = inr (λ i door early.
        let long = p.ran.doors_long in
        let within : i < length doors = omega (arith, early, long) in
        elim ((p.ran.none off i door p.builder within).why) [
          | inl shut ↦ shut
          | inr halts ↦
              let clash : true ≡ false = sym (halts_later i (seen_of (get_or p.first_after i p.builder)) history (seen_on i within) halts) ∙ is in absurd (cc)
        ])

    pub failed_so : FailedSo at failed doors doors_after history
    failed_so = record {
      some = p.ran.some;
      none = λ off. (λ i door early. (p.ran.none off i door p.builder early).faults_are, well_or_halts (list_any is_halt history) refl off);
    }

  pub base_is : (base : Foundation) → IsBaseOfLast passes_after base → base ≡ foundation_of board
  base_is base last =
      let b = long_after in
      let at : length passes_after - 1 ≡ length doors = omega (arith, b) in
      sym (last p.builder) ∙ ap (λ n. base_by (get_or passes_after n p.builder)) at ∙ ap base_by (builder_after_at p.builder)
      ∙ (same_by_place p.builder p.builder_after p.same).base ∙ new_builder.base

-- a door at whose pass talks are sessions was served by sessions
module _ {D : Type 0} (at : D → AtDoor) (done : Trade)
    (board : Boarded) (history : List Entry) where
  pub by_sessions : (number : ℕ) (before after : D) → IsNoFeed done number
      → IsServedBy at (IsHeldBy done) (feeds_at done) board number before after history
      → IsServed at board number before after history
  by_sessions number before after none s = record {
    place = s.place;
    place_is = s.place_is;
    last = s.last;
    served = served_as (IsHeldBy done) (λ place from talk to. IsServedTalk place from talk to) s.place
        (λ from talk to held. held.session (subst (IsNoFeed done) (sym s.place_is.pass) none)) (feeds_at done) (λ _. ⊥) first_standing (at before).talks s.last
        (at after).talks (λ nobody. absurd nobody) s.served;
    ended = s.ended;
    ends = s.ends;
    port_is = s.port_is;
    to_end = s.to_end;
  }

  pub all_by_sessions : (doors doors_after : List D) → ((number : ℕ) → IsNoFeed done number)
      → AreServedBy at (IsHeldBy done) (feeds_at done) board doors doors_after history
      → AreServed at board doors doors_after history
  all_by_sessions doors doors_after none p = record {
    long = p.long;
    each = λ i d early. by_sessions i (get_or doors i d) (get_or doors_after i d) (none i) (p.each i d early);
  }
