-- A led board: what was done at its doors, and at that of the feed.
use Rattle.std.proofs.Common.{◌≡◌, ◌≢◌, ℕ, ◌+◌, ◌<◌, List, [], ◌∷◌, ◌++◌, All, length, get_or, sym, subst, ap, ◌∙◌, arith, length-append}
use Rattle.std.proofs.Math.Seq.{get_or-append_seam}
use Rattle.std.proofs.lemmas.List.{get_or_append_left}
use Rattle.moves.specs.Maps.{Map}
use Rattle.path_core.specs.declared.entry.Entry.{Entry}
use Rattle.path_core.specs.Boards.{Boarded}
use Rattle.path_core.specs.Passes.{pass_of, OthersAdd}
use Rattle.path_core.proofs.Passing.{others_then}
use Rattle.session.specs.declared.trades.Trade.{Trade}
use Rattle.session.specs.ServedBoards.{AreServed, AreServedBy, IsServedBy, first_standing}
use Rattle.session.proofs.Leading.{served_as}
use Rattle.session.proofs.Parting.{by_sessions}
use Rattle.session.specs.Trades.{IsFedTalk, IsFeedBy, IsHeldBy, IsNoFeed, feeds_at}
use Rattle.lead_node.specs.Leading.{IsFed, everywhere}
use Rattle.wire.specs.Knocks.{AtDoor}

-- every entry names a pass
pub named_below : {D : Type 0} (history : List Entry) (doors : List D) (door : D) (every : List D) → every ≡ doors ++ door ∷ []
    → All (λ entry. pass_of entry < length every + 1) history → All (λ entry. pass_of entry < length doors + 2) history
named_below history doors door every is all =
    let long : length every ≡ length doors + 1 = ap length is ∙ length-append doors (door ∷ []) in
    let bound : length every + 1 ≡ length doors + 2 = omega (arith, long) in
    subst (λ n. All (λ entry. pass_of entry < n) history) bound all

module _ {D : Type 0} (at : D → AtDoor) (board : Boarded)
    (history : List Entry) (start : Map) (done : Trade) (feed : ℕ) where
  led_feed_door : (before after : D) → IsFeedBy done feed start → IsServedBy at (IsHeldBy done) (feeds_at done) board feed before after history
      → IsFed at start board feed before after history
  led_feed_door before after by s = record {
    place = s.place;
    place_is = s.place_is;
    last = s.last;
    served = served_as (IsHeldBy done) (IsFedTalk start) s.place (λ from talk to held. held.fed start (subst (λ n. IsFeedBy done n start) (sym s.place_is.pass) by))
        (feeds_at done) everywhere
        first_standing (at before).talks s.last (at after).talks (λ _. (start, subst (λ n. IsFeedBy done n start) (sym s.place_is.pass) by)) s.served;
    ended = s.ended;
    ends = s.ends;
    port_is = s.port_is;
    to_end = s.to_end;
  }

  -- who enters nothing has no entry
  no_entry : (before after : D) → IsFed at start board feed before after history → All (λ entry. pass_of entry ≢ feed) history
  no_entry before after s =
      let all = others_then feed [] s.last.seen history (subst (λ n. OthersAdd n [] s.last.seen) s.place_is.pass (s.served.on.quiet tt)) s.to_end in
      subst (All (λ entry. pass_of entry ≢ feed)) (sym all.grown) all.none

  -- of the list of all doors the last one is that of the feed
  module _ (doors : List D) (door : D) (every every_after doors_after : List D) (door_after : D)
      (every_is : every ≡ doors ++ door ∷ []) (after_is : doors_after ++ door_after ∷ [] ≡ every_after)
      (p : AreServedBy at (IsHeldBy done) (feeds_at done) board every every_after history) (by : IsFeedBy done feed start)
      (others : (pass : ℕ) → (pass ≡ feed → ⊥) → IsNoFeed done pass) (counted : feed ≡ length doors) where
    whole : length every ≡ length doors + 1
    whole = ap length every_is ∙ length-append doors (door ∷ [])

    long : length doors_after ≡ length doors
    long =
        let all = p.long in
        let before = whole in
        let after : length every_after ≡ length doors_after + 1 = sym (ap length after_is) ∙ length-append doors_after (door_after ∷ []) in
        omega (arith, all, before, after)

    served_at : (i : ℕ) (d x y : D) → i < length doors + 1 → get_or (doors ++ door ∷ []) i d ≡ x → get_or (doors_after ++ door_after ∷ []) i d ≡ y
        → IsServedBy at (IsHeldBy done) (feeds_at done) board i x y history
    served_at i d x y early first then =
        let all = whole in
        subst (λ b. IsServedBy at (IsHeldBy done) (feeds_at done) board i x b history)
        (ap (λ l. get_or l i d) (sym after_is) ∙ then)
        (subst (λ a. IsServedBy at (IsHeldBy done) (feeds_at done) board i a
        (get_or every_after i d) history)
        (ap (λ l. get_or l i d) every_is ∙ first) (p.each i d (omega (arith, early, all))))

    pub led_doors : AreServed at board doors doors_after history
    led_doors = record {
      long = long;
      each = λ i d early.
          let same = long in
          by_sessions at done board history i (get_or doors i d) (get_or doors_after i d)
          (others i (λ is. omega (arith, is, counted, early)))
          (served_at i d (get_or doors i d) (get_or doors_after i d) (omega (arith, early)) (get_or_append_left doors (door ∷ []) d i early)
          (get_or_append_left doors_after (door_after ∷ []) d i (omega (arith, early, same))));
    }

    fed_there : IsFed at start board feed door door_after history
    fed_there =
        let same = long in
        led_feed_door door door_after by
        (served_at feed door door door_after (omega (arith, counted))
        (ap (λ n. get_or (doors ++ door ∷ []) n door) counted ∙ get_or-append_seam doors door [] door)
        (ap (λ n. get_or (doors_after ++ door_after ∷ []) n door) (counted ∙ sym same) ∙ get_or-append_seam doors_after door_after [] door))

    pub led_fed : IsFed at start board (length doors) door door_after history
    led_fed = subst (λ n. IsFed at start board n door door_after history) counted fed_there

    pub led_quiet : All (λ entry. pass_of entry ≢ length doors) history
    led_quiet = subst (λ n. All (λ entry. pass_of entry ≢ n) history) counted (no_entry door door_after fed_there)
