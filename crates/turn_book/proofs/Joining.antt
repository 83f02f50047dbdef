-- Seats and notes that come, are joined, and look: each step keeps the rule.
use Rattle.std.proofs.Common.{◌≡◌, ◌≢◌, ◌⊎◌, ℕ, ◌+◌, ◌^◌, ◌<◌, List, [], ◌∷◌, ◌++◌, length, length-append, set, get_or, sym, refl, ap, ◌∙◌, subst, inl, inr, ⊎_elim, arith, Option, Some, None}
use Rattle.std.specs.List.{AllByRecursion}
use mathlib.Core.Option.{some, none}
use lib.ListN.{get_elem?}
use Rattle.atomic_table.specs.Table.{State, Me, step, keeps, Allows, Splits, Joins}
use Rattle.atomic_table.proofs.Lists.{at_longer, set_else}
use Rattle.turn_book.specs.Histories.{StartsWith, AddsNoneOf, longer_of, first_or}
use Rattle.turn_book.specs.Rule.{queued, HasSlot, unless_spent, numbered, in_queue, weight, view_of, own_list, Ledger, Stands, HasNumber, IsNumbered, HasEnded, Keeps, Fits, AtHome, Out, Kept}
use Rattle.turn_book.specs.Steps.{AddsNoneOfOwn, Tells, counted, learnt, one_more, either_made, own_end, same_view, note_of, hands_on, next_of, met, spent}
use Rattle.turn_book.specs.declared.view.Ended.{Ended}
use Rattle.turn_book.specs.declared.view.View.{View}
use Rattle.turn_book.specs.declared.view.Phase.{Phase}
use Rattle.turn_book.specs.declared.view.Phase.TheVariants.{Idle, Spent}
use Rattle.turn_book.proofs.Lists.{put_here, at_end, stay, stay_more, total_set, total_end, each_of, each_both, each_left, starts_on, starts_same, longer_reaches, adds_above, adds_cut, adds_rest}
use Rattle.turn_book.proofs.Views.{seat_more, merge, own_starts, look_fits, learn_fits, seat_fits, merged, taken, merge_other}
use Rattle.turn_book.proofs.Keeps.{alive, lives, looked, running, runs_on, slot_stays, tells}

module _ {E B : Type 0} (names : E → ℕ) (base : B) (g : Ledger E) where
  -- only one view knows how many seats there are
  lone_keeper : (id j : ℕ) (made : Option ℕ) → g.keeper ≡ id → j ≢ id → Keeps names base g j made → made ≡ None
  lone_keeper id j None is other h = refl
  lone_keeper id j (Some n) is other h = absurd (other (sym h.1 ∙ is))

  forgets_made : (id : ℕ) (v : View E B) → Fits names base g id v → Fits names base g id (record v { made = None })
  forgets_made id v f = record { seen = f.seen; same_base = f.same_base; number = f.number; joined = f.joined; ended = f.ended; keeps = tt; stands = f.stands }

  note_fits : (id new : ℕ) (v : View E B) → Fits names base g id v → Fits names base g new (note_of v)
  note_fits id new v f = record { seen = f.seen; same_base = f.same_base; number = refl; joined = tt; ended = tt; keeps = tt; stands = tt }

  -- the next seat has the next number, which no entry names yet
  next_fits : (id new n : ℕ) (v : View E B) → v.made ≡ Some n
      → AllByRecursion (λ e. names e < g.made) g.history → Fits names base g id v → Fits names base (seat_more g new) new (next_of v)
  next_fits id new n v made known f = subst
      (λ k. let w : View E B = view_of k Idle v.seen 0 v.base (one_more k) in Fits names base (seat_more g new) new w) (sym made) record {
        seen = f.seen;
        same_base = f.same_base;
        number = subst (λ k. HasNumber names base (seat_more g new) new k v.seen) (sym all) (omega arith, put_here g.owner g.made new, adds_above names g.made v.seen g.history f.seen known);
        joined = tt;
        ended = tt;
        keeps = (ap (λ k. k + 1) all, refl);
        stands = tt;
      }
    where
      all : n ≡ g.made
      all = (subst (Keeps names base g id) made f.keeps).0

  owner_of : (id n : ℕ) (number : Option ℕ) (phase : Phase) (seen : List E) → number ≡ Some n → IsNumbered names base g id number phase seen → g.owner n ≡ id
  owner_of id n number phase seen is h = (subst (λ k. IsNumbered names base g id k phase seen) is h).1

pub first_stays : {A : Type 0} (x y : A) (xs ys : List A) → first_or x (xs ++ y ∷ ys) ≡ first_or y xs
first_stays x y [] ys = refl
first_stays x y (z ∷ zs) ys = refl

pub one_end : {E : Type 0} (number : Option ℕ) (seen : List E) → length (own_end number seen) ≡ numbered number
one_end None seen = refl
one_end (Some n) seen = refl

module _ {E B : Type 0} (names : E → ℕ) (base : B) (g : Ledger E) where
  -- two views as one
  met_fits : (id other : ℕ) (v w : View E B) → other ≢ id → v.phase ≡ Idle
      → Fits names base g id v → Fits names base g other w → Fits names base (merge g other id) id (met v w)
  met_fits id other v w apart idle f h = record {
    seen = reaches.2;
    same_base = f.same_base;
    number = subst (λ x. IsNumbered names base (merge g other id) id v.number v.phase x)
        (sym (first_stays (longer_of v.seen w.seen) v.seen v.joined (w.seen ∷ [])))
        (numbers v.number v.phase (own_list v) f.number);
    joined = each_both (StartsWith longer) v.joined (v.seen ∷ w.seen ∷ [])
        (each_of (StartsWith v.seen) (StartsWith longer) v.joined (λ x s. starts_on longer v.seen x reaches.0 s) f.joined)
        (reaches.0, (reaches.1, tt));
    ended = each_both (HasEnded names base (merge g other id) id v.number longer) v.ended (w.ended ++ own_end w.number w.seen)
        (each_of (HasEnded names base g id v.number v.seen) (HasEnded names base (merge g other id) id v.number longer) v.ended
        (λ x e. ((e.0.0, merged g.owner other id id x.number e.0.1 (λ s. apart (sym s)), e.0.2), starts_on longer v.seen x.seen reaches.0 e.1, e.2)) f.ended)
        (each_both (HasEnded names base (merge g other id) id v.number longer) w.ended (own_end w.number w.seen)
        (each_of (HasEnded names base g other w.number w.seen) (HasEnded names base (merge g other id) id v.number longer) w.ended
        (λ x e. ((e.0.0, taken g.owner other id x.number e.0.1, e.0.2), starts_on longer w.seen x.seen reaches.1 e.1, not_mine x.number e.0.1)) h.ended)
        (ends w.number h.number));
    keeps = keepers v.made w.made f.keeps h.keeps;
    stands = subst (Stands names base (merge g other id) id longer) (sym idle) tt;
  }
    where
      longer : List E
      longer = longer_of v.seen w.seen

      reaches : StartsWith longer v.seen × StartsWith longer w.seen × StartsWith g.history longer
      reaches = longer_reaches g.history v.seen w.seen f.seen h.seen

      not_mine : (n : ℕ) → g.owner n ≡ other → v.number ≢ Some n
      not_mine n theirs mine = apart (sym theirs ∙ owner_of names base g id n v.number v.phase (own_list v) mine f.number)

      numbers : (number : Option ℕ) (phase : Phase) (seen : List E) → IsNumbered names base g id number phase seen → IsNumbered names base (merge g other id) id number phase seen
      numbers None phase seen n = n
      numbers (Some k) phase seen n = (n.0, merged g.owner other id id k n.1 (λ s. apart (sym s)), n.2)

      ends : (number : Option ℕ) → IsNumbered names base g other number w.phase (own_list w) → AllByRecursion (HasEnded names base (merge g other id) id v.number longer) (own_end number w.seen)
      ends None n = tt
      ends (Some k) n = (((n.0, taken g.owner other id k n.1, adds_cut names k (own_list w) w.seen g.history (own_starts names base w h.joined) h.seen n.2), reaches.1, not_mine k n.1), tt)

      keepers : (mine theirs : Option ℕ) → Keeps names base g id mine → Keeps names base g other theirs → Keeps names base (merge g other id) id (either_made mine theirs)
      keepers None None k l = tt
      keepers None (Some n) k l = (l.0, taken (λ x. x) other id g.keeper l.1)
      keepers (Some n) theirs k l = (k.0, merged (λ x. x) other id id g.keeper k.1 (λ s. apart (sym s)))

module _ {S E B : Type 0} (list : S → List E) (base_of : S → B) (base : B) where
  -- the slot is where it was, where one more view came
  slot_grows : (words : List ℕ) (s : State (Option S) (View E B)) (history : List E) (o : View E B) → ¬ HasSlot o.phase
      → AtHome list base_of base s history ⊎ Out list base_of base s
      → AtHome list base_of base (record { words = words; homes = s.homes; views = s.views ++ o ∷ [] }) history
      ⊎ Out list base_of base (record { words = words; homes = s.homes; views = s.views ++ o ∷ [] })
  slot_grows words s history o out = ⊎_elim
      (λ h. inl (h.0, h.1, h.2, h.3, λ j u at has. ⊎_elim (λ t. h.4 j u t has) (λ t. out (subst (λ (v : View E B). HasSlot v.phase) (sym t.1) has)) (at_end s.views o u j at)))
      (λ t. inr (t.0, t.1, t.2, at_longer s.views (o ∷ []) t.0 t.1 t.3, t.4))

module _ {S E B : Type 0} (list : S → List E) (base_of : S → B) (names : E → ℕ) where
  pub splits_note : (id : ℕ) (v : View E B) → v.phase ≡ Idle → v.base ≢ None → Splits (Kept list base_of names) id v (same_view v) (note_of v)
  splits_note id v idle based s h at =
      let r = running list base_of names s id v h at based in let g = r.now in let o : View E B = note_of v in
      let f = r.each id v at (lives v Idle idle (alive Idle tt)) in
      let q = total_set in_queue s.views id v v at in let q' = total_end in_queue (set s.views id v) o in
      let k = total_set weight s.views id v v at in let k' = total_end weight (set s.views id v) o in
      let qr = r.queue in let kr = r.seats in
      let x : State (Option S) (View E B) = record { words = s.words; homes = s.homes; views = set s.views id v } in runs_on list base_of names _ record {
        base = r.base;
        now = g;
        words = r.words;
        queue = omega arith;
        seats = omega arith;
        some_made = r.some_made;
        few = r.few;
        known = r.known;
        each = stay_more (λ j u. u.phase ≢ Spent → Fits names r.base g j u) s.views id v o
            (λ _. f) (λ _. note_fits names r.base g id (length s.views) v f) (λ j u other there lives. r.each j u there lives);
        slot = slot_grows list base_of r.base s.words x g.history o (λ none_here. none_here)
            (slot_stays list base_of r.base s g.history id v v s.words at (λ z. z) (λ z. z) r.slot);
      }

  pub splits_seat : (id n : ℕ) (v : View E B) → v.phase ≡ Idle → v.base ≢ None → v.made ≡ Some n
      → n + 1 < 2 ^ 63 → Splits (Kept list base_of names) id v (hands_on v) (next_of v)
  splits_seat id n v idle based made small s h at =
      let r = running list base_of names s id v h at based in let g = r.now in let new = length s.views in
      let o : View E B = next_of v in let w : View E B = hands_on v in
      let f = r.each id v at (lives v Idle idle (alive Idle tt)) in
      let keeps = subst (Keeps names r.base g id) made f.keeps in
      let all : n ≡ g.made = keeps.0 in
      let q = total_set in_queue s.views id v w at in let q' = total_end in_queue (set s.views id w) o in
      let k = total_set weight s.views id v w at in let k' = total_end weight (set s.views id w) o in
      let one : numbered v.made ≡ 1 = ap numbered made in
      let qr = r.queue in let kr = r.seats in
      let x : State (Option S) (View E B) = record { words = s.words; homes = s.homes; views = set s.views id w } in runs_on list base_of names _ record {
        base = r.base;
        now = seat_more g new;
        words = r.words;
        queue = omega arith;
        seats = omega arith;
        some_made = omega arith;
        few = omega arith;
        known = each_of (λ e. names e < g.made) (λ e. names e < g.made + 1) g.history (λ e lt. omega arith) r.known;
        each = stay_more (λ j u. u.phase ≢ Spent → Fits names r.base (seat_more g new) j u) s.views id w o
            (λ _. seat_fits names r.base g new id w refl (forgets_made names r.base g id v f))
            (λ _. next_fits names r.base g id new n v made r.known f)
            (λ j u other there lives. let e = r.each j u there lives in seat_fits names r.base g new j u (lone_keeper names r.base g id j u.made keeps.1 other e.keeps) e);
        slot = slot_grows list base_of r.base s.words x g.history o (λ none_here. none_here)
            (slot_stays list base_of r.base s g.history id v w s.words at (λ z. z) (λ z. z) r.slot);
      }

  pub joins : (id : ℕ) (v : View E B) (other : ℕ) (w : View E B) → v.phase ≡ Idle → w.phase ≡ Idle
      → v.base ≢ None → Joins (Kept list base_of names) id v other w (met v w) spent
  joins id v other w idle idle' based s h at apart at' =
      let r = running list base_of names s id v h at based in let g = r.now in
      let both : View E B = met v w in let gone : View E B = spent in
      let there : get_elem? s.views other ≡ some w = sym (set_else s.views id other both apart) ∙ at' in
      let f = r.each id v at (lives v Idle idle (alive Idle tt)) in
      let f' = r.each other w there (lives w Idle idle' (alive Idle tt)) in
      let q = total_set in_queue s.views id v both at in
      let q' = total_set in_queue (set s.views id both) other w gone at' in
      let q'' : queued w.phase ≡ 0 = ap queued idle' in
      let k = total_set weight s.views id v both at in let k' = total_set weight (set s.views id both) other w gone at' in
      let a : weight v ≡ numbered v.number + length v.ended = ap (λ p. unless_spent p (numbered v.number + length v.ended)) idle in
      let b : weight w ≡ numbered w.number + length w.ended = ap (λ p. unless_spent p (numbered w.number + length w.ended)) idle' in
      let ended : List (Ended E) = v.ended ++ (w.ended ++ own_end w.number w.seen) in
      let c : weight both ≡ numbered v.number + length ended = ap (λ p. unless_spent p (numbered v.number + length ended)) idle in
      let d : length ended ≡ length v.ended + (length w.ended + numbered w.number) =
      length-append v.ended (w.ended ++ own_end w.number w.seen)
      ∙ ap (λ n. length v.ended + n) (length-append w.ended (own_end w.number w.seen) ∙ ap (λ n. length w.ended + n) (one_end w.number w.seen)) in
      let qr = r.queue in let kr = r.seats in
      let x : State (Option S) (View E B) = record { words = s.words; homes = s.homes; views = set s.views id both } in runs_on list base_of names _ record {
        base = r.base;
        now = merge g other id;
        words = r.words;
        queue = omega arith;
        seats = omega arith;
        some_made = r.some_made;
        few = r.few;
        known = r.known;
        each = stay (λ j u. u.phase ≢ Spent → Fits names r.base (merge g other id) j u) (set s.views id both) other gone
            (λ alive_still. absurd (alive_still refl))
            (λ j u else here lives. stay (λ i y. i ≢ other → y.phase ≢ Spent → Fits names r.base (merge g other id) i y) s.views id both
            (λ _ _. met_fits names r.base g id other v w apart idle f f')
            (λ i y _ place not_other living. merge_other names r.base g other id i y not_other (r.each i y place living)) j u here else lives);
        slot = slot_stays list base_of r.base x g.history other w gone s.words at'
            (λ has. absurd (subst HasSlot idle' has)) (λ has. absurd has)
            (slot_stays list base_of r.base s g.history id v both s.words at (λ z. z) (λ z. z) r.slot);
      }

  pub learns : (slots id : ℕ) (m : Me (Option S) (View E B)) → m.0.phase ≡ Idle → m.0.base ≢ None
      → Allows (Kept list base_of names) slots id m 2 (λ n. n) (learnt names (step slots 2 0 0 none) m)
  learns slots id m idle based s h deep at fits =
      let r = running list base_of names s id m.0 h at based in let g = r.now in let w : View E B = record m.0 { joined = [] } in
      let f = r.each id m.0 at (lives m.0 Idle idle (alive Idle tt)) in (
        w,
        keeps,
        tt,
        runs_on list base_of names _ (looked list base_of names s r 2 id m.0 w s.homes at refl refl (learn_fits names r.base g id m.0 f)
            (slot_stays list base_of r.base s g.history id m.0 w (set s.words 2 (get_or s.words 2 0)) at (λ z. z) (λ z. z) r.slot)),
        (refl, tells_seen r.base g f r.known),
      )
    where
      tells_seen : (base : B) (g : Ledger E) → Fits names base g id m.0 → AllByRecursion (λ e. names e < g.made) g.history → Tells names m.0 m.0.seen
      tells_seen base g f known = record {
        seen = starts_same m.0.seen;
        own = own m.0.number f.number;
        joined = f.joined;
        ended = each_of (HasEnded names base g id m.0.number m.0.seen) (λ e. AddsNoneOf names e.number e.seen m.0.seen) m.0.ended
            (λ x e. adds_rest names x.number x.seen m.0.seen g.history e.1 f.seen e.0.2) f.ended;
        known = λ n is. subst (λ k. AllByRecursion (λ e. names e < k) m.0.seen)
            (sym (subst (Keeps names base g id) is f.keeps).0)
            (each_left (λ e. names e < g.made) m.0.seen f.seen.more (subst (AllByRecursion (λ e. names e < g.made)) f.seen.is known));
      }
        where
          own : (number : Option ℕ) → IsNumbered names base g id number m.0.phase (own_list m.0) → AddsNoneOfOwn names number (own_list m.0) m.0.seen
          own None n = tt
          own (Some k) n = adds_rest names k (own_list m.0) m.0.seen g.history (own_starts names base m.0 f.joined) f.seen n.2

  pub counts_all : (slots id : ℕ) (m : Me (Option S) (View E B)) → m.0.phase ≡ Idle → m.0.number ≢ None → m.0.base ≢ None
      → Allows (Kept list base_of names) slots id m 2 (λ n. n) (counted names (step slots 2 0 0 none) m)
  counts_all slots id m idle some_number based s h deep at fits =
      let r = running list base_of names s id m.0 h at based in let g = r.now in
      let w : View E B = record m.0 { seen = g.history; looks = m.0.looks + 1; joined = [] } in
      let f = r.each id m.0 at (lives m.0 Idle idle (alive Idle tt)) in (
        w,
        keeps,
        tt,
        runs_on list base_of names _ (looked list base_of names s r 2 id m.0 w s.homes at refl refl
            (look_fits names r.base g id m.0 m.0.phase (m.0.looks + 1) g.history refl some_number (subst (Stands names r.base g id g.history) (sym idle) tt) f)
            (slot_stays list base_of r.base s g.history id m.0 w (set s.words 2 (get_or s.words 2 0)) at (λ z. z) (λ z. z) r.slot)),
        (g.history, ap (λ ws. get_or ws 2 0) r.words, refl, tells list base_of names r.base g id m.0 r.known f),
      )
