-- Each step of a turn keeps the rule, and tells what it is said to tell.
use Rattle.std.proofs.Common.{◌≡◌, ◌≢◌, ◌⊎◌, ℕ, ◌+◌, ◌%◌, ◌^◌, ◌<◌, ◌≤◌, List, [], ◌∷◌, ◌++◌, length, set, get_or, sym, refl, ap, ◌∙◌, subst, inl, inr, ⊎_elim, arith, Option, Some, None, zero, suc, length-append}
use Rattle.std.specs.List.{AllByRecursion}
use Rattle.std.proofs.Math.Nat.{mod-add-mod}
use Rattle.std.proofs.lemmas.List.{set-get_or}
use mathlib.Core.Option.{some, none, some-injective, some-ne-none}
use mathlib.Core.Option as maybe
use mathlib.Core.Logic.{dite}
use native.Mathlib.Decide.{ℕ_discrete}
use lib.ListN.{get_elem?}
use Rattle.atomic_table.specs.Table.{State, Me, step, Act, keeps, takes, gives, Valid, carried_after, stepped, put_back, Allows}
use Rattle.atomic_table.proofs.Lists.{one_turn, set_again, set_else}
use Rattle.turn_book.specs.Histories.{StartsWith, AddsNoneOf}
use Rattle.turn_book.specs.Rule.{queued, HasSlot, unless_spent, numbered, in_queue, weight, view_of, own_list, Ledger, Stands, IsNumbered, HasEnded, Keeps, Fits, AtHome, Out, Running, newcomer, empty_lock, Kept}
use Rattle.turn_book.specs.Steps.{AddsNoneOfOwn, Tells, opened, founded, drew, served, committed, passed_on}
use Rattle.turn_book.specs.declared.view.View.{View}
use Rattle.turn_book.specs.declared.view.Phase.{Phase}
use Rattle.turn_book.specs.declared.view.Phase.TheVariants.{Idle, Waiting, Served, Done, Spent}
use Rattle.turn_book.proofs.Lists.{put_here, at_here, same_place, stay, total_set, total_below, each_of, each_both, starts_on, starts_same, adds_none}
use Rattle.turn_book.proofs.Views.{draw, pass, write, rephase, draw_fits, pass_fits, pass_other, look_fits, write_other, write_own}

abbrev slot_or : {S : Type 0} → S → List (ℕ × Option S) → S
slot_or d [] = d
slot_or d ((i, None) ∷ xs) = d
slot_or d ((i, Some x) ∷ xs) = x

abbrev home_or : {S : Type 0} → S → List (maybe.Option (Option S)) → S
home_or d [] = d
home_or d (none ∷ xs) = d
home_or d (some None ∷ xs) = d
home_or d (some (Some x) ∷ xs) = x

module _ {E B : Type 0} where
  -- the only view is the newcomer, whose base is not known
  lone : (phase : Phase) (id : ℕ) (v : View E B) → get_elem? (newcomer phase ∷ []) id ≡ some v → newcomer phase ≡ v
  lone phase zero v e = some-injective (newcomer phase) v e
  lone phase (suc id) v e = absurd (some-ne-none v (sym e))

  set_lone : (phase : Phase) (w v : View E B) (id : ℕ) → get_elem? (newcomer phase ∷ []) id ≡ some v → set (newcomer phase ∷ []) id w ≡ w ∷ []
  set_lone phase w v zero e = refl
  set_lone phase w v (suc id) e = absurd (some-ne-none v (sym e))

  pub lives : (v : View E B) (phase : Phase) → v.phase ≡ phase → phase ≢ Spent → v.phase ≢ Spent
  lives v phase is alive e = alive (sym is ∙ e)

mod_small : (n : ℕ) → n < 2 ^ 64 → n % 2 ^ 64 ≡ n
mod_small n h = omega arith

alive_not : Served 0 ≡ Idle → ⊥
alive_not e = subst HasSlot e tt

abbrev alive_if : Phase → Type 0 → Type 0
alive_if Spent P = ⊥
alive_if Idle P = P
alive_if (Waiting t) P = P
alive_if (Served t) P = P
alive_if (Done t) P = P

pub alive : (phase : Phase) → alive_if phase (Unit {0}) → phase ≢ Spent
alive phase h e = subst (λ p. alive_if p (Unit {0})) e h

pub with_slot : (phase : Phase) → HasSlot phase → phase ≢ Spent
with_slot phase h e = subst HasSlot e h

abbrev pub ticket_or : Phase → ℕ
ticket_or Idle = 0
ticket_or (Waiting x) = x
ticket_or (Served x) = x
ticket_or (Done x) = x
ticket_or Spent = 0

abbrev IsThere : {A : Type 0} → Option A → Type 0
IsThere None = ⊥
IsThere (Some x) = Unit {0}

pub there : {A : Type 0} (o : Option A) (x : A) → o ≡ Some x → o ≢ None
there o x is e = subst IsThere (sym is ∙ e) tt

abbrev pub some_or : {A : Type 0} → A → Option A → A
some_or d None = d
some_or d (Some x) = x

module _ {E B : Type 0} (names : E → ℕ) (base : B) (g : Ledger E) (id : ℕ) where
  -- who has the slot drew the ticket that is served, and has seen the history
  pub served_by : (seen : List E) (phase : Phase) → HasSlot phase → Stands names base g id seen phase → (g.by g.passed ≡ id) × (seen ≡ g.history)
  served_by seen Idle has h = absurd has
  served_by seen (Waiting t) has h = absurd has
  served_by seen (Served t) has h = (ap g.by (sym h.0) ∙ h.2, h.3)
  served_by seen (Done t) has h = (ap g.by (sym h.0) ∙ h.2, h.3)
  served_by seen Spent has h = absurd has

  pub has_number : (number : Option ℕ) (phase : Phase) (seen : List E) → IsNumbered names base g id number phase seen → HasSlot phase → number ≢ None
  has_number number phase seen h has e = subst HasSlot (subst (λ k. IsNumbered names base g id k phase seen) e h) has

queued_slot : (phase : Phase) → HasSlot phase → queued phase ≡ 1
queued_slot Idle has = absurd has
queued_slot (Waiting t) has = absurd has
queued_slot (Served t) has = refl
queued_slot (Done t) has = refl
queued_slot Spent has = absurd has

pub weighed : (phase : Phase) (n : ℕ) → phase ≢ Spent → unless_spent phase n ≡ n
weighed Idle n h = refl
weighed (Waiting t) n h = refl
weighed (Served t) n h = refl
weighed (Done t) n h = refl
weighed Spent n h = absurd (h refl)

module _ {S E B : Type 0} (list : S → List E) (base_of : S → B) (base : B) where
  -- the slot stays out, as far as the changed view has it still
  pub out_stays : (s : State (Option S) (View E B)) (id : ℕ) (v w : View E B) (words : List ℕ) → get_elem? s.views id ≡ some v → (HasSlot v.phase → HasSlot w.phase)
      → Out list base_of base s → Out list base_of base (record { words = words; homes = s.homes; views = set s.views id w })
  out_stays s id v w words at to o = dite (ℕ_discrete o.0 id)
      (λ same. (
        id,
        w,
        o.2,
        at_here s.views id v w at,
        to (subst (λ (u : View E B). HasSlot u.phase) (same_place s.views id o.1 v
            (subst (λ k. get_elem? s.views k ≡ some o.1) same o.3) at) o.4),
      ))
      (λ apart. (o.0, o.1, o.2, set_else s.views id o.0 w apart ∙ o.3, o.4))

  -- the slot is where it was
  pub slot_stays : (s : State (Option S) (View E B)) (history : List E) (id : ℕ) (v w : View E B) (words : List ℕ) → get_elem? s.views id ≡ some v
      → (HasSlot v.phase → HasSlot w.phase) → (HasSlot w.phase → HasSlot v.phase)
      → AtHome list base_of base s history ⊎ Out list base_of base s
      → AtHome list base_of base (record { words = words; homes = s.homes; views = set s.views id w }) history
      ⊎ Out list base_of base (record { words = words; homes = s.homes; views = set s.views id w })
  slot_stays s history id v w words at to from = ⊎_elim
      (λ h. inl (h.0, h.1, h.2, h.3, stay (λ j u. ¬ HasSlot u.phase) s.views id w (λ has. h.4 id v at (from has)) (λ j u other there. h.4 j u there)))
      (λ o. inr (out_stays s id v w words at to o))

module _ {S E B : Type 0} (list : S → List E) (base_of : S → B) (names : E → ℕ) where
  pub runs_on : (s : State (Option S) (View E B)) → Running list base_of names s → Kept list base_of names s
  runs_on s r = inr (inr r)

  -- a view that knows the base came after the first state
  pub running : (s : State (Option S) (View E B)) (id : ℕ) (v : View E B) → Kept list base_of names s
      → get_elem? s.views id ≡ some v → v.base ≢ None → Running list base_of names s
  running s id v kept at based = ⊎_elim (λ e. absurd (no_base Idle (some None) e)) (λ t. ⊎_elim (λ e. absurd (no_base (Served 0) none e)) (λ r. r) t) kept
    where
      no_base : (phase : Phase) (home : maybe.Option (Option S)) → s ≡ empty_lock home phase → ⊥
      no_base phase home e = based (ap (λ (u : View E B). u.base) (sym (lone phase id v (ap (λ (x : State (Option S) (View E B)). get_elem? x.views id) (sym e) ∙ at))))

  -- one view is in the queue at most once for each of its numbers, so the queue is short
  pub queue_short : (s : State (Option S) (View E B)) (r : Running list base_of names s) → r.now.drawn < r.now.passed + 2 ^ 63
  queue_short s r = let q = r.queue in let n = r.seats in let few = r.few in let le = total_below in_queue weight s.views each_le in omega arith
    where
      by_number : (v : View E B) (number : Option ℕ) (phase : Phase) (n : ℕ) (seen : List E) (g : Ledger E) (id : ℕ)
          → IsNumbered names r.base g id number phase seen → queued phase ≤ unless_spent phase (numbered number + n)
      by_number v None phase n seen g id h = subst (λ p. queued p ≤ unless_spent p (0 + n)) (sym h) (omega arith)
      by_number v (Some k) Idle n seen g id h = omega arith
      by_number v (Some k) (Waiting t) n seen g id h = omega arith
      by_number v (Some k) (Served t) n seen g id h = omega arith
      by_number v (Some k) (Done t) n seen g id h = omega arith
      by_number v (Some k) Spent n seen g id h = omega arith

      spent_or : (phase : Phase) → (phase ≡ Spent) ⊎ (phase ≢ Spent)
      spent_or Idle = inr (alive Idle tt)
      spent_or (Waiting t) = inr (alive (Waiting t) tt)
      spent_or (Served t) = inr (alive (Served t) tt)
      spent_or (Done t) = inr (alive (Done t) tt)
      spent_or Spent = inl refl

      each_le : (i : ℕ) (v : View E B) → get_elem? s.views i ≡ some v → in_queue v ≤ weight v
      each_le i v at = ⊎_elim (λ e. subst (λ p. queued p ≤ unless_spent p (numbered v.number + length v.ended)) (sym e) (omega arith))
          (λ ne. by_number v v.number v.phase (length v.ended) (own_list v) r.now i (r.each i v at ne).number) (spent_or v.phase)

  pub draws : (slots id : ℕ) (m : Me (Option S) (View E B)) → m.0.phase ≡ Idle → m.0.number ≢ None → m.0.base ≢ None
      → Allows (Kept list base_of names) slots id m 0 (λ n. (n + 1) % 2 ^ 64) (drew (step slots 0 1 0 none) m)
  draws slots id m idle some_number based s h deep at fits =
      let r = running s id m.0 h at based in let g = r.now in let w : View E B = record m.0 { phase = Waiting g.drawn } in
      let f = r.each id m.0 at (lives m.0 Idle idle (alive Idle tt)) in
      let q = total_set in_queue s.views id m.0 w at in let q' : queued m.0.phase ≡ 0 = ap queued idle in
      let k = total_set weight s.views id m.0 w at in
      let k' : weight m.0 ≡ numbered m.0.number + length m.0.ended = ap (λ p. unless_spent p (numbered m.0.number + length m.0.ended)) idle in
      let qr = r.queue in let kr = r.seats in (
        w,
        keeps,
        tt,
        runs_on _ record {
          base = r.base;
          now = draw g id;
          words = ap (λ ws. set ws 0 ((get_or ws 0 0 + 1) % 2 ^ 64)) r.words
              ∙ ap (λ t. t ∷ g.passed % 2 ^ 64 ∷ length g.history ∷ []) (mod-add-mod g.drawn (2 ^ 64) 1);
          queue = omega arith;
          seats = omega arith;
          some_made = r.some_made;
          few = r.few;
          known = r.known;
          each = stay (λ j u. u.phase ≢ Spent → Fits names r.base (draw g id) j u) s.views id w
              (λ _. rephase names r.base (draw g id) id m.0 (Waiting g.drawn) some_number (omega arith, omega arith, put_here g.by g.drawn id) (draw_fits names r.base g id id m.0 f))
              (λ j u other there lives. draw_fits names r.base g id j u (r.each j u there lives));
          slot = slot_stays list base_of r.base s g.history id m.0 w (set s.words 0 ((get_or s.words 0 0 + 1) % 2 ^ 64)) at (λ x. subst HasSlot idle x) (λ x. absurd x) r.slot;
        },
        (g.drawn, ap (λ ws. get_or ws 0 0) r.words, refl),
      )

  -- what a fitting view learns of the history
  pub tells : (base : B) (g : Ledger E) (id : ℕ) (v : View E B) → AllByRecursion (λ e. names e < g.made) g.history → Fits names base g id v → Tells names v g.history
  tells base g id v known f = record {
    seen = f.seen;
    own = own v.number f.number;
    joined = each_of (StartsWith v.seen) (StartsWith g.history) v.joined (λ x h. starts_on g.history v.seen x f.seen h) f.joined;
    ended = each_of (HasEnded names base g id v.number v.seen) (λ e. AddsNoneOf names e.number e.seen g.history) v.ended (λ x h. h.0.2) f.ended;
    known = λ n is. subst (λ k. AllByRecursion (λ e. names e < k) g.history) (sym (subst (Keeps names base g id) is f.keeps).0) known;
  }
    where
      own : (number : Option ℕ) → IsNumbered names base g id number v.phase (own_list v) → AddsNoneOfOwn names number (own_list v) g.history
      own None h = tt
      own (Some n) h = h.2

  -- a step that finds a word as it leaves it, and changes one view that is in the queue and weighs as before
  pub looked : (s : State (Option S) (View E B)) (r : Running list base_of names s) (i id : ℕ) (v w : View E B) (homes : List (maybe.Option (Option S)))
      → get_elem? s.views id ≡ some v → in_queue w ≡ in_queue v → weight w ≡ weight v → Fits names r.base r.now id w
      → (let s' : State (Option S) (View E B) = record { words = set s.words i (get_or s.words i 0); homes = homes; views = set s.views id w } in
      AtHome list base_of r.base s' r.now.history ⊎ Out list base_of r.base s' → Running list base_of names s')
  looked s r i id v w homes at same_queue same_weight fits slot =
      let q = total_set in_queue s.views id v w at in let k = total_set weight s.views id v w at in
      let qr = r.queue in let kr = r.seats in
      record {
        base = r.base;
        now = r.now;
        words = set-get_or s.words i 0 ∙ r.words;
        queue = omega arith;
        seats = omega arith;
        some_made = r.some_made;
        few = r.few;
        known = r.known;
        each = stay (λ j u. u.phase ≢ Spent → Fits names r.base r.now j u) s.views id w (λ _. fits) (λ j u other there lives. r.each j u there lives);
        slot = slot;
      }

  -- a step that finds the word as it leaves it, and changes nothing
  pub unmoved : (s : State (Option S) (View E B)) (i id : ℕ) (m : Me (Option S) (View E B)) → get_elem? s.views id ≡ some m.0
      → Kept list base_of names s → Kept list base_of names (stepped s i (get_or s.words i 0) id m.1 m.0 keeps)
  unmoved s i id m at kept = subst (Kept list base_of names) (λ k. record { words = sym (set-get_or s.words i 0) k; homes = s.homes; views = sym (set_again s.views id m.0 at) k }) kept

  pub serves : (slots id : ℕ) (m : Me (Option S) (View E B)) (t : ℕ) → m.0.phase ≡ Waiting t → m.0.number ≢ None → m.0.base ≢ None
      → Allows (Kept list base_of names) slots id m 1 (λ n. n) (served list base_of names (step slots 1 0 0 none) m)
  serves slots id m t waits some_number based s h deep at fits =
      let r = running s id m.0 h at based in let g = r.now in
      let f = r.each id m.0 at (lives m.0 (Waiting t) waits (alive (Waiting t) tt)) in
      let st = subst (Stands names r.base g id m.0.seen) waits f.stands in let short = queue_short s r in
      let found : get_or s.words 1 0 ≡ g.passed % 2 ^ 64 = ap (λ ws. get_or ws 1 0) r.words in
      let same : (u : ℕ) → m.0.phase ≡ Waiting u → t ≡ u = λ u is. ap ticket_or (sym waits ∙ is) in
      dite (ℕ_discrete (get_or s.words 1 0) (t % 2 ^ 64))
      (λ hit. let a = st.0 in let b = st.1 in let now : g.passed ≡ t = one_turn g.passed t (2 ^ 64) a (omega arith) (sym found ∙ hit) in
      ⊎_elim (λ home. enters r f (sym now, st.1, st.2) same hit home) (λ o. absurd (nobody r st.2 now o)) r.slot)
      (λ miss. (
        m.0,
        keeps,
        tt,
        unmoved s 1 id m at h,
        λ u is. ((λ hit. absurd (miss (hit ∙ ap (λ k. k % 2 ^ 64) (sym (same u is))))), λ _. refl),
      ))
    where
      -- who had the slot would have drawn this ticket
      nobody : (r : Running list base_of names s) → r.now.by t ≡ id → r.now.passed ≡ t → Out list base_of r.base s → ⊥
      nobody r mine now o = let it = served_by names r.base r.now o.0 o.1.seen o.1.phase o.4 (r.each o.0 o.1 o.3 (with_slot o.1.phase o.4)).stands in
          let here : o.0 ≡ id = sym it.0 ∙ (ap r.now.by now ∙ mine) in
          let me : o.1 ≡ m.0 = same_place s.views id o.1 m.0 (subst (λ k. get_elem? s.views k ≡ some o.1) here o.3) at in
          subst HasSlot (ap (λ (v : View E B). v.phase) me ∙ waits) o.4

      enters : (r : Running list base_of names s) → Fits names r.base r.now id m.0 → (t ≡ r.now.passed) × (t < r.now.drawn) × (r.now.by t ≡ id) → ((u : ℕ) → m.0.phase ≡ Waiting u → t ≡ u)
          → get_or s.words 1 0 ≡ t % 2 ^ 64 → AtHome list base_of r.base s r.now.history
          → (w : View E B) × (a : Act (Option S)) × Valid s.homes m.1 a
          × Kept list base_of names (stepped s 1 (get_or s.words 1 0) id m.1 w a)
          × served list base_of names (step slots 1 0 0 none) m (get_or s.words 1 0) (w, carried_after m.1 a)
      enters r f st same hit home =
          let g = r.now in let state = home.0 in
          let w : View E B = record m.0 { phase = Served t; seen = list state; looks = m.0.looks + 1; joined = [] } in
          let q' : queued m.0.phase ≡ 1 = ap queued waits in
          let k' : weight m.0 ≡ numbered m.0.number + length m.0.ended = ap (λ p. unless_spent p (numbered m.0.number + length m.0.ended)) waits in (
            w,
            takes 0 (Some state),
            ap (λ hs. get_elem? hs 0) home.1,
            runs_on _ (looked s r 1 id m.0 w (set s.homes 0 none) at (sym q') (sym k')
                (look_fits names r.base g id m.0 (Served t) (m.0.looks + 1) (list state) home.2 some_number (st.0, st.1, st.2, home.2) f)
                (inr (id, w, ap (λ hs. set hs 0 none) home.1, at_here s.views id m.0 w at, tt))),
            λ u is. (
              (λ _. (
                state,
                ap (λ p. let v : View E B = record m.0 { phase = Served p; seen = list state; looks = m.0.looks + 1; joined = [] } in
                    let x : Me (Option S) (View E B) = (v, (0, Some state) ∷ m.1) in x) (same u is),
                f.same_base ∙ ap Some (sym home.3),
                subst (Tells names m.0) (sym home.2) (tells r.base g id m.0 r.known f),
              )),
              λ miss. absurd (miss (hit ∙ ap (λ p. p % 2 ^ 64) (same u is))),
            ),
          )

  pub passes : (slots id : ℕ) (m : Me (Option S) (View E B)) (state : S) (more : List (ℕ × Option S))
      → HasSlot m.0.phase → m.1 ≡ (0, Some state) ∷ more → list state ≡ m.0.seen → m.0.base ≡ Some (base_of state)
      → Allows (Kept list base_of names) slots id m 1 (λ n. (n + 1) % 2 ^ 64) (passed_on (step slots 1 1 0 none) m)
  passes slots id m state more has slot seen is s h deep at fits =
      let r = running s id m.0 h at (there m.0.base (base_of state) is) in let g = r.now in let w : View E B = record m.0 { phase = Idle } in
      let f = r.each id m.0 at (with_slot m.0.phase has) in let by = served_by names r.base g id m.0.seen m.0.phase has f.stands in
      let some_number = has_number names r.base g id m.0.number m.0.phase (own_list m.0) f.number has in
      let q = total_set in_queue s.views id m.0 w at in let q' : queued m.0.phase ≡ 1 = queued_slot m.0.phase has in
      let k = total_set weight s.views id m.0 w at in
      let k' : weight m.0 ≡ numbered m.0.number + length m.0.ended = weighed m.0.phase (numbered m.0.number + length m.0.ended) (with_slot m.0.phase has) in
      let qr = r.queue in let kr = r.seats in
      let out : s.homes ≡ none ∷ [] = ⊎_elim (λ home. absurd (home.4 id m.0 at has)) (λ o. o.2) r.slot in (
        w,
        gives,
        tt,
        runs_on _ record {
          base = r.base;
          now = pass g;
          words = ap (λ ws. set ws 1 ((get_or ws 1 0 + 1) % 2 ^ 64)) r.words
              ∙ ap (λ t. g.drawn % 2 ^ 64 ∷ t ∷ length g.history ∷ []) (mod-add-mod g.passed (2 ^ 64) 1);
          queue = omega arith;
          seats = omega arith;
          some_made = r.some_made;
          few = r.few;
          known = r.known;
          each = stay (λ j u. u.phase ≢ Spent → Fits names r.base (pass g) j u) s.views id w
              (λ _. pass_fits names r.base g id w tt (rephase names r.base g id m.0 Idle some_number tt f))
              (λ j u other there lives. pass_other names r.base g id j u by.0 other (r.each j u there lives));
          slot = inl (
            state,
            λ i. put_back (out i) (slot i),
            seen ∙ by.1,
            ap (some_or r.base) (sym is ∙ f.same_base),
            stay (λ j u. ¬ HasSlot u.phase) s.views id w (λ none_here. none_here)
                (λ j u other there has'. other (sym (served_by names r.base g j u.seen u.phase has' (r.each j u there (with_slot u.phase has')).stands).0 ∙ by.0)),
          );
        },
        refl,
      )

  pub commits : (slots id : ℕ) (m : Me (Option S) (View E B)) (t : ℕ) (state : S) (more : List (ℕ × Option S)) (e : E)
      → m.0.phase ≡ Served t → m.1 ≡ (0, Some state) ∷ more
      → list state ≡ m.0.seen ++ e ∷ [] → m.0.number ≡ Some (names e) → m.0.joined ≡ [] → m.0.base ≢ None → length (list state) < 2 ^ 63
      → Allows (Kept list base_of names) slots id m 2 (λ n. (n + 1) % 2 ^ 64) (committed list (step slots 2 1 0 none) m)
  commits slots id m t state more e has_turn slot adds number joined based short s h deep at fits =
      let r = running s id m.0 h at based in let g = r.now in let w : View E B = record m.0 { phase = Done t; seen = list state } in
      let has : HasSlot m.0.phase = subst HasSlot (sym has_turn) tt in
      let f = r.each id m.0 at (with_slot m.0.phase has) in let by = served_by names r.base g id m.0.seen m.0.phase has f.stands in
      let mine = subst (λ k. IsNumbered names r.base g id k m.0.phase (own_list m.0)) number f.number in
      let long : list state ≡ g.history ++ e ∷ [] = adds ∙ ap (λ x. x ++ e ∷ []) by.1 in
      let count : length (list state) ≡ length g.history + 1 = ap length long ∙ length-append g.history (e ∷ []) in
      let q = total_set in_queue s.views id m.0 w at in let q' : queued m.0.phase ≡ 1 = ap queued has_turn in
      let k = total_set weight s.views id m.0 w at in
      let k' : weight m.0 ≡ numbered m.0.number + length m.0.ended = ap (λ p. unless_spent p (numbered m.0.number + length m.0.ended)) has_turn in
      let qr = r.queue in let kr = r.seats in
      let out : Out list base_of r.base s = ⊎_elim (λ home. absurd (home.4 id m.0 at has)) (λ o. o) r.slot in
      let word : (length g.history + 1) % 2 ^ 64 ≡ length (g.history ++ e ∷ []) =
      mod_small (length g.history + 1) (omega arith) ∙ sym (length-append g.history (e ∷ [])) in (
        w,
        keeps,
        tt,
        runs_on _ record {
          base = r.base;
          now = write g e;
          words = ap (λ ws. set ws 2 ((get_or ws 2 0 + 1) % 2 ^ 64)) r.words ∙ ap (λ n. g.drawn % 2 ^ 64 ∷ g.passed % 2 ^ 64 ∷ n ∷ []) word;
          queue = omega arith;
          seats = omega arith;
          some_made = r.some_made;
          few = r.few;
          known = each_both (λ x. names x < g.made) g.history (e ∷ []) r.known (mine.0, tt);
          each = stay (λ j u. u.phase ≢ Spent → Fits names r.base (write g e) j u) s.views id w
              (λ _. write_own names r.base g e id t m.0 (list state) has_turn number joined long f)
              (λ j u other there lives. write_other names r.base g e id j u by.0 mine.1 other (r.each j u there lives));
          slot = inr (out_stays list base_of r.base s id m.0 w (set s.words 2 ((get_or s.words 2 0 + 1) % 2 ^ 64)) at (λ _. tt) out);
        },
        λ state' slot' t' served'. ap (λ (p : ℕ × S). let v : View E B = record m.0 { phase = Done p.0; seen = list p.1 } in let x : Me (Option S) (View E B) = (v, m.1) in x)
            (λ i. (ap ticket_or (sym has_turn ∙ served') i, ap (slot_or state) (sym slot ∙ slot') i)),
      )

  opens_first : (slots id : ℕ) → Allows (Kept list base_of names) slots id (newcomer Idle, []) 2 (λ n. n) (opened (step slots 2 0 0 none) (newcomer Idle, []))
  opens_first slots id s h deep at fits = ⊎_elim
      (λ e. (
        newcomer (Served 0),
        takes 0 None,
        ap (λ (x : State (Option S) (View E B)). get_elem? x.homes 0) e,
        inr (inl (alone e)),
        refl,
      ))
      (λ t. ⊎_elim (λ e. absurd (alive_not (ap (λ (v : View E B). v.phase) (lone (Served 0) id (newcomer Idle) (ap (λ (x : State (Option S) (View E B)). get_elem? x.views id) (sym e) ∙ at)))))
      (λ r. absurd (there (Some r.base) r.base refl (sym (r.each id (newcomer Idle) at (alive Idle tt)).same_base))) t)
      h
    where
      -- the newcomer took the empty slot
      alone : s ≡ empty_lock (some None) Idle
          → stepped s 2 (get_or s.words 2 0) id [] (newcomer (Served 0)) (takes 0 None) ≡ empty_lock none (Served 0)
      alone e = (λ i. stepped (e i) 2 (get_or (e i).words 2 0) id [] (newcomer (Served 0)) (takes 0 None))
          ∙ ap (λ vs. let x : State (Option S) (View E B) = record { words = 0 ∷ 0 ∷ 0 ∷ []; homes = none ∷ []; views = vs } in x)
          (set_lone Idle (newcomer (Served 0)) (newcomer Idle) id (ap (λ (x : State (Option S) (View E B)). get_elem? x.views id) (sym e) ∙ at))

  pub opens : (slots id : ℕ) (m : Me (Option S) (View E B)) → m ≡ (newcomer Idle, []) → Allows (Kept list base_of names) slots id m 2 (λ n. n) (opened (step slots 2 0 0 none) m)
  opens slots id m is = subst (λ x. Allows (Kept list base_of names) slots id x 2 (λ n. n) (opened (step slots 2 0 0 none) x)) (sym is) (opens_first slots id)

  -- the view of the one seat, when it has put a state into the slot
  abbrev first_view : S → View E B
  first_view state = view_of (Some 0) Idle [] 0 (Some (base_of state)) (Some 1)

  -- the lock with one seat and a state
  abbrev first_lock : S → State (Option S) (View E B)
  first_lock state = record { words = 0 ∷ 0 ∷ 0 ∷ []; homes = some (Some state) ∷ []; views = first_view state ∷ [] }

  -- the state stands for no entry
  first_runs : (state : S) → list state ≡ [] → Running list base_of names (first_lock state)
  first_runs state empty = record {
    base = base_of state;
    now = record { history = []; drawn = 0; passed = 0; by = λ _. 0; made = 1; owner = λ _. 0; keeper = 0 };
    words = refl;
    queue = refl;
    seats = omega arith;
    some_made = omega arith;
    few = omega arith;
    known = tt;
    each = each_first;
    slot = inl (state, refl, empty, refl, nobody_first);
  }
    where
      g : Ledger E
      g = record { history = []; drawn = 0; passed = 0; by = λ _. 0; made = 1; owner = λ _. 0; keeper = 0 }

      first : View E B
      first = first_view state

      fits_first : Fits names (base_of state) g 0 first
      fits_first = record {
        seen = starts_same [];
        same_base = refl;
        number = (omega arith, refl, adds_none names 0 []);
        joined = tt;
        ended = tt;
        keeps = (refl, refl);
        stands = tt;
      }

      each_first : (id : ℕ) (v : View E B) → get_elem? (first ∷ []) id ≡ some v → v.phase ≢ Spent → Fits names (base_of state) g id v
      each_first zero v at lives = subst (Fits names (base_of state) g 0) (some-injective first v at) fits_first
      each_first (suc id) v at lives = absurd (some-ne-none v (sym at))

      nobody_first : (id : ℕ) (v : View E B) → get_elem? (first ∷ []) id ≡ some v → ¬ HasSlot v.phase
      nobody_first zero v at has = subst (λ (u : View E B). HasSlot u.phase) (sym (some-injective first v at)) has
      nobody_first (suc id) v at has = some-ne-none v (sym at)

  founds_first : (slots id : ℕ) (state : S) → list state ≡ []
      → Allows (Kept list base_of names) slots id (newcomer (Served 0), (0, Some state) ∷ []) 2 (λ n. n)
      (founded base_of (step slots 2 0 0 none) (newcomer (Served 0), (0, Some state) ∷ []))
  founds_first slots id state empty s h deep at fits = ⊎_elim
      (λ e. absurd (alive_not (ap (λ (v : View E B). v.phase) (sym (lone Idle id (newcomer (Served 0))
      (ap (λ (x : State (Option S) (View E B)). get_elem? x.views id) (sym e) ∙ at))))))
      (λ t. ⊎_elim (λ e. (
        first_view state,
        gives,
        tt,
        runs_on _ (subst (Running list base_of names) (sym (alone e)) (first_runs state empty)),
        λ state' slot'. ap (λ x. let y : Me (Option S) (View E B) = (first_view x, []) in y) (ap (slot_or state) slot'),
      ))
      (λ r. absurd (there (Some r.base) r.base refl (sym (r.each id (newcomer (Served 0)) at (alive (Served 0) tt)).same_base))) t)
      h
    where
      -- the newcomer left the slot with the state
      alone : s ≡ empty_lock none (Served 0)
          → stepped s 2 (get_or s.words 2 0) id ((0, Some state) ∷ []) (first_view state) gives ≡ first_lock state
      alone e = (λ i. stepped (e i) 2 (get_or (e i).words 2 0) id ((0, Some state) ∷ []) (first_view state) gives)
          ∙ ap (λ vs. let x : State (Option S) (View E B) = record { words = 0 ∷ 0 ∷ 0 ∷ []; homes = some (Some state) ∷ []; views = vs } in x)
          (set_lone (Served 0) (first_view state) (newcomer (Served 0)) id (ap (λ (x : State (Option S) (View E B)). get_elem? x.views id) (sym e) ∙ at))

  pub founds : (slots id : ℕ) (m : Me (Option S) (View E B)) (state : S) → m ≡ (newcomer (Served 0), (0, Some state) ∷ []) → list state ≡ []
      → Allows (Kept list base_of names) slots id m 2 (λ n. n) (founded base_of (step slots 2 0 0 none) m)
  founds slots id m state is empty = subst (λ x. Allows (Kept list base_of names) slots id x 2 (λ n. n) (founded base_of (step slots 2 0 0 none) x)) (sym is) (founds_first slots id state empty)
