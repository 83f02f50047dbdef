-- How long a legal history is.
use Rattle.std.proofs.Common.{◌≡◌, ℕ, ◌+◌, ◌≤◌, Bool, true, false, cond, ◌||◌, List, [], ◌∷◌, ◌++◌, length, count_by, arith, refl}
use Rattle.std.specs.List.{list_any}
use Rattle.std.proofs.lemmas.List.{length-append}
use Rattle.moves.specs.Maps.{Map}
use Rattle.edit_log.specs.declared.TheConstants.{MAX_EDITS}
use Rattle.path_core.specs.declared.entry.Entry.{Entry}
use Rattle.path_core.specs.declared.entry.Entry.TheVariants.{Accept, Publish, Halt}
use Rattle.path_core.specs.Histories.{accepted_count, is_halt, published_count, published_prefix, IsLegal, MayFollow}
use Rattle.path_core.specs.HistoryLaws.{LegalHistoriesAreBounded, PublishedPrefixesRise}
use Rattle.path_core.proofs.LegalHistories.{onward}
use Rattle.path_core.proofs.Growing.{count_goes_on, halting_goes_on, halts_go_on, prefix_goes_on, publications_go_on}

-- the entries of each kind, counted
pub record IsCounted (history : List Entry) : Type 0 where
  pub accepted : accepted_count history ≤ MAX_EDITS
  pub prefix : published_prefix history ≤ accepted_count history
  pub published : published_count history ≤ published_prefix history
  pub halts : count_by is_halt history ≡ cond {A = ℕ} (list_any is_halt history) 1 0
  pub entries : length history ≡ accepted_count history + published_count history + count_by is_halt history

-- no halt more
halts_kept : (was is : Bool) (before after : ℕ) → before ≡ cond {A = ℕ} was 1 0 → after ≡ before + 0 → is ≡ (was || false) → after ≡ cond {A = ℕ} is 1 0
halts_kept true is before after b a same = rw same (omega (arith, a, b))
halts_kept false is before after b a same = rw same (omega (arith, a, b))

-- the first halt
halts_once : (was is : Bool) (before after : ℕ) → (was ≡ true → ⊥) → before ≡ cond {A = ℕ} was 1 0 → after ≡ before + 1 → is ≡ (was || true)
    → after ≡ cond {A = ℕ} is 1 0
halts_once true is before after never b a same = absurd (never refl)
halts_once false is before after never b a same = rw same (omega (arith, a, b))

-- an entry that may follow keeps the counts
step : (start : Map) (history : List Entry) (entry : Entry) → IsLegal start history → MayFollow start history entry → IsCounted history
    → IsCounted (history ++ entry ∷ [])
step start history (Accept pass edit) legal follows counted =
    let a : accepted_count (history ++ Accept pass edit ∷ []) ≡ accepted_count history + 1 = count_goes_on history (Accept pass edit ∷ []) in
    let p : published_prefix (history ++ Accept pass edit ∷ []) ≡ published_prefix history = prefix_goes_on history (Accept pass edit) in
    let q : published_count (history ++ Accept pass edit ∷ []) ≡ published_count history + 0 = publications_go_on history (Accept pass edit) in
    let h : count_by is_halt (history ++ Accept pass edit ∷ []) ≡ count_by is_halt history + 0 = halts_go_on history (Accept pass edit) in
    let n : length (history ++ Accept pass edit ∷ []) ≡ length history + 1 = length-append history (Accept pass edit ∷ []) in
    record {
      accepted = omega (arith, a, follows.room);
      prefix = omega (arith, a, p, counted.prefix);
      published = omega (arith, q, p, counted.published);
      halts = halts_kept (list_any is_halt history) _ _ _ counted.halts h (halting_goes_on history (Accept pass edit));
      entries = omega (arith, a, q, h, n, counted.entries);
    }
step start history (Publish pass prefix) legal follows counted =
    let a : accepted_count (history ++ Publish pass prefix ∷ []) ≡ accepted_count history + 0 = count_goes_on history (Publish pass prefix ∷ []) in
    let p : published_prefix (history ++ Publish pass prefix ∷ []) ≡ prefix = prefix_goes_on history (Publish pass prefix) in
    let q : published_count (history ++ Publish pass prefix ∷ []) ≡ published_count history + 1 = publications_go_on history (Publish pass prefix) in
    let h : count_by is_halt (history ++ Publish pass prefix ∷ []) ≡ count_by is_halt history + 0 = halts_go_on history (Publish pass prefix) in
    let n : length (history ++ Publish pass prefix ∷ []) ≡ length history + 1 = length-append history (Publish pass prefix ∷ []) in
    record {
      accepted = omega (arith, a, counted.accepted);
      prefix = omega (arith, a, p, follows.1);
      published = omega (arith, q, p, counted.published, follows.0);
      halts = halts_kept (list_any is_halt history) _ _ _ counted.halts h (halting_goes_on history (Publish pass prefix));
      entries = omega (arith, a, q, h, n, counted.entries);
    }
step start history (Halt pass) legal follows counted =
    let a : accepted_count (history ++ Halt pass ∷ []) ≡ accepted_count history + 0 = count_goes_on history (Halt pass ∷ []) in
    let p : published_prefix (history ++ Halt pass ∷ []) ≡ published_prefix history = prefix_goes_on history (Halt pass) in
    let q : published_count (history ++ Halt pass ∷ []) ≡ published_count history + 0 = publications_go_on history (Halt pass) in
    let h : count_by is_halt (history ++ Halt pass ∷ []) ≡ count_by is_halt history + 1 = halts_go_on history (Halt pass) in
    let n : length (history ++ Halt pass ∷ []) ≡ length history + 1 = length-append history (Halt pass ∷ []) in
    record {
      accepted = omega (arith, a, counted.accepted);
      prefix = omega (arith, a, p, counted.prefix);
      published = omega (arith, q, p, counted.published);
      halts = halts_once (list_any is_halt history) _ _ _ follows counted.halts h (halting_goes_on history (Halt pass));
      entries = omega (arith, a, q, h, n, counted.entries);
    }

pub counted : (start : Map) (history : List Entry) → IsLegal start history → IsCounted history
counted start history legal = onward start IsCounted (step start) [] history legal
    (record { accepted = omega arith; prefix = omega arith; published = omega arith; halts = refl; entries = refl })

-- how many halts there are at most
few_halts : (halting : Bool) (halts : ℕ) → halts ≡ cond {A = ℕ} halting 1 0 → halts ≤ 1
few_halts true halts is = omega (arith, is)
few_halts false halts is = omega (arith, is)

pub legal_histories_are_bounded : LegalHistoriesAreBounded
legal_histories_are_bounded start history legal =
    let c : IsCounted history = counted start history legal in
    let h : count_by is_halt history ≤ 1 = few_halts _ _ c.halts in
    record {
      published = c.prefix;
      halts = h;
      entries = omega (arith, c.entries, c.accepted, c.prefix, c.published, h);
    }

-- an entry that may follow does not lower the published prefix
rises : (start : Map) (first history : List Entry) (entry : Entry) → IsLegal start history → MayFollow start history entry
    → published_prefix first ≤ published_prefix history → published_prefix first ≤ published_prefix (history ++ entry ∷ [])
rises start first history (Accept pass edit) legal follows low = rw (prefix_goes_on history (Accept pass edit)) low
rises start first history (Publish pass prefix) legal follows low = rw (prefix_goes_on history (Publish pass prefix)) (omega (arith, low, follows.0))
rises start first history (Halt pass) legal follows low = rw (prefix_goes_on history (Halt pass)) low

pub published_prefixes_rise : PublishedPrefixesRise
published_prefixes_rise start history more legal =
    onward start (λ h. published_prefix history ≤ published_prefix h) (rises start history) history more legal (omega arith)
