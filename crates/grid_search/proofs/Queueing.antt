-- What the two queues of a search keep: when a cell is pushed, and when the first entry is taken.
use Rattle.std.proofs.Common.{◌≡◌, ℕ, ◌+◌, ◌*◌, ◌<◌, ◌≤◌, ◌⊎◌, false, true, Option, Some, None, IfNone, List, [], ◌∷◌, ◌++◌, length, get_or, set, refl, sym, ap, ◌∙◌, subst, inl, inr, arith, AllPairs, Contains, get_or-set_same, get_or-set_other}
use Rattle.std.proofs.lemmas.Bool.{cases_lt}
use Rattle.std.proofs.lemmas.List.{length_push, get_or_push, get_or_append_left, get_or_default}
use Rattle.std.proofs.lemmas.List.Elements.{All-push, All-contains, Contains-push, Contains-append_left, Contains-push_cases, Contains-get_or}
use Rattle.std.proofs.lemmas.List.Quantifiers.{all_pairs_push}
use Rattle.moves.specs.declared.Cell.{Cell}
use Rattle.moves.specs.Maps.{Map, IsInside, IsPassable, passable_of, place_of, passable_count}
use Rattle.moves.proofs.TableLaws.{same_or_apart}
use Rattle.grid_search.specs.declared.queue.Waiting.{Waiting}
use Rattle.grid_search.specs.Keys.{key_at}
use Rattle.grid_search.specs.Settling.{IsReached, IsNext}
use Rattle.grid_search.specs.Queues.{Pushes, IsFirst, IsLeft, push_to, rest_of, AreFound, IsQueue, AreQueues, Queues, Opened, IsUsedUp, HasSpace}
use Rattle.moves.proofs.RowMajor.{place_inside, same_cell_from_place}
use Rattle.grid_search.proofs.Counting.{marked_once}
use Rattle.root_cost.specs.declared.TheConstants.{NO_KEY}

-- ---- entries that are left

pub contains_left : (queue : Pushes) (entry : Waiting) → IsLeft queue entry → Contains queue.pushed entry
contains_left queue entry (k, from, below, at) = (k, below, at)

left_first : (queue : Pushes) (entry : Waiting) → IsFirst queue entry → IsLeft queue entry
left_first queue entry (below, at) = (queue.taken, omega arith, below, at)

left_keeps : (queue : Pushes) (more entry : Waiting) → IsLeft queue entry → IsLeft (push_to queue more) entry
left_keeps queue more entry (k, from, below, at) = (
  k,
  from,
  omega (arith, length_push queue.pushed more),
  get_or_append_left queue.pushed
      (more ∷ []) entry k below ∙ at,
)

left_new : (queue : Pushes) (more : Waiting) → queue.taken ≤ length queue.pushed → IsLeft (push_to queue more) more
left_new queue more counted = (
  length queue.pushed,
  counted,
  omega (arith, length_push queue.pushed more),
  get_or_push queue.pushed more more
      (length queue.pushed) refl,
)

left_push : (queue : Pushes) (more entry : Waiting) → IsLeft (push_to queue more) entry → IsLeft queue entry ⊎ (more ≡ entry)
left_push queue more entry (k, from, below, at) = elim (cases_lt k (length queue.pushed)) [
  | inl h ↦ inl (k, from, h, sym (get_or_append_left queue.pushed (more ∷ []) entry k h) ∙ at)
  | inr h ↦
      let last : length queue.pushed ≡ k = omega (arith, length_push queue.pushed more) in
      inr (sym (get_or_push queue.pushed more entry k last) ∙ at)
]

left_of_rest : (queue : Pushes) (entry : Waiting) → IsLeft (rest_of queue) entry → IsLeft queue entry
left_of_rest queue entry (k, from, below, at) = (k, omega arith, below, at)

-- the first entry, or one of the rest
left_cases : (queue : Pushes) (first entry : Waiting) → IsFirst queue first → IsLeft queue entry → (first ≡ entry) ⊎ IsLeft (rest_of queue) entry
left_cases queue first entry (some, here) (k, from, below, at) = elim (cases_lt queue.taken k) [
  | inl h ↦ inr (k, omega arith, below, at)
  | inr h ↦
      let same : queue.taken ≡ k = omega arith in
      inl (sym here ∙ ap (λ i. get_or queue.pushed i first) same ∙ get_or_default queue.pushed k first entry below ∙ at)
]

-- the first entry is the lowest
first_low : (queue : Pushes) (first entry : Waiting) → AllPairs (λ a b. a.key ≤ b.key) queue.pushed → IsFirst queue first → IsLeft queue entry
    → first.key ≤ entry.key
first_low queue first entry rising (some, here) (k, from, below, at) = elim (cases_lt queue.taken k) [
  | inl h ↦
      let low : (get_or queue.pushed queue.taken first).key ≤ (get_or queue.pushed k first).key = rising queue.taken k first h below in
      let a : (get_or queue.pushed queue.taken first).key ≡ first.key = ap (λ w. w.key) here in
      let b : (get_or queue.pushed k first).key ≡ entry.key = ap (λ w. w.key) (get_or_default queue.pushed k first entry below ∙ at) in
      omega arith
  | inr h ↦
      let same : queue.taken ≡ k = omega arith in
      let e : first.key ≡ entry.key = ap (λ w. w.key) (sym here ∙ ap (λ i. get_or queue.pushed i first) same ∙ get_or_default queue.pushed k first entry below
      ∙ at) in
      omega arith
]

-- where the queue with the lower first key has none left, neither has the other
module _ (list : Queues) (after : Pushes) (key other_key : ℕ) (found : AreFound list.diagonal.pushed)
    (none : length list.straight.pushed ≤ list.straight.taken → key ≡ NO_KEY)
    (first : (entry : Waiting) → IsFirst list.diagonal entry → other_key ≡ entry.key) (low : key ≤ other_key) where
  both_over : (length list.straight.pushed ≤ list.straight.taken) × (after ≡ list.straight) → IsUsedUp list × (record list { straight = after } ≡ list)
  both_over (over, same) = elim (cases_lt list.diagonal.taken (length list.diagonal.pushed)) [
    | inr h ↦ ((over, h), λ i. record list { straight = same i })
    | inl h ↦
        let filler : Waiting = record { key = 0; cell = record { x = 0; y = 0 } } in
        let entry : Waiting = get_or list.diagonal.pushed list.diagonal.taken filler in
        let is_first : other_key ≡ entry.key = first entry (h, get_or_default list.diagonal.pushed list.diagonal.taken entry filler h) in
        let below : entry.key < NO_KEY = found list.diagonal.taken filler h in
        let high : key ≡ NO_KEY = none over in
        absurd (omega arith)
  ]

  none_taken : (result : Option Waiting) → IfNone result ((length list.straight.pushed ≤ list.straight.taken) × (after ≡ list.straight))
      → IfNone result (IsUsedUp list × (record list { straight = after } ≡ list))
  none_taken None h = both_over h
  none_taken (Some entry) h = h

-- the same of a value whose fields these are
pub none_first : (list old : Queues) (after : Pushes) (result : Option Waiting) (key other_key : ℕ) → list ≡ old → AreFound old.diagonal.pushed
    → (length list.straight.pushed ≤ list.straight.taken → key ≡ NO_KEY) → ((entry : Waiting) → IsFirst list.diagonal entry → other_key ≡ entry.key)
    → key ≤ other_key
    → IfNone result ((length list.straight.pushed ≤ list.straight.taken) × (after ≡ list.straight))
    → IfNone result (IsUsedUp old × (record list { straight = after } ≡ old))
none_first list old after result key other_key same found none first low h =
    let own : AreFound list.diagonal.pushed = subst (λ f. AreFound f.diagonal.pushed) (sym same) found in
    subst (λ f. IfNone result (IsUsedUp f × (record list { straight = after } ≡ f))) same (none_taken list after key other_key own none first low result h)

-- the room stays where the lengths do
pub space_kept : (map : Map) (front again : Opened) → HasSpace map front → length again.keys ≡ length front.keys → again.straight.room ≡ front.straight.room
    → again.diagonal.room ≡ front.diagonal.room → HasSpace map again
space_kept map front again space keys straight diagonal = record {
  fits = subst (λ n. map.width * map.height ≤ n) (sym keys) space.fits;
  straight_room = subst (λ room. passable_count map ≤ room) (sym straight) space.straight_room;
  diagonal_room = subst (λ room. passable_count map ≤ room) (sym diagonal) space.diagonal_room;
}

-- no cell twice
pub pushed_count : (map : Map) (keys : List ℕ) (settled : List Cell) (level step : ℕ) (queue : Pushes) → IsQueue map keys settled level step queue
    → length queue.pushed ≤ passable_count map
pushed_count map keys settled level step queue q = marked_once (λ (w : Waiting). place_of map.width w.cell) queue.pushed (passable_of map)
    (λ i j d h k e. q.once i j d h k
    (same_cell_from_place map.width (get_or queue.pushed i d).cell (get_or queue.pushed j d).cell (q.passable i d (omega arith)).inside.column
    (q.passable j d k).inside.column e))
    (λ k d h. (q.passable k d h).passable)

-- ---- the queues are alike

pub swapped : (map : Map) (keys : List ℕ) (settled : List Cell) (level step other_step : ℕ) (queue other : Pushes)
    → AreQueues map keys settled level step queue other_step other → AreQueues map keys settled level other_step other step queue
swapped map keys settled level step other_step queue other q = record {
  first = q.second;
  second = q.first;
  apart = λ a b in_other in_queue cell key. q.apart b a in_queue in_other (sym cell) (sym key);
  waiting = λ cell reached. elim (q.waiting cell reached) [
    | inl was ↦ inl was
    | inr left ↦ elim left [ inl h ↦ inr (inr h) | inr h ↦ inr (inl h) ]
  ];
  settled_low = q.settled_low;
  settled_inside = q.settled_inside;
}

-- ---- a cell is lowered to a step above the level

module _ (map : Map) (keys : List ℕ) (settled : List Cell) (level step : ℕ) (to : Cell) (passable : IsPassable map to)
    (less : level + step < key_at map.width keys to) where
  -- it has no entry in a queue of that step
  not_in : (queue : Pushes) → IsQueue map keys settled level step queue → (entry : Waiting) → Contains queue.pushed entry → entry.cell ≡ to → ⊥
  not_in queue q entry in_queue e =
      let low : key_at map.width keys entry.cell ≤ entry.key = All-contains
      (λ w. key_at map.width keys w.cell ≤ w.key) queue.pushed entry q.no_higher in_queue in
      let near : entry.key ≤ level + step = All-contains (λ w. w.key ≤ level + step) queue.pushed entry q.near in_queue in
      let same : key_at map.width keys entry.cell ≡ key_at map.width keys to = ap (key_at map.width keys) e in
      omega arith

  pub room_for : (queue : Pushes) → IsQueue map keys settled level step queue → length queue.pushed < passable_count map
  room_for queue q =
      let more : Waiting = record { key = level + step; cell = to } in
      let longer : length (queue.pushed ++ more ∷ []) ≡ length queue.pushed + 1 = length_push queue.pushed more in
      let count : length (queue.pushed ++ more ∷ []) ≤ passable_count map = marked_once (λ (w : Waiting). place_of map.width w.cell)
      (queue.pushed ++ more ∷ []) (passable_of map)
      (all_pairs_push (λ a b. place_of map.width a.cell ≡ place_of map.width b.cell → ⊥) queue.pushed more
      (λ i j d h k e. q.once i j d h k
      (same_cell_from_place map.width (get_or queue.pushed i d).cell (get_or queue.pushed j d).cell (q.passable i d (omega arith)).inside.column
      (q.passable j d k).inside.column e))
      (λ i d h e. not_in queue q (get_or queue.pushed i d) (Contains-get_or queue.pushed i d h)
      (same_cell_from_place map.width (get_or queue.pushed i d).cell to (q.passable i d h).inside.column passable.inside.column e)))
      (All-push (λ w. get_or (passable_of map) (place_of map.width w.cell) false ≡ true) queue.pushed more
      (λ k d h. (q.passable k d h).passable) passable.passable) in
      omega arith

  module _ (fits : map.width * map.height ≤ length keys) (found : level + step < NO_KEY) where
    key_to : key_at map.width (set keys (place_of map.width to) (level + step)) to ≡ level + step
    key_to =
        let inside : place_of map.width to < map.width * map.height = place_inside map.width map.height to passable.inside.column passable.inside.row in
        get_or-set_same keys (place_of map.width to) (level + step) NO_KEY (omega arith)

    key_other : (b : Cell) → IsInside map b → (b ≡ to → ⊥) → key_at map.width (set keys (place_of map.width to) (level + step)) b ≡ key_at map.width keys b
    key_other b inside apart = get_or-set_other keys (place_of map.width to) (place_of map.width b) (level + step) NO_KEY
        (λ e. apart (same_cell_from_place map.width b to inside.column passable.inside.column e))

    key_lower : (b : Cell) → IsInside map b → key_at map.width (set keys (place_of map.width to) (level + step)) b ≤ key_at map.width keys b
    key_lower b inside = elim (same_or_apart b to) [
      | inl same ↦
          let h : key_at map.width (set keys (place_of map.width to) (level + step)) b ≡ level + step = ap
          (key_at map.width (set keys (place_of map.width to) (level + step))) same ∙ key_to in
          let k : key_at map.width keys b ≡ key_at map.width keys to = ap (key_at map.width keys) same in
          omega arith
      | inr apart ↦ let h : key_at map.width (set keys (place_of map.width to) (level + step)) b ≡ key_at map.width keys b = key_other b inside apart in
          omega arith
    ]

    -- an entry that is there does not hold the new key
    still_open : (any_step : ℕ) (queue : Pushes) → IsQueue map keys settled level any_step queue → (entry : Waiting) → IsLeft queue entry
        → entry.key ≡ key_at map.width (set keys (place_of map.width to) (level + step)) entry.cell → Contains settled entry.cell → ⊥
    still_open any_step queue q entry left holds = elim (same_or_apart entry.cell to) [
      | inl same ↦ λ was.
          let low : key_at map.width keys entry.cell ≤ entry.key = All-contains (λ w. key_at map.width keys w.cell ≤ w.key) queue.pushed entry q.no_higher
          (contains_left queue entry left) in
          let h : key_at map.width (set keys (place_of map.width to) (level + step)) entry.cell ≡ level + step = ap
          (key_at map.width (set keys (place_of map.width to) (level + step))) same ∙ key_to in
          let k : key_at map.width keys entry.cell ≡ key_at map.width keys to = ap (key_at map.width keys) same in
          omega arith
      | inr apart ↦
          let inside : IsInside map entry.cell = (All-contains (λ w. IsPassable map w.cell) queue.pushed entry q.passable
          (contains_left queue entry left)).inside in
          q.open_yet entry left (holds ∙ key_other entry.cell inside apart)
    ]

    lowered : (any_step : ℕ) (queue : Pushes) → IsQueue map keys settled level any_step queue
        → IsQueue map (set keys (place_of map.width to) (level + step)) settled level any_step queue
    lowered any_step queue q = record {
      counted = q.counted;
      passable = q.passable;
      found = q.found;
      no_higher = λ k d h.
          let low : key_at map.width keys (get_or queue.pushed k d).cell ≤ (get_or queue.pushed k d).key = q.no_higher k d h in
          let lower : key_at map.width (set keys (place_of map.width to) (level + step)) (get_or queue.pushed k d).cell ≤ key_at map.width keys
          (get_or queue.pushed k d).cell = key_lower (get_or queue.pushed k d).cell (q.passable k d h).inside in
          omega arith;
      near = q.near;
      rising = q.rising;
      once = q.once;
      later = q.later;
      open_yet = still_open any_step queue q;
    }

    module _ (other_step : ℕ) (queue other : Pushes) (q : AreQueues map keys settled level step queue other_step other) where
      more : Waiting
      more = record { key = level + step; cell = to }

      pushed_first : IsQueue map (set keys (place_of map.width to) (level + step)) settled level step (push_to queue more)
      unfolding more
      pushed_first = let low : IsQueue map (set keys (place_of map.width to) (level + step)) settled level step queue = lowered step queue q.first in record {
        counted = let h : queue.taken ≤ length queue.pushed = q.first.counted in omega (arith, length_push queue.pushed more);
        passable = All-push (λ w. IsPassable map w.cell) queue.pushed more q.first.passable passable;
        found = All-push (λ w. w.key < NO_KEY) queue.pushed more q.first.found found;
        no_higher = All-push (λ w. key_at map.width (set keys (place_of map.width to) (level + step)) w.cell ≤ w.key) queue.pushed more low.no_higher
            (omega (arith, key_to));
        near = All-push (λ w. w.key ≤ level + step) queue.pushed more q.first.near (omega arith);
        rising = all_pairs_push (λ a b. a.key ≤ b.key) queue.pushed more q.first.rising q.first.near;
        once = all_pairs_push (λ a b. a.cell ≡ b.cell → ⊥) queue.pushed more q.first.once
            (λ k d h e. not_in queue q.first (get_or queue.pushed k d) (Contains-get_or queue.pushed k d h) e);
        later = λ entry left. elim (left_push queue more entry left) [
          | inl was ↦ q.first.later entry was
          | inr e ↦ let h : level + step ≡ entry.key = ap (λ w. w.key) e in omega arith
        ];
        open_yet = λ entry left. elim (left_push queue more entry left) [
          | inl was ↦ low.open_yet entry was
          | inr e ↦ λ holds was.
              let settled_to : Contains settled to = subst (Contains settled) (sym (ap (λ w. w.cell) e)) was in
              let h : key_at map.width keys to ≤ level = q.settled_low to settled_to in
              omega arith
        ];
      }

      pushed_apart : (a b : Waiting) → Contains (queue.pushed ++ more ∷ []) a → Contains other.pushed b → a.cell ≡ b.cell → a.key ≡ b.key → ⊥
      unfolding more
      pushed_apart a b in_queue in_other cell key = elim (Contains-push_cases queue.pushed more a in_queue) [
        | inl was ↦ q.apart a b was in_other cell key
        | inr e ↦
            let at : b.cell ≡ to = sym cell ∙ sym (ap (λ w. w.cell) e) in
            let high : b.key ≡ level + step = sym key ∙ sym (ap (λ w. w.key) e) in
            let low : key_at map.width keys b.cell ≤ b.key = All-contains
            (λ w. key_at map.width keys w.cell ≤ w.key) other.pushed b q.second.no_higher in_other in
            let same : key_at map.width keys b.cell ≡ key_at map.width keys to = ap (key_at map.width keys) at in
            omega arith
      ]

      pushed_waiting : (cell : Cell) → IsReached map (set keys (place_of map.width to) (level + step)) cell
          → Contains settled cell ⊎ (IsLeft (push_to queue more) (record {
            key = key_at map.width
                (set keys (place_of map.width to) (level + step)) cell;
            cell = cell;
          })
          ⊎ IsLeft other (record { key = key_at map.width (set keys (place_of map.width to) (level + step)) cell; cell = cell }))
      unfolding more
      pushed_waiting cell reached = elim (same_or_apart cell to) [
        | inl same ↦
            let key : key_at map.width (set keys (place_of map.width to) (level + step)) cell ≡ level + step = ap
            (key_at map.width (set keys (place_of map.width to) (level + step))) same ∙ key_to in
            let entry : more ≡ record {
              key = key_at map.width (set keys (place_of map.width to)
                  (level + step)) cell;
              cell = cell;
            } = λ i. record { key = sym key i; cell = sym same i } in
            inr (inl (subst (IsLeft (push_to queue more)) entry (left_new queue more q.first.counted)))
        | inr apart ↦
            let key : key_at map.width (set keys (place_of map.width to)
            (level + step)) cell ≡ key_at map.width keys cell = key_other cell reached.inside apart in
            let found_now : key_at map.width (set keys (place_of map.width to) (level + step)) cell < NO_KEY = reached.found in
            let was : IsReached map keys cell = record { inside = reached.inside; found = omega arith } in
            let entry : record { key = key_at map.width keys cell; cell = cell } ≡ record {
              key = key_at map.width
                  (set keys (place_of map.width to) (level + step)) cell;
              cell = cell;
            } = λ i. record { key = sym key i; cell = cell } in
            elim (q.waiting cell was) [
              | inl done ↦ inl done
              | inr left ↦ elim left [
                | inl h ↦ inr (inl (left_keeps queue more (record {
                  key = key_at map.width
                      (set keys (place_of map.width to) (level + step)) cell;
                  cell = cell;
                }) (subst (IsLeft queue) entry h)))
                | inr h ↦ inr (inr (subst (IsLeft other) entry h))
              ]
            ]
      ]

      pub pushed : AreQueues map (set keys (place_of map.width to) (level + step)) settled level step
          (push_to queue (record { key = level + step; cell = to })) other_step other
      unfolding more
      pushed = record {
        first = pushed_first;
        second = lowered other_step other q.second;
        apart = pushed_apart;
        waiting = pushed_waiting;
        settled_low = λ cell was.
            let low : key_at map.width keys cell ≤ level = q.settled_low cell was in
            let lower : key_at map.width (set keys (place_of map.width to) (level + step)) cell ≤ key_at map.width keys cell = key_lower cell
            (q.settled_inside cell was) in
            omega arith;
        settled_inside = q.settled_inside;
      }

-- ---- the first entry is taken

module _ (map : Map) (keys : List ℕ) (settled : List Cell) (level step other_step : ℕ) (queue other : Pushes)
    (q : AreQueues map keys settled level step queue other_step other)
    (entry : Waiting) (first : IsFirst queue entry) (low : (next : Waiting) → IsFirst other next → entry.key ≤ next.key) where
  -- an entry that does not hold its cell's key is dropped
  pub dropped : (key_at map.width keys entry.cell ≡ entry.key → ⊥) → AreQueues map keys settled level step (rest_of queue) other_step other
  dropped stale = record {
    first = record {
      counted = let h : queue.taken < length queue.pushed = first.0 in omega arith;
      passable = q.first.passable;
      found = q.first.found;
      no_higher = q.first.no_higher;
      near = q.first.near;
      rising = q.first.rising;
      once = q.first.once;
      later = λ w left. q.first.later w (left_of_rest queue w left);
      open_yet = λ w left. q.first.open_yet w (left_of_rest queue w left);
    };
    second = q.second;
    apart = q.apart;
    waiting = λ cell reached. elim (q.waiting cell reached) [
      | inl was ↦ inl was
      | inr left ↦ elim left [
        | inl h ↦ elim (left_cases queue entry (record { key = key_at map.width keys cell; cell = cell }) first h) [
          | inl same ↦ absurd (stale (ap (key_at map.width keys) (ap (λ w. w.cell) same) ∙ sym (ap (λ w. w.key) same)))
          | inr rest ↦ inr (inl rest)
        ]
        | inr h ↦ inr (inr h)
      ]
    ];
    settled_low = q.settled_low;
    settled_inside = q.settled_inside;
  }

  entry_left : IsLeft queue entry
  entry_left = left_first queue entry first

  entry_in : Contains queue.pushed entry
  entry_in = contains_left queue entry entry_left

  entry_passable : IsPassable map entry.cell
  entry_passable = All-contains (λ w. IsPassable map w.cell) queue.pushed entry q.first.passable entry_in

  -- the other queue's entries are no lower
  other_low : (w : Waiting) → IsLeft other w → entry.key ≤ w.key
  other_low w (k, from, below, at) =
      let begun : other.taken < length other.pushed = omega arith in
      let head : IsFirst other (get_or other.pushed other.taken w) = (
        begun,
        get_or_default other.pushed other.taken
            (get_or other.pushed other.taken w) w begun,
      ) in
      let least : entry.key ≤ (get_or other.pushed other.taken w).key = low (get_or other.pushed other.taken w) head in
      let next : (get_or other.pushed other.taken w).key ≤ w.key = first_low other (get_or other.pushed other.taken w) w q.second.rising head
      (k, from, below, at) in
      omega arith

  module _ (holds : key_at map.width keys entry.cell ≡ entry.key) where
    pub next_cell : IsNext map keys settled entry.cell
    next_cell = record {
      reached = let found : entry.key < NO_KEY = All-contains (λ w. w.key < NO_KEY) queue.pushed entry q.first.found entry_in in
          record { inside = entry_passable.inside; found = omega arith };
      open_yet = q.first.open_yet entry entry_left (sym holds);
      least = λ b reached open_b. elim (q.waiting b reached) [
        | inl was ↦ absurd (open_b was)
        | inr left ↦ elim left [
          | inl h ↦ let k : entry.key ≤ key_at map.width keys b = first_low queue entry
              (record { key = key_at map.width keys b; cell = b }) q.first.rising first h in omega arith
          | inr h ↦ let k : entry.key ≤ key_at map.width keys b = other_low (record { key = key_at map.width keys b; cell = b }) h in omega arith
        ]
      ];
    }

    level_low : level ≤ entry.key
    level_low = q.first.later entry entry_left

    -- it becomes settled, and its key the level
    rest_queue : IsQueue map keys (settled ++ entry.cell ∷ []) entry.key step (rest_of queue)
    rest_queue = record {
      counted = let h : queue.taken < length queue.pushed = first.0 in omega arith;
      passable = q.first.passable;
      found = q.first.found;
      no_higher = q.first.no_higher;
      near = λ k d h. let n : (get_or queue.pushed k d).key ≤ level + step = q.first.near k d h in let l : level ≤ entry.key = level_low in omega arith;
      rising = q.first.rising;
      once = q.first.once;
      later = λ w left. first_low queue entry w q.first.rising first (left_of_rest queue w left);
      open_yet = λ w left live now. elim (Contains-push_cases settled entry.cell w.cell now) [
        | inl was ↦ q.first.open_yet w (left_of_rest queue w left) live was
        | inr same ↦
            let (k, from, below, at) = left in
            let begun : queue.taken < length queue.pushed = first.0 in
            let a : (get_or queue.pushed queue.taken entry).cell ≡ entry.cell = ap (λ x. x.cell) first.1 in
            let b : (get_or queue.pushed k entry).cell ≡ w.cell = ap (λ x. x.cell) (get_or_default queue.pushed k entry w below ∙ at) in
            q.first.once queue.taken k entry (omega arith) below (a ∙ same ∙ sym b)
      ];
    }

    other_queue : IsQueue map keys (settled ++ entry.cell ∷ []) entry.key other_step other
    other_queue = record {
      counted = q.second.counted;
      passable = q.second.passable;
      found = q.second.found;
      no_higher = q.second.no_higher;
      near = λ k d h. let n : (get_or other.pushed k d).key ≤ level + other_step = q.second.near k d h in let l : level ≤ entry.key = level_low in
          omega arith;
      rising = q.second.rising;
      once = q.second.once;
      later = other_low;
      open_yet = λ w left live now. elim (Contains-push_cases settled entry.cell w.cell now) [
        | inl was ↦ q.second.open_yet w left live was
        | inr same ↦ q.apart entry w entry_in (contains_left other w left) same (sym holds ∙ ap (key_at map.width keys) same ∙ sym live)
      ];
    }

    pub taken_queues : AreQueues map keys (settled ++ entry.cell ∷ []) entry.key step (rest_of queue) other_step other
    taken_queues = record {
      first = rest_queue;
      second = other_queue;
      apart = q.apart;
      waiting = λ cell reached. elim (q.waiting cell reached) [
        | inl was ↦ inl (Contains-append_left settled (entry.cell ∷ []) cell was)
        | inr left ↦ elim left [
          | inl h ↦ elim (left_cases queue entry (record { key = key_at map.width keys cell; cell = cell }) first h) [
            | inl same ↦ inl (subst (Contains (settled ++ entry.cell ∷ [])) (ap (λ w. w.cell) same) (Contains-push settled entry.cell))
            | inr rest ↦ inr (inl rest)
          ]
          | inr h ↦ inr (inr h)
        ]
      ];
      settled_low = λ cell now. elim (Contains-push_cases settled entry.cell cell now) [
        | inl was ↦ let h : key_at map.width keys cell ≤ level = q.settled_low cell was in let l : level ≤ entry.key = level_low in omega arith
        | inr same ↦ let h : key_at map.width keys entry.cell ≡ key_at map.width keys cell = ap (key_at map.width keys) same in omega arith
      ];
      settled_inside = λ cell now. elim (Contains-push_cases settled entry.cell cell now) [
        | inl was ↦ q.settled_inside cell was
        | inr same ↦ subst (IsInside map) same entry_passable.inside
      ];
    }
