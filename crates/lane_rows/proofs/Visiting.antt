-- A visit keeps settled who does not wait.
use Rattle.std.proofs.Common.{◌≡◌, ◌≢◌, ℕ, ◌<◌, ◌⊎◌, List, length, inl, inr, sym, ap, subst, ◌∙◌, arith}
use Rattle.std.proofs.lemmas.Bool.{cases_eq}
use Rattle.moves.specs.declared.Move.{Move}
use Rattle.moves.specs.Moves.{opposite}
use Rattle.moves.specs.MoveSets.{Has}
use Rattle.lane_rows.specs.Tables.{IsMutual, edges_of, end_of}
use Rattle.lane_rows.specs.Equations.{offered, MeetsKey, MeetsSet, IsBrought}
use Rattle.lane_rows.specs.Visits.{IsFull, IsSettled, AreSettled, IsVisit, LaneAt, VisitsKeepSettled}

-- the key equation, where the keys of the neighbours are others but equal
pub same_key : (edges : List ℕ) (source place key : ℕ) (keys keys' : ℕ → ℕ) → ((move : Move) → keys' (end_of edges move) ≡ keys (end_of edges move))
    → MeetsKey edges source keys place key → MeetsKey edges source keys' place key
same_key edges source place key keys keys' same meets = record {
  start = meets.start;
  at_most = λ move. let h = meets.at_most move in let e = same move in omega arith;
  attained = λ other. elim (meets.attained other) [
    | inl h ↦ inl h
    | inr h ↦ inr (h.0, (let e = same h.0 in let i = h.1 in omega arith))
  ];
}

-- the set equation, where the keys of the neighbours are equal, and the sets of those that attain the key
pub same_set : (edges : List ℕ) (source key set : ℕ) (keys sets keys' sets' : ℕ → ℕ) → ((move : Move) → keys' (end_of edges move) ≡ keys (end_of edges move))
    → ((move : Move) → key ≡ offered edges keys move → sets' (end_of edges move) ≡ sets (end_of edges move))
    → MeetsSet edges source keys sets key set → MeetsSet edges source keys' sets' key set
same_set edges source key set keys sets keys' sets' same_keys same_sets meets = record {
  within = λ first h. elim (meets.within first h) [ inl b ↦ inl (forth first b) | inr s ↦ inr s ];
  brought = λ first b. meets.brought first (back first b);
  started = λ none first s. meets.started (λ move b. none move (forth move b)) first s;
}
  where
    forth : (first : Move) → IsBrought edges keys sets key first → IsBrought edges keys' sets' key first
    forth first b = (b.0, (let e = same_keys b.0 in let i = b.1 in omega arith), subst (λ n. Has n first) (sym (same_sets b.0 b.1)) b.2)

    back : (first : Move) → IsBrought edges keys' sets' key first → IsBrought edges keys sets key first
    back first b =
        let attains : key ≡ offered edges keys b.0 = (let e = same_keys b.0 in let i = b.1 in omega arith) in
        (b.0, attains, subst (λ n. Has n first) (same_sets b.0 attains) b.2)

module _ (near : List (List ℕ)) (source place : ℕ) (old new : LaneAt) (pair : IsMutual near) (inside : place < length near)
    (visit : IsVisit (edges_of near place) source place old new) where
  -- the place itself
  visited : new.waits place ≡ 0 → IsSettled near source new.keys new.sets place
  visited none = record {
    key = same_key (edges_of near place) source place (new.keys place) old.keys new.keys apart visit.key;
    set = same_set (edges_of near place) source (new.keys place) (new.sets place) old.keys old.sets new.keys new.sets apart (λ move _. visit.same_sets (end_of (edges_of near place) move) (pair.apart place move inside)) visit.set;
    not_full = visit.not_full none;
  }
    where
      apart : (move : Move) → new.keys (end_of (edges_of near place) move) ≡ old.keys (end_of (edges_of near place) move)
      apart move = visit.same_keys (end_of (edges_of near place) move) (pair.apart place move inside)

  -- another place
  module _ (other : ℕ) (other_place : other ≢ place) (settled : IsSettled near source old.keys old.sets other) where
    moved : new.keys other ≡ old.keys other
    moved = visit.same_keys other other_place

    kept : new.sets other ≡ old.sets other
    kept = visit.same_sets other other_place

    rebuilt : ((move : Move) → new.keys (end_of (edges_of near other) move) ≡ old.keys (end_of (edges_of near other) move))
        → ((move : Move) → old.keys other ≡ offered (edges_of near other) old.keys move → new.sets (end_of (edges_of near other) move) ≡ old.sets (end_of (edges_of near other) move))
        → IsSettled near source new.keys new.sets other
    rebuilt same_keys same_sets = record {
      key = subst (MeetsKey (edges_of near other) source new.keys other) (sym moved) (same_key (edges_of near other) source other (old.keys other) old.keys new.keys same_keys settled.key);
      set = subst (λ key. MeetsSet (edges_of near other) source new.keys new.sets key (new.sets other)) (sym moved)
          (subst (MeetsSet (edges_of near other) source new.keys new.sets (old.keys other)) (sym kept)
          (same_set (edges_of near other) source (old.keys other) (old.sets other) old.keys old.sets new.keys new.sets same_keys same_sets settled.set));
      not_full = λ full. settled.not_full (subst IsFull kept full);
    }

    -- nothing that it reads has changed
    beyond : ((move : Move) → end_of (edges_of near other) move ≢ place) → IsSettled near source new.keys new.sets other
    beyond away = rebuilt (λ move. visit.same_keys (end_of (edges_of near other) move) (away move)) (λ move _. visit.same_sets (end_of (edges_of near other) move) (away move))

    -- the key of the place is as before, and so is the set, or it was full and no step from there attains the key
    beside : new.keys place ≡ old.keys place → (new.sets place ≡ old.sets place) ⊎ IsFull (old.sets place) → IsSettled near source new.keys new.sets other
    beside same rest = rebuilt (λ move. key_of (end_of (edges_of near other) move)) (λ move attains. elim (cases_eq (end_of (edges_of near other) move) place) [
      | inr apart ↦ visit.same_sets (end_of (edges_of near other) move) apart
      | inl here ↦ elim rest [
        | inl e ↦ ap new.sets here ∙ e ∙ sym (ap old.sets here)
        | inr full ↦ absurd (settled.not_full (λ first. settled.set.brought first (move, attains, subst (λ at. Has (old.sets at) first) (sym here) (full first))))
      ]
    ])
      where
        key_of : (at : ℕ) → new.keys at ≡ old.keys at
        key_of at = elim (cases_eq at place) [ inl here ↦ ap new.keys here ∙ same ∙ sym (ap old.keys here) | inr apart ↦ visit.same_keys at apart ]

  pub keeps : AreSettled near source old → AreSettled near source new
  keeps settled = record {
    each = λ other l none. elim (cases_eq other place) [
      | inl here ↦ subst (IsSettled near source new.keys new.sets) (sym here) (visited (ap new.waits (sym here) ∙ none))
      | inr other_place ↦ apart other l other_place none
    ];
  }
    where
      -- where all neighbours of the place were let wait, none of them is this one
      away : (other : ℕ) → other < length near → new.waits other ≡ 0 → other ≢ place → ((move : Move) → end_of (edges_of near place) move ≢ place → new.waits (end_of (edges_of near place) move) ≡ 0 → ⊥)
          → (move : Move) → end_of (edges_of near other) move ≢ place
      away other l none other_place marked move to =
          let back : end_of (edges_of near (end_of (edges_of near other) move)) (opposite move) ≡ other = pair.back other move l (subst (λ at. at < length near) (sym to) inside) in
          let here : end_of (edges_of near place) (opposite move) ≡ other = subst (λ at. end_of (edges_of near at) (opposite move) ≡ other) to back in
          marked (opposite move) (λ e. other_place (sym here ∙ e)) (ap new.waits here ∙ none)

      apart : (other : ℕ) → other < length near → other ≢ place → new.waits other ≡ 0 → IsSettled near source new.keys new.sets other
      apart other l other_place none =
          let before : IsSettled near source old.keys old.sets other = settled.each other l (visit.still_waits other other_place none) in
          elim visit.marked [
            | inl same ↦ beside other other_place before same.0 same.1
            | inr marked ↦ beyond other other_place before (away other l none other_place marked)
          ]

pub visits_keep_settled : VisitsKeepSettled
visits_keep_settled near source place old new pair inside visit = keeps near source place old new pair inside visit
