-- The law of places inside a class: what holds of the reference there holds in each lane.
use Rattle.std.proofs.Common.{◌≡◌, ◌≢◌, ℕ, ◌+◌, ◌%◌, ◌^◌, ◌<◌, ◌≤◌, ◌⊎◌, List, inl, inr, sym, ap, subst, ◌∙◌, arith}
use Rattle.std.proofs.lemmas.Bool.{cases_eq}
use Rattle.moves.specs.declared.Move.{Move}
use Rattle.moves.specs.declared.Move.TheVariants.{N, NE, E, SE, S, SW, W, NW}
use Rattle.moves.specs.MoveSets.{Has}
use Rattle.moves.proofs.MovesInSets.{empty_is_none}
use Rattle.lane_rows.specs.Tables.{edges_of, end_of}
use Rattle.lane_rows.specs.Equations.{far, offered, step_of, IsBrought}
use Rattle.lane_rows.specs.Visits.{IsFull, IsSettled}
use Rattle.lane_rows.specs.Classes.{AreByClass, IsInside}

-- one offset to two costs: the keys differ as the costs do
same_gap : (a b offset k l : ℕ) → a ≤ far → b ≤ far → k < far → l < far → k ≡ (offset + a) % 2 ^ 32 → l ≡ (offset + b) % 2 ^ 32 → k + b ≡ l + a
same_gap a b offset k l p q r s e f = omega arith

step_some : (move : Move) → 0 < step_of move
step_some N = omega arith
step_some NE = omega arith
step_some E = omega arith
step_some SE = omega arith
step_some S = omega arith
step_some SW = omega arith
step_some W = omega arith
step_some NW = omega arith

module _ (near : List (List ℕ)) (count source place : ℕ) (costs classes offsets class_sets keys sets : ℕ → ℕ)
    (within : (move : Move) → end_of (edges_of near place) move ≤ count)
    (by_class : AreByClass count costs classes offsets class_sets keys sets)
    (small : (at : ℕ) → at < count → keys at < far)
    (last : keys count ≡ far)
    (cheap : (at : ℕ) → costs at ≤ far)
    (last_cost : costs count ≡ far)
    (here : place < count) (apart : place ≢ source)
    (inside : IsInside (edges_of near place) count costs classes place)
    (byte : sets place < 256) (some : sets place ≢ 0) (not_all : IsFull (sets place) → ⊥) where
  abbrev edges : List ℕ
  edges = edges_of near place

  abbrev to : Move → ℕ
  to move = end_of edges move

  -- a neighbour is a place of the class, or there is none
  beside : (move : Move) → (to move ≡ count) ⊎ ((to move < count) × (classes (to move) ≡ classes place))
  beside move = elim (cases_eq (to move) count) [
    | inl none ↦ inl none
    | inr place' ↦ elim (inside.alike move) [
      | inl none ↦ inl none
      | inr same ↦ inr ((let w = within move in omega arith), same)
    ]
  ]

  gap : (move : Move) → to move < count → classes (to move) ≡ classes place → keys place + costs (to move) ≡ keys (to move) + costs place
  gap move l same =
      same_gap (costs place) (costs (to move)) (offsets (classes place)) (keys place) (keys (to move)) (cheap place) (cheap (to move)) (small place here) (small (to move) l) (by_class.key place here) (by_class.key (to move) l ∙ ap (λ class. (offsets class + costs (to move)) % 2 ^ 32) same)

  same_set : (move : Move) → to move < count → classes (to move) ≡ classes place → sets (to move) ≡ sets place
  same_set move l same = by_class.set (to move) l ∙ ap class_sets same ∙ sym (by_class.set place here)

  no_none : (move : Move) → to move ≡ count → keys place ≡ offered edges keys move → ⊥
  no_none move none e = let k : keys (to move) ≡ far = ap keys none ∙ last in let s = small place here in omega arith

  at_most : (move : Move) → keys place ≤ offered edges keys move
  at_most move = elim (beside move) [
    | inl none ↦ let k : keys (to move) ≡ far = ap keys none ∙ last in let s = small place here in omega arith
    | inr h ↦ let g = gap move h.0 h.1 in let m = inside.at_most move in omega arith
  ]

  attained : (move : Move) × (keys place ≡ offered edges keys move)
  attained = (
    inside.attained.0,
    elim (beside inside.attained.0) [
      | inl none ↦ let k : costs (to inside.attained.0) ≡ far = ap costs none ∙ last_cost in let c = cheap place in let e = inside.attained.1 in let more = step_some inside.attained.0 in absurd (omega arith)
      | inr h ↦ let g = gap inside.attained.0 h.0 h.1 in let e = inside.attained.1 in omega arith
    ],
  )

  from : (first : Move) → Has (sets place) first → IsBrought edges keys sets (keys place) first
  from first h = (
    attained.0,
    attained.1,
    elim (beside attained.0) [
      | inl none ↦ absurd (no_none attained.0 none attained.1)
      | inr g ↦ subst (λ set. Has set first) (sym (same_set attained.0 g.0 g.1)) h
    ],
  )

  back : (first : Move) → IsBrought edges keys sets (keys place) first → Has (sets place) first
  back first b = elim (beside b.0) [
    | inl none ↦ absurd (no_none b.0 none b.1)
    | inr g ↦ subst (λ set. Has set first) (same_set b.0 g.0 g.1) b.2
  ]

  pub inside_settled : IsSettled near source keys sets place
  inside_settled = record {
    key = record { start = λ same. absurd (apart same); at_most = at_most; attained = λ _. inr attained };
    set = record {
      within = λ first h. inl (from first h);
      brought = back;
      started = λ none. absurd (some (empty_is_none (sets place) byte (λ first h. none first (from first h))));
    };
    not_full = not_all;
  }
