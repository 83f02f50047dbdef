-- The law of gates, beyond the side: a best path goes by a best gate, and a best path to a best gate and on is best.
use Rattle.std.proofs.Common.{◌≡◌, ◌↔◌, Bool, true, false, List, [], ◌∷◌, ◌++◌, Some, sym, ap, ◌∙◌, subst, inl, inr, refl}
use Rattle.std.proofs.lemmas.Bool.{false≢true}
use Rattle.root_cost.specs.declared.Cost.{Cost}
use Rattle.root_cost.specs.Costs.{IsAtMost, sum_of}
use Rattle.root_cost.proofs.Order.{at_most_trans}
use Rattle.root_cost.proofs.Adding.{at_most_sum, at_most_sum_cancel, sum_of_assoc}
use Rattle.moves.specs.declared.Cell.{Cell}
use Rattle.moves.specs.declared.Move.{Move}
use Rattle.moves.specs.Maps.{Map}
use Rattle.moves.specs.Paths.{cost_of, IsBest, Reaches, IsLeastCost}
use Rattle.moves.specs.FirstSets.{IsFirstMove}
use Rattle.moves.proofs.CostsOfPaths.{cost_of-append}
use Rattle.moves.proofs.LawsOfPaths.{joined, same_cost_of_best}
use Rattle.moves.proofs.BestPaths.{best_path_exists}
use Rattle.kept_sources.specs.Parts.{IsPart}
use Rattle.kept_sources.specs.Gates.{IsLeftByGates, IsApart, AgreesAt, CostsBy, IsBestGate, IsGivenByGates, GatesGiveTheRest, PathsPassGates, CostsDifferEvenly, EvenCostsGiveOneFirstSet}
use Rattle.kept_sources.proofs.Parting.{legal_of_part}
use Rattle.kept_sources.proofs.Closing.{whole_is_part}
use Rattle.kept_sources.proofs.Rejoining.{best_pieces}
use Rattle.kept_sources.proofs.Gating.{comes_to_gate}

-- nothing is taken out of a map that is its own part
pub whole_is_apart : (map : Map) (gate side : Cell → Bool) → IsLeftByGates map gate side → IsApart map map gate side
whole_is_apart map gate side closed = record {
  closed = closed;
  side_stays = λ cell inside taken. taken.gone taken.was;
  gates_stay = λ cell there taken. taken.gone taken.was;
}

pub paths_pass_gates : PathsPassGates
paths_pass_gates map gate side closed from [] to inside out path = absurd (false≢true (sym out ∙ subst (λ c. side c ≡ true) path.1 inside))
paths_pass_gates map gate side closed from (move ∷ moves) to inside out path =
    let comes = comes_to_gate map map gate side (whole_is_part map) (whole_is_apart map gate side closed) from move moves to inside path
    (λ within. absurd (false≢true (sym out ∙ within))) in
    (move ∷ comes.front, comes.rest, comes.at, ap (λ ms. move ∷ ms) comes.whole, comes.is_gate, comes.way, comes.onward)

-- no best path costs more than to go by a cell
no_dearer : (map : Map) (from by to : Cell) (moves : List Move) (cost : Cost) → IsBest map from moves to → CostsBy map map from by to cost
    → IsAtMost (cost_of moves) cost
no_dearer map from by to moves cost best (there, onward, way, rest, sum) =
    let whole : cost_of (way.0 ++ rest.0) ≡ cost =
    cost_of-append way.0 rest.0 ∙ ap (λ c. sum_of c (cost_of rest.0)) way.2 ∙ ap (sum_of there) rest.2 ∙ sym sum in
    subst (IsAtMost (cost_of moves)) whole (best.least (way.0 ++ rest.0) (joined map from by to way.0 rest.0 way.1.leads rest.1.leads))

-- ---- one map

module _ (map : Map) (gate side : Cell → Bool) (closed : IsLeftByGates map gate side) (source to : Cell) (inside : side source ≡ true) (out : side to ≡ false) where
  -- a best path from the side goes by a best gate
  record GoesByGate (move : Move) (moves : List Move) : Type 0 where
    by : Cell
    front : List Move
    best : IsBest map source (move ∷ front) by
    best_gate : IsBestGate map map gate source to by (cost_of (move ∷ moves))

  goes_by_gate : (move : Move) (moves : List Move) → IsBest map source (move ∷ moves) to → GoesByGate move moves
  goes_by_gate move moves best =
      let comes = comes_to_gate map map gate side (whole_is_part map) (whole_is_apart map gate side closed) source move moves to inside best.leads
      (λ within. absurd (false≢true (sym out ∙ within))) in
      let first = move ∷ comes.front in
      let whole : move ∷ moves ≡ first ++ comes.rest = ap (λ ms. move ∷ ms) comes.whole in
      let both = best_pieces map source comes.at to first comes.rest (subst (λ ms. IsBest map source ms to) whole best) comes.way comes.onward in
      record {
        by = comes.at;
        front = comes.front;
        best = both.0;
        best_gate = record {
          is_gate = comes.is_gate;
          costs = (
            cost_of first,
            cost_of comes.rest,
            (first, both.0, refl),
            (comes.rest, both.1, refl),
            ap cost_of whole ∙ cost_of-append first comes.rest,
          );
          least = λ other more there costs. no_dearer map source other to (move ∷ moves) more best costs;
        };
      }

  -- no best path stays where it is
  never_none : IsBest map source [] to → ⊥
  never_none best = false≢true (sym out ∙ subst (λ c. side c ≡ true) best.leads.1 inside)

  least_of_all : (by : Cell) (cost : Cost) → IsBestGate map map gate source to by cost → (moves : List Move) → IsBest map source moves to
      → IsAtMost cost (cost_of moves)
  least_of_all by cost gated [] best = absurd (never_none best)
  least_of_all by cost gated (move ∷ moves) best =
      let goes = goes_by_gate move moves best in
      gated.least goes.by (cost_of (move ∷ moves)) goes.best_gate.is_gate goes.best_gate.costs

  -- a best path to a best gate and on is best
  best_by_gate : (by : Cell) (cost : Cost) (gated : IsBestGate map map gate source to by cost) (moves : List Move) → IsBest map source moves by
      → IsBest map source (moves ++ gated.costs.3.0) to × (cost_of (moves ++ gated.costs.3.0) ≡ cost)
  best_by_gate by cost gated moves way =
      let (there, onward, known, rest, sum) = gated.costs in
      let whole : cost_of (moves ++ rest.0) ≡ cost =
      cost_of-append moves rest.0 ∙ ap (λ c. sum_of c (cost_of rest.0)) (same_cost_of_best map source by moves known.0 way known.1 ∙ known.2)
      ∙ ap (sum_of there) rest.2 ∙ sym sum in
      let path = joined map source by to moves rest.0 way.leads rest.1.leads in
      let best = best_path_exists map source to (moves ++ rest.0, path) in (
        record {
          leads = path;
          least = λ others other.
              at_most_trans _ _ _ (subst (λ c. IsAtMost c (cost_of best.0)) (sym whole) (least_of_all by cost gated best.0 best.1)) (best.1.least others other);
        },
        whole,
      )

  module _ (is_none : gate source ≡ false) where
    pub given_by_gates : IsGivenByGates map map gate source to
    given_by_gates = record {
      first = λ move. (
        λ begun. elim begun [
          | inl here ↦ absurd (false≢true (sym out ∙ subst (λ c. side c ≡ true) here.0 inside))
          | inr (moves, best) ↦
              let goes = goes_by_gate move moves best in
              (goes.by, cost_of (move ∷ moves), goes.best_gate, inr (goes.front, goes.best))
        ],
        λ (by, cost, gated, begun). elim begun [
          | inl here ↦ absurd (false≢true (sym is_none ∙ subst (λ c. gate c ≡ true) (sym here.0) gated.is_gate))
          | inr (moves, best) ↦ inr (moves ++ gated.costs.3.0, (best_by_gate by cost gated (move ∷ moves) best).0)
        ],
      );
      cost = λ cost. (
        λ known. cost_by_gate cost known.0 known.1 known.2,
        λ (by, gated).
            let way = gated.costs.2 in
            let best = best_by_gate by cost gated way.0 way.1 in (way.0 ++ gated.costs.3.0, best.0, best.1),
      );
    }
      where
        cost_by_gate : (cost : Cost) (moves : List Move) → IsBest map source moves to → cost_of moves ≡ cost
            → (by : Cell) × IsBestGate map map gate source to by cost
        cost_by_gate cost [] best same = absurd (never_none best)
        cost_by_gate cost (move ∷ moves) best same =
            let goes = goes_by_gate move moves best in
            (goes.by, subst (IsBestGate map map gate source to goes.by) same goes.best_gate)

-- ---- what is known to the gates from another map

-- two maps have the same least costs from a source to the gates
abbrev HaveSameCosts : Map → Map → (Cell → Bool) → Cell → Type 0
HaveSameCosts a b gate source = (by : Cell) → gate by ≡ true → (cost : Cost) → IsLeastCost a source by (Some cost) ↔ IsLeastCost b source by (Some cost)

same_best_gate : (a b far : Map) (gate : Cell → Bool) (source to by : Cell) (cost : Cost) → HaveSameCosts a b gate source
    → IsBestGate a far gate source to by cost → IsBestGate b far gate source to by cost
same_best_gate a b far gate source to by cost same gated =
    let (there, onward, way, rest, sum) = gated.costs in
    record {
      is_gate = gated.is_gate;
      costs = (there, onward, (same by gated.is_gate there).0 way, rest, sum);
      least = λ other more is_gate costs.
          gated.least other more is_gate (costs.0, costs.1, (same other is_gate costs.0).1 costs.2, costs.3, costs.4);
    }

-- what is given by the gates of a map is given by another's where the two agree at the gates
given_by_other : (near far : Map) (gate : Cell → Bool) (source to : Cell) → AgreesAt near far gate source
    → IsGivenByGates far far gate source to → IsGivenByGates near far gate source to
given_by_other near far gate source to agrees given =
    let forth : HaveSameCosts near far gate source = λ by is_gate cost. agrees.cost by is_gate (Some cost) in
    let back : HaveSameCosts far near gate source = λ by is_gate cost. ((forth by is_gate cost).1, (forth by is_gate cost).0) in
    record {
      first = λ move. (
        λ begun.
            let (by, cost, gated, first) = (given.first move).0 begun in
            (by, cost, same_best_gate far near far gate source to by cost back gated, (agrees.first by gated.is_gate move).1 first),
        λ (by, cost, gated, first).
            (given.first move).1 (by, cost, same_best_gate near far far gate source to by cost forth gated, (agrees.first by gated.is_gate move).0 first),
      );
      cost = λ cost. (
        λ known. let (by, gated) = (given.cost cost).0 known in (by, same_best_gate far near far gate source to by cost back gated),
        λ (by, gated). (given.cost cost).1 (by, same_best_gate near far far gate source to by cost forth gated),
      );
    }

-- a side is left by the same gates in a part of the map
pub left_in_part : (map part : Map) (gate side : Cell → Bool) → IsPart map part → IsLeftByGates map gate side → IsLeftByGates part gate side
left_in_part map part gate side is_part closed from move to inside legal = closed from move to inside (legal_of_part map part is_part from move to legal)

pub gates_give_the_rest : GatesGiveTheRest
gates_give_the_rest map part gate side source to is_part apart agrees inside is_none out = (
  given_by_gates map gate side apart.closed source to inside out is_none,
  given_by_other map part gate source to agrees
      (given_by_gates part gate side (left_in_part map part gate side is_part apart.closed) source to inside out is_none),
)

-- ---- costs that differ evenly

differ_back : (a b : Map) (gate : Cell → Bool) (to other : Cell) → CostsDifferEvenly a b gate to other → CostsDifferEvenly b a gate other to
differ_back a b gate to other differ = record {
  less = differ.more;
  more = differ.less;
  reached = λ by there. ((differ.reached by there).1, (differ.reached by there).0);
  even = λ by x y there p q. sym (differ.even by y x there q p);
}

-- what is reached has a least cost
pub least_of_reached : (map : Map) (from to : Cell) → Reaches map from to → (cost : Cost) × IsLeastCost map from to (Some cost)
least_of_reached map from to reached = let best = best_path_exists map from to reached in (cost_of best.0, (best.0, best.1, refl))

-- the same amount in front
even_in_front : (x y z less more : Cost) → sum_of y more ≡ sum_of z less → sum_of (sum_of x y) more ≡ sum_of (sum_of x z) less
even_in_front x y z less more same = sum_of_assoc x y more ∙ ap (sum_of x) same ∙ sym (sum_of_assoc x z less)

-- a best gate of the one cell is a best gate of the other
even_best_gate : (near a b : Map) (gate : Cell → Bool) (source to other : Cell) → CostsDifferEvenly a b gate to other
    → (by : Cell) (cost : Cost) → IsBestGate near a gate source to by cost → (next : Cost) × IsBestGate near b gate source other by next
even_best_gate near a b gate source to other differ by cost gated =
    let (there, onward, way, rest, sum) = gated.costs in
    let (after, rest') = least_of_reached b by other ((differ.reached by gated.is_gate).0 (rest.0, rest.1.leads)) in
    let mine : sum_of (sum_of there onward) differ.more ≡ sum_of (sum_of there after) differ.less =
    even_in_front there onward after differ.less differ.more (differ.even by onward after gated.is_gate rest rest') in (
      sum_of there after,
      record {
        is_gate = gated.is_gate;
        costs = (there, after, way, rest', refl);
        least = λ gate' more is_gate (there', after', way', onward', sum').
            let (before, back) = least_of_reached a gate' to ((differ.reached gate' is_gate).1 (onward'.0, onward'.1.leads)) in
            let theirs : sum_of (sum_of there' before) differ.more ≡ sum_of (sum_of there' after') differ.less =
            even_in_front there' before after' differ.less differ.more (differ.even gate' before after' is_gate back onward') in
            let low : IsAtMost (sum_of there onward) (sum_of there' before) =
            subst (λ c. IsAtMost c (sum_of there' before)) sum (gated.least gate' (sum_of there' before) is_gate (there', before, way', back, refl)) in
            let moved = at_most_sum (sum_of there onward) (sum_of there' before) differ.more low in
            let both = subst (λ c. IsAtMost c (sum_of (sum_of there' after') differ.less)) mine (subst (IsAtMost (sum_of (sum_of there onward) differ.more)) theirs moved) in
            subst (IsAtMost (sum_of there after)) (sym sum') (at_most_sum_cancel (sum_of there after) (sum_of there' after') differ.less both);
      },
    )

even_first_move : (near a b : Map) (gate : Cell → Bool) (source to other : Cell) → IsGivenByGates near a gate source to
    → IsGivenByGates near b gate source other → CostsDifferEvenly a b gate to other
    → (move : Move) → IsFirstMove a source to move → IsFirstMove b source other move
even_first_move near a b gate source to other on_a on_b differ move begun =
    let (by, cost, gated, first) = (on_a.first move).0 begun in
    let (next, gated') = even_best_gate near a b gate source to other differ by cost gated in
    (on_b.first move).1 (by, next, gated', first)

pub even_costs_give_one_first_set : EvenCostsGiveOneFirstSet
even_costs_give_one_first_set near a b gate source to other on_a on_b differ move = (
  even_first_move near a b gate source to other on_a on_b differ move,
  even_first_move near b a gate source other to on_b on_a (differ_back a b gate to other differ) move,
)
