-- One step of a walk.
use Rattle.std.proofs.Common.{◌≡◌, ◌≢◌, ℕ, List, [], ◌∷◌, Some, None, refl, sym, ap, subst, ◌∙◌}
use Rattle.std.specs.List.{Contains}
use Rattle.moves.specs.declared.Cell.{Cell}
use Rattle.moves.specs.declared.Move.{Move}
use Rattle.moves.specs.Moves.{IsTarget}
use Rattle.moves.specs.FirstSetLists.{cell_of}
use Rattle.moves.proofs.MoveLaws.{same_target}
use Rattle.row_store.specs.Comps.{Comp, IsPlaceOf, IsMoveOfRow, BeginsBestPath}
use Rattle.versions.specs.Spelled.{IsKept, Spells}
use Rattle.versions.proofs.BestWalks.{kept_once, at_one_place}
use Rattle.walker.specs.Walks.{Walking, IsUnderWay, IsAhead, Advances}

-- the cell that a kept move leads to is one of the component's
pub record HasNext (comp : Comp) (at : Cell) (move : Move) : Type 0 where
  pub to : Cell
  pub target : IsTarget at move to
  pub inside : Contains comp.cells to

module _ (comp : Comp) (at : Cell) (place goal : ℕ) (p : IsUnderWay comp at place goal) where
  goal_at : IsPlaceOf comp.cells (cell_of comp.cells goal) goal
  goal_at = record { within = p.inside; there = refl }

  pub has_next : (move : Move) → BeginsBestPath comp.cells place goal move → HasNext comp at move
  has_next move begins =
      let best = begins.begins p.whole.rows.map p.whole.rows.just in
      let leads = best.1.leads in record {
        to = leads.0;
        target = subst (λ c. IsTarget c move leads.0) p.here.there leads.1.target;
        inside = (p.whole.rows.just.just_these leads.0).0 leads.1.enters.passable;
      }

  walking : Cell → Walking
  walking cell = record { comp = comp; at = cell; goal = cell_of comp.cells goal }

  none_ahead : place ≡ goal → (moves : List Move) → IsAhead (walking at) moves → (moves ≡ []) × (walking at ≡ walking at)
  unfolding walking
  none_ahead same [] spelled = (refl, refl)
  none_ahead same (move ∷ moves) spelled = absurd (spelled.0 (sym p.here.there ∙ ap (cell_of comp.cells) same))

  -- nothing is ahead of a walk that is at its goal
  pub stays : place ≡ goal → Advances (record { comp = comp; at = at; goal = cell_of comp.cells goal }) (record { comp = comp; at = at; goal = cell_of comp.cells goal }) None
  unfolding walking
  stays same = record { same = refl; ahead = none_ahead same }

  pub goes : (move : Move) (to : Cell) → place ≢ goal → IsMoveOfRow comp place goal move → IsTarget at move to
      → Advances (record { comp = comp; at = at; goal = cell_of comp.cells goal }) (record { comp = comp; at = to; goal = cell_of comp.cells goal }) (Some move)
  goes move to apart row target = record {
    same = refl;
    ahead = first_ahead;
  }
    where
      kept : IsKept comp.cells comp.rows at (cell_of comp.cells goal) move
      kept = record { source = place; column = goal; leaves = p.here; arrives = goal_at; covers = row }

      first_ahead : (moves : List Move) → IsAhead (record { comp = comp; at = at; goal = cell_of comp.cells goal }) moves
          → (rest : List Move) × (moves ≡ move ∷ rest) × IsAhead (record { comp = comp; at = to; goal = cell_of comp.cells goal }) rest
      first_ahead [] spelled = absurd (apart (at_one_place comp.cells p.whole.once at place goal p.here (record { within = p.inside; there = sym spelled })))
      first_ahead (first ∷ rest) spelled =
          let same = kept_once comp.cells comp.rows p.whole.rows p.whole.once at (cell_of comp.cells goal) first move spelled.1 kept in
          let next = same_target at move spelled.2 to (subst (λ m. IsTarget at m spelled.2) same spelled.3) target in
          (rest, ap (λ m. m ∷ rest) same, subst (λ c. Spells comp.cells comp.rows c rest (cell_of comp.cells goal)) next spelled.4)
