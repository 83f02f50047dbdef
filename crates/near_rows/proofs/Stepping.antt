-- One step of a near walk.
use Rattle.std.proofs.Common.{◌≡◌, ◌≢◌, ℕ, List, [], ◌∷◌, Some, None, refl, sym, ap, subst, ◌∙◌}
use Rattle.std.specs.List.{Contains}
use Rattle.moves.specs.declared.Cell.{Cell}
use Rattle.moves.specs.declared.Move.{Move}
use Rattle.moves.specs.Moves.{IsTarget}
use Rattle.moves.specs.FirstSetLists.{cell_of}
use Rattle.moves.proofs.MoveLaws.{same_target}
use Rattle.row_store.specs.Comps.{Comp, IsPlaceOf}
use Rattle.versions.proofs.BestWalks.{at_one_place}
use Rattle.near_rows.specs.NearRows.{Nearby}
use Rattle.near_rows.specs.NearPaths.{IsNearMove, IsLookedUp, SpellsNear}
use Rattle.near_rows.specs.NearWalks.{NearWalking, IsUnderWay, IsAhead, Advances}
use Rattle.near_rows.proofs.NearMoves.{looked_up_is_near, near_once, near_stays}

abbrev pub walking : Comp → Nearby → Cell → Cell → NearWalking
walking comp nearby at goal = record { comp = comp; nearby = nearby; at = at; goal = goal }

module _ (comp : Comp) (nearby : Nearby) (at goal : Cell) (place column : ℕ) (p : IsUnderWay comp nearby at goal place column) where
  -- cells at two places are two
  pub goal_apart : place ≢ column → at ≢ goal
  goal_apart apart same = apart (at_one_place comp.cells p.whole.once goal place column (subst (λ c. IsPlaceOf comp.cells c place) same p.here) p.there)

  goal_there : place ≡ column → at ≡ goal
  goal_there same = sym p.here.there ∙ ap (cell_of comp.cells) same ∙ p.there.there

  is_near : (move : Move) → IsLookedUp nearby at place goal column move → IsNearMove comp.cells nearby at goal move
  is_near move looked = looked_up_is_near p.map comp.cells nearby p.near at goal place column move p.here p.there looked

  -- the near move leads to one of the cells
  pub has_next : (move : Move) → place ≢ column → IsLookedUp nearby at place goal column move → (to : Cell) × IsTarget at move to × Contains comp.cells to
  has_next move apart looked = near_stays p.map comp.cells nearby p.near p.part at goal move (goal_apart apart) (is_near move looked)

  none_ahead : place ≡ column → (moves : List Move) → IsAhead (walking comp nearby at goal) moves
      → (moves ≡ []) × (walking comp nearby at goal ≡ walking comp nearby at goal)
  none_ahead same [] spelled = (refl, refl)
  none_ahead same (move ∷ moves) spelled = absurd (spelled.0 (goal_there same))

  -- nothing is ahead of a walk that is at its goal
  pub stays : place ≡ column → Advances (walking comp nearby at goal) (walking comp nearby at goal) None
  stays same = record { same = refl; ahead = none_ahead same }

  pub goes : (move : Move) (to : Cell) → place ≢ column → IsLookedUp nearby at place goal column move → IsTarget at move to
      → Advances (walking comp nearby at goal) (walking comp nearby to goal) (Some move)
  goes move to apart looked target = record { same = refl; ahead = first_ahead }
    where
      first_ahead : (moves : List Move) → IsAhead (walking comp nearby at goal) moves
          → (rest : List Move) × (moves ≡ move ∷ rest) × IsAhead (walking comp nearby to goal) rest
      first_ahead [] spelled = absurd (goal_apart apart spelled)
      first_ahead (first ∷ rest) spelled =
          let same = near_once p.map comp.cells nearby p.near p.whole.once at goal first move spelled.1 (is_near move looked) in
          let next = same_target at move spelled.2 to (subst (λ m. IsTarget at m spelled.2) same spelled.3) target in
          (rest, ap (λ m. m ∷ rest) same, subst (λ c. SpellsNear comp.cells nearby c rest goal) next spelled.4)
