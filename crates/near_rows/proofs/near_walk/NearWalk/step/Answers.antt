use Rattle.std.proofs.Common.{Contains, Some, None, subst}
use Rattle.near_rows.specs.NearWalks.{Advances}
use Rattle.moves.proofs.MoveLaws.{same_target}
use Rattle.near_rows.proofs.Stepping.{has_next, stays, goes}
use Rattle.near_rows.proofs.near_walk.NearWalk.step.Goals as goal

pub returns-then-self : goal.returns-then-self
returns-then-self c = subst (λ w. Advances w w None) c.self.view_is (stays _ _ _ _ _ _ c.self.invariant c.if-self.true)

pub target-self-inside-requires-clause-some : goal.target-self-inside-requires-clause-some
target-self-inside-requires-clause-some c =
    let next = has_next _ _ _ _ _ _ c.self.invariant c.move_near-by.result c.if-self.false c.move_near-by.ensures in
    (next.0, next.1)

pub place_of-self-inside-requires : goal.place_of-self-inside-requires
place_of-self-inside-requires c =
    let next = has_next _ _ _ _ _ _ c.self.invariant c.move_near-by.result c.if-self.false c.move_near-by.ensures in
    let same = same_target c.self.inside.at c.move_near-by.result next.0 c.target-self-inside.result next.1 c.target-self-inside.ensures in
    subst (Contains c.self.inside.comp.now.cells) same next.2

pub returns : goal.returns
returns c =
    subst (λ w. Advances w (record { comp = c.self.inside.comp.now; nearby = c.self.inside.near.now; at = c.target-self-inside.result; goal = c.self.inside.goal }) (Some c.move_near-by.result))
    c.self.view_is
    (goes _ _ _ _ _ _ c.self.invariant c.move_near-by.result c.target-self-inside.result c.if-self.false c.move_near-by.ensures c.target-self-inside.ensures)
