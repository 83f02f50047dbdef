use Rattle.std.proofs.Common.{Contains, Some, None, subst}
use Rattle.walker.specs.Walks.{Advances}
use Rattle.moves.specs.FirstSetLists.{cell_of}
use Rattle.moves.proofs.MoveLaws.{same_target}
use Rattle.walker.proofs.Stepping.{has_next, stays, goes}
use Rattle.walker.proofs.Walk.step.Goals as goal

pub returns-then-self : goal.returns-then-self
returns-then-self c = subst (λ w. Advances w w None) c.self.view_is (stays _ _ _ _ c.self.invariant c.if-self.true)

pub place_of-self-inside-requires : goal.place_of-self-inside-requires
place_of-self-inside-requires c =
    let next = has_next _ _ _ _ c.self.invariant c.first_move_near-by.result c.first_move_near-by.ensures.best in
    let same = same_target c.self.inside.at c.first_move_near-by.result next.to c.target-self-inside.result next.target c.target-self-inside.ensures in
    subst (Contains c.self.inside.comp.now.cells) same next.inside

pub returns : goal.returns
returns c =
    subst (λ w. Advances w (record { comp = c.self.inside.comp.now; at = c.target-self-inside.result; goal = cell_of c.self.inside.comp.now.cells c.self.inside.goal }) (Some c.first_move_near-by.result))
    c.self.view_is
    (goes _ _ _ _ c.self.invariant c.first_move_near-by.result c.target-self-inside.result c.if-self.false c.first_move_near-by.ensures.covering c.target-self-inside.ensures)
