use Rattle.std.proofs.Common.{◌≤◌, List, length, sym, subst, Bor}
use Rattle.moves.specs.declared.Cell.{Cell}
use Rattle.bake_parts.specs.Plans.{IsAmong, IsComponentOf, IsNoComponentOf}
use Rattle.bake_parts.proofs.Ordering.{component_is, if_none_then, if_some_then, no_component}
use Rattle.bake_parts.proofs.bake.Bake.component.Goals as goal

pub returns-clause-some : goal.returns-clause-some
returns-clause-some c =
    let components : List (List Cell) = c.self.inside.components.items in
    if_some_then {X = Bor (List Cell)} c.component_at.result (λ found. IsAmong components c.args.number found.now) (λ found. IsComponentOf c.args.self.now c.args.number found.now)
    (λ found among. subst (λ plan. IsComponentOf plan c.args.number found.now) c.self.view_is
    (subst (IsComponentOf _ c.args.number) (sym among.is) (component_is _ _ components c.self.invariant.0 c.args.number found.now among.within)))
    (rw c.as_slice.ensures.value at c.component_at.ensures.some)

pub returns-clause-none : goal.returns-clause-none
returns-clause-none c =
    let components : List (List Cell) = c.self.inside.components.items in
    if_none_then c.component_at.result (length components ≤ c.args.number) (IsNoComponentOf c.args.self.now c.args.number)
    (λ past. subst (λ plan. IsNoComponentOf plan c.args.number) c.self.view_is (no_component _ _ components c.self.invariant.0 c.args.number past))
    (rw c.as_slice.ensures.value at c.component_at.ensures.none)
