-- The move with the number leads to one cell.
use Rattle.std.proofs.Common.{sym, subst, ◌∙◌}
use Rattle.moves.specs.Maps.{IsLike}
use Rattle.moves.specs.Moves.{IsTarget}
use Rattle.moves.proofs.MoveLaws.{same_move, same_target}
use Rattle.moves.proofs.landscape.Landscape.is_free.Goals as goal

pub returns-in-Some-target : goal.returns-in-Some-target
returns-in-Some-target c move numbered =
    let target =
    subst (λ m. IsTarget c.args.cell m c.in-Some-target.to) (same_move c.in-Some.by move (c.in-Some.ensures ∙ sym numbered)) c.in-Some-target.ensures.inside in (
      λ yes. (c.in-Some-target.to, target, c.is_like.ensures.0 yes),
      λ has. c.is_like.ensures.1 (subst (IsLike c.args.self.now c.args.cell) (same_target c.args.cell move has.0 c.in-Some-target.to has.1 target) has.2),
    )
