-- The move leads to one cell.
use Rattle.std.proofs.Common.{subst}
use Rattle.moves.specs.Moves.{IsLegal}
use Rattle.moves.proofs.MoveLaws.{same_target}
use Rattle.moves.proofs.landscape.Landscape.legal.Goals as goal

pub returns-in-Some : goal.returns-in-Some
returns-in-Some c = (
  λ yes. (c.in-Some.to, c.leads.ensures.0 yes),
  λ has. c.leads.ensures.1
      (subst (IsLegal c.args.self.now c.args.cell c.args.by) (same_target c.args.cell c.args.by has.0 c.in-Some.to has.1.target c.in-Some.ensures.inside.0) has.1),
)
