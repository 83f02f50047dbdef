-- The move with the number leads to one cell.
use Rattle.std.proofs.Common.{sym, subst, ◌∙◌}
use Rattle.std.proofs.lemmas.Bool.{false≢true}
use Rattle.moves.specs.Moves.{IsLegal}
use Rattle.moves.proofs.MoveLaws.{same_move, same_target}
use Rattle.moves.proofs.landscape.Landscape.numbered.Goals as goal

pub returns-else-leads-clause-illegal : goal.returns-else-leads-clause-illegal
returns-else-leads-clause-illegal c move to numbered legal =
    let same = same_move move c.in_ok-by.by (numbered ∙ sym c.in_ok-by.ensures) in
    let here = subst (λ m. IsLegal c.args.self.now c.args.cell m to) same legal in
    let there = same_target c.args.cell c.in_ok-by.by to c.in_ok-to.to here.target c.in_ok-to.ensures.inside.0 in
    false≢true (sym c.if-leads.false ∙ c.leads.ensures.1 (subst (IsLegal c.args.self.now c.args.cell c.in_ok-by.by) there here))
