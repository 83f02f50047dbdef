use Rattle.std.proofs.Common.{sym, ◌∙◌}
use Rattle.root_cost.specs.Lawful.Comparing.{Equal-if_same, Less-if_at_most, Greater-if_at_most}
use Rattle.root_cost.proofs.CostOrd.cmp.Goals as goal

pub returns-then-eq : goal.returns-then-eq
returns-then-eq c = Equal-if_same c.args.self.now c.args.other.now (sym c.eq.ensures ∙ c.if-eq.true)

pub returns-then-at_most : goal.returns-then-at_most
returns-then-at_most c = Less-if_at_most c.args.self.now c.args.other.now (sym c.eq.ensures ∙ c.if-eq.false) (c.at_most.ensures.yes.0 c.if-at_most.true)

pub returns-else-at_most : goal.returns-else-at_most
returns-else-at_most c = Greater-if_at_most c.args.self.now c.args.other.now (sym c.eq.ensures ∙ c.if-eq.false) (c.at_most.ensures.otherwise c.if-at_most.false)
