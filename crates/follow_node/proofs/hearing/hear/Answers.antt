use Rattle.std.proofs.Common.{None, Some, option_map, sym, subst, ◌∙◌}
use Rattle.follow_node.specs.Following.{followed_of, Judges}
use Rattle.follow_node.proofs.Heard.{begun}
use Rattle.follow_node.proofs.hearing.hear.Goals as goal

pub returns-in_ok-begin-in-None-clause-heard : goal.returns-in_ok-begin-in-None-clause-heard
returns-in_ok-begin-in-None-clause-heard c =
    subst (λ o. Judges c.args.kind (option_map followed_of o) c.args.frame.now c.args.at None (Some (followed_of c.in_ok-begin-in-None.field-0)))
    (sym (sym c.take.ensures.value ∙ c.in-None.is))
    (begun c.args.kind c.args.frame.now c.args.at _ c.in_ok-begin-in-None.ensures.board)
