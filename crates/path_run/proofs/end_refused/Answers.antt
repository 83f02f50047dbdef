use Rattle.std.proofs.Common.{subst}
use Rattle.path_commands.specs.Serving.{PutsCause}
use Rattle.path_run.proofs.RunLemmas.{puts_cause}
use Rattle.path_run.proofs.end_refused.Goals as goal

pub returns-clause-put : goal.returns-clause-put
returns-clause-put g c = λ _.
    let before = g.O.Sink.bytes c.args.out.now in
    let after = g.O.Sink.bytes c.refuse.new.out in
    subst (λ cause. PutsCause before after cause c.refuse.result) c.from-status.ensures
    (puts_cause before after c.refuse.result c.from-status.result c.refuse.ensures.whole c.refuse.ensures.cut)
