use Rattle.path_run.proofs.RunLemmas.{puts_cause}
use Rattle.path_run.proofs.print.Goals as goal

pub returns-in-Err-clause-put : goal.returns-in-Err-clause-put
returns-in-Err-clause-put g c =
    rw c.in-Err.is (puts_cause (g.O.Sink.bytes c.args.out.now) (g.O.Sink.bytes c.refuse.new.out) c.refuse.result c.in-Err.status c.refuse.ensures.whole c.refuse.ensures.cut)
