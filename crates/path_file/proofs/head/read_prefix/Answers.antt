use Rattle.std.proofs.Common.{refl}
use Rattle.std.proofs.lemmas.Result.{IfErr-weaker}
use Rattle.path_file.specs.Fields.{at_prefix}
use Rattle.path_file.specs.Faults.{IsFirstDbFault}
use Rattle.path_file.specs.Readings.{IsCutAt}
use Rattle.path_file.proofs.Opening.{cut_here}
use Rattle.path_file.proofs.head.read_prefix.Goals as goal

pub returns-clause-fault : goal.returns-clause-fault
returns-clause-fault c =
    let r = c.args.reader.now in
    IfErr-weaker c.number.result (IsCutAt r 4) (IsFirstDbFault r.bytes)
    (λ fault cut. cut_here r (at_prefix c.args.width c.args.height) c.requires.limits c.requires.front fault 4 refl cut) c.number.ensures.cut
