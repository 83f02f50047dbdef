use Rattle.std.proofs.Common.{ap, refl, take}
use Rattle.std.proofs.lemmas.Result.{err_from_is_err_and}
use Rattle.path_file.specs.Fields.{at_mark}
use Rattle.path_file.proofs.Opening.{cut_here}
use Rattle.path_file.proofs.head.read_mark.Goals as goal

pub returns-in_err-field-clause-fault : goal.returns-in_err-field-clause-fault
returns-in_err-field-clause-fault c =
    let p = err_from_is_err_and c.from_residual.result c.from_residual.ensures.1 in
    let r = c.args.reader.now in
    rw (p.1, p.2) (cut_here r at_mark tt (ap (λ n. take n r.bytes) c.requires.start) _ 8 refl c.in_err-field.ensures.cut)
