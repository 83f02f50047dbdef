use Rattle.std.proofs.lemmas.Bool.{iff_false}
use Rattle.std.proofs.lemmas.Result.{err_from_is_err_and}
use Rattle.path_file.proofs.RowReading.{run_cut, run_bad}
use Rattle.path_file.proofs.rows.read_word.Goals as goal

pub returns-in_err-word-clause-fault : goal.returns-in_err-word-clause-fault
returns-in_err-word-clause-fault c =
    let p = err_from_is_err_and c.from_residual.result c.from_residual.ensures.1 in
    rw (p.1, p.2) (run_cut c.args.reader.now c.args.place c.args.count _ _ c.in_err-word.ensures.cut)

pub returns-then-not-goes_on-clause-fault : goal.returns-then-not-goes_on-clause-fault
returns-then-not-goes_on-clause-fault c =
    run_bad c.args.reader.now _ c.args.place c.args.count _ c.in_ok-word.word _ c.in_ok-word.ensures.fits c.in_ok-word.ensures.read (iff_false c.goes_on.ensures c.if-not-goes_on.true) c.fault.ensures
