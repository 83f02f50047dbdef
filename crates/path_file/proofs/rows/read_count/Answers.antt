use Rattle.std.proofs.Common.{inl, inr}
use Rattle.std.proofs.lemmas.Result.{err_from_is_err_and}
use Rattle.path_file.proofs.RowReading.{count_cut, count_bad}
use Rattle.path_file.proofs.rows.read_count.Goals as goal

pub returns-in_err-count-clause-fault : goal.returns-in_err-count-clause-fault
returns-in_err-count-clause-fault c =
    let p = err_from_is_err_and c.from_residual.result c.from_residual.ensures.1 in
    rw (p.1, p.2) (count_cut c.args.reader.now c.args.place _ c.in_err-count.ensures.cut)

pub returns-then-count-eq0-clause-fault : goal.returns-then-count-eq0-clause-fault
returns-then-count-eq0-clause-fault c =
    count_bad c.args.reader.now _ c.args.place c.in_ok-count.count _ c.in_ok-count.ensures.fits c.in_ok-count.ensures.read
    (elim c.then-count-eq0.either [
      | inl none ↦ inl none
      | inr many ↦ inr many.1
    ])
    c.fault.ensures
