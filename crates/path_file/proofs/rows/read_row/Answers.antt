use Rattle.std.proofs.Common.{ℕ, List, map, refl, subst}
use Rattle.std.proofs.lemmas.Result.{err_from_is_err_and}
use Rattle.run_pack.specs.Runs.{run_of_word}
use Rattle.path_file.specs.Readings.{IsRunFault}
use Rattle.path_file.proofs.RowReading.{row_refused}
use Rattle.path_file.proofs.rows.read_row.Goals as goal

pub returns-in_err-word-clause-fault : goal.returns-in_err-word-clause-fault
returns-in_err-word-clause-fault c =
    let p = err_from_is_err_and c.from_residual-in_err-word.result c.from_residual-in_err-word.ensures.1 in
    let wrong = subst (λ (ws : List ℕ). IsRunFault c.loop.reader c.args.place c.in_ok-count.count (map run_of_word ws) c.in_err-word.field-0.0)
    c.deref.ensures.value c.in_err-word.ensures.fault in
    rw (p.1, p.2) (row_refused c.args.reader.now c.loop.reader c.args.place.cells c.in_ok-count.count c.loop.words.items c.loop.counter c.loop.invariant
    c.args.place c.in_err-word.field-0.0 refl c.in_ok-count.ensures.some c.in_ok-count.ensures.few c.loop-test.true wrong)
