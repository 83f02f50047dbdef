use Rattle.std.proofs.Common.{ap, refl, ◌∙◌, set, map, arith}
use Rattle.std.proofs.lemmas.Result.{err_from_is_err_and}
use Rattle.run_pack.specs.Runs.{run_of_word}
use Rattle.path_file.proofs.RowReading.{rows_more, rows_refused, rows_shaped}
use Rattle.path_file.proofs.rows.read_rows.Goals as goal

pub returns-in_err-read_row-clause-fault : goal.returns-in_err-read_row-clause-fault
returns-in_err-read_row-clause-fault c =
    let p = err_from_is_err_and c.from_residual-in_err-read_row.result c.from_residual-in_err-read_row.ensures.1 in
    rw (p.1, p.2) (rows_refused c.args.reader.now c.loop-source.reader c.args.cells c.loop-source.rows c.loop-source.source c.loop-source.invariant c.loop-source-test.true
    c.args.comp _ _ refl c.in_err-read_row.ensures.fault)

pub returns-in_err-put_words-clause-fault : goal.returns-in_err-put_words-clause-fault
returns-in_err-put_words-clause-fault c =
    let p = err_from_is_err_and c.from_residual-in_err-put_words.result c.from_residual-in_err-put_words.ensures.1 in
    rw (p.1, p.2) (λ known next. tt)

pub loop-source-preserved : goal.loop-source-preserved
loop-source-preserved c =
    rows_more c.args.reader.now c.loop-source.reader c.args.cells c.loop-source.rows c.loop-source.source c.loop-source.invariant c.loop-source-test.true
    _ (map run_of_word c.read_row.new.words.items) _ c.in_ok-read_row.ensures.row c.in_ok-read_row.ensures.shaped
    (c.in_ok-put_words.ensures.ok ∙ ap (λ ws. set c.loop-source.rows c.loop-source.source (map run_of_word ws)) c.deref.ensures.value)

pub returns-clause-shaped : goal.returns-clause-shaped
returns-clause-shaped c =
    rows_shaped c.args.reader.now c.loop-source.reader c.args.cells c.loop-source.rows c.loop-source.source c.loop-source.invariant (omega arith)
