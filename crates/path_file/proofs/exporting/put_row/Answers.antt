use Rattle.std.proofs.Common.{◌≡◌, ◌++◌, length, ap, subst, arith}
use Rattle.run_pack.specs.Runs.{no_run}
use Rattle.row_store.specs.Rows.{row_at}
use Rattle.path_file.specs.Files.{number_bytes, run_bytes, runs_bytes}
use Rattle.path_file.specs.Puttings.{PutsSome, Writes}
use Rattle.path_file.proofs.PutLemmas.{each_all, each_more, each_refused, on_err, some_later, writes_both}
use Rattle.path_file.proofs.exporting.put_row.Goals as goal

pub returns-in_err-put_number-2-clause-prefix : goal.returns-in_err-put_number-2-clause-prefix
returns-in_err-put_number-2-clause-prefix g c =
    let row = row_at c.args.comp.now.rows c.args.source in
    let size : c.row_len-count.result ≡ length row = c.row_len-count.ensures in
    let some = each_refused run_bytes row no_run _ _ _ c.put_number.new.buffer c.loop-place.buffer c.loop-place.place c.loop-place.invariant.written
    (omega (arith, size, c.loop-place-test.true)) _ (ap number_bytes c.word_at.ensures) c.in_err-put_number-2.ensures.prefix in
    on_err _ _ (subst (λ n. PutsSome (g.S.Sink.bytes c.args.sink.now) (g.S.Sink.bytes c.put_number-in-loop-place.new.sink) c.args.buffer.now (number_bytes n ++ runs_bytes row)) size
    (some_later _ _ _ c.args.buffer.now c.put_number.new.buffer (number_bytes c.row_len-count.result) c.in_ok-put_number.ensures.put (runs_bytes row) some))

pub loop-place-preserved : goal.loop-place-preserved
loop-place-preserved g c =
    let row = row_at c.args.comp.now.rows c.args.source in
    let size : c.row_len-count.result ≡ length row = c.row_len-count.ensures in
    record {
      written = each_more run_bytes row no_run _ _ _ c.put_number.new.buffer c.loop-place.buffer c.loop-place.place c.loop-place.invariant.written
          (omega (arith, size, c.loop-place-test.true)) _ _ (ap number_bytes c.word_at.ensures) c.in_ok-put_number-2.ensures.put;
      later = omega (arith, c.loop-place.invariant.later, c.in_ok-put_number-2.ensures.later);
    }

pub returns-clause-put : goal.returns-clause-put
returns-clause-put g c =
    let row = row_at c.args.comp.now.rows c.args.source in
    let size : c.row_len-count.result ≡ length row = c.row_len-count.ensures in
    let all = each_all run_bytes row _ _ c.put_number.new.buffer c.loop-place.buffer c.loop-place.place c.loop-place.invariant.written (omega (arith, size, c.loop-place-test.false)) in
    subst (λ n. Writes (g.S.Sink.bytes c.args.sink.now) (g.S.Sink.bytes c.loop-place.sink) c.args.buffer.now c.loop-place.buffer (number_bytes n ++ runs_bytes row)) size
    (writes_both _ _ _ c.args.buffer.now c.put_number.new.buffer (number_bytes c.row_len-count.result) c.in_ok-put_number.ensures.put c.loop-place.buffer (runs_bytes row) all)
