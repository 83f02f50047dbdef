use Rattle.std.proofs.Common.{IfErr, IfOk, subst, sym}
use Rattle.std.proofs.lemmas.Result.{err_from_is_err_and}
use Rattle.clap.proofs.TakesLemmas.{passed_up}
use Rattle.path_commands.specs.declared.status.Status.TheVariants as status
use Rattle.path_commands.specs.declared.task.Task.TheVariants as task
use Rattle.path_commands.specs.Runs.{IsFirstAnswer, IsFirstCause}
use Rattle.walk_rows.specs.Existing.{IsWhole}
use Rattle.path_run.proofs.FirstVersions.{memory_fails, path_answers, path_fails}
use Rattle.path_run.proofs.answer_for.Goals as goal

pub returns-in_err-text-in-Path-clause-refused : goal.returns-in_err-text-in-Path-clause-refused
returns-in_err-text-in-Path-clause-refused g c =
    let whole : IsWhole c.args.grid = record { limits = c.width.ensures.limits; cells = c.width.ensures.whole } in
    subst (λ asked. IfErr c.from_residual.result (IsFirstCause c.args.grid c.args.options.order asked)) (sym c.in-Path.is)
    (passed_up c.from_residual.result c.in_err-text-in-Path.field-0.0 (IsFirstCause c.args.grid c.args.options.order (task.Path c.in-Path.start c.in-Path.goal)) c.from_residual.ensures.1
    (path_fails c.args.grid c.args.options.order whole c.requires.small c.in-Path.start c.in-Path.goal c.in_err-text-in-Path.field-0.0 c.in_err-text-in-Path.ensures.refused))

pub returns-in_err-version-in_default : goal.returns-in_err-version-in_default
returns-in_err-version-in_default g c =
    let whole : IsWhole c.args.grid = record { limits = c.width.ensures.limits; cells = c.width.ensures.whole } in
    let ended = err_from_is_err_and c.from_residual-in_err-version-in_default.result c.from_residual-in_err-version-in_default.ensures.1 in
    record {
      done = subst (λ r. IfOk r (IsFirstAnswer c.args.grid c.args.options.order c.args.task)) (sym ended.1) tt;
      refused =
          passed_up c.from_residual-in_err-version-in_default.result status.NoMemory (IsFirstCause c.args.grid c.args.options.order c.args.task)
          c.from_residual-in_err-version-in_default.ensures.1 (memory_fails c.args.grid c.args.options.order whole c.requires.small c.args.task);
    }

pub returns-in_ok-text-in-Path-clause-done : goal.returns-in_ok-text-in-Path-clause-done
returns-in_ok-text-in-Path-clause-done g c =
    let whole : IsWhole c.args.grid = record { limits = c.width.ensures.limits; cells = c.width.ensures.whole } in
    subst (λ asked. IsFirstAnswer c.args.grid c.args.options.order asked c.as_text.result) (sym c.in-Path.is)
    (rw c.as_text.ensures (path_answers c.args.grid c.args.options.order whole c.requires.small c.in-Path.start c.in-Path.goal _ c.in_ok-text-in-Path.ensures.done))
