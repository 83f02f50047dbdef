-- Want of memory is a cause.
use Rattle.clap.proofs.TakesLemmas.{passed_up}
use Rattle.path_commands.specs.declared.status.Status.TheVariants as status
use Rattle.path_commands.specs.declared.task.Task.TheVariants as task
use Rattle.path_commands.specs.Runs.{IsFirstCause}
use Rattle.walk_rows.specs.Existing.{IsWhole}
use Rattle.path_run.proofs.FirstVersions.{memory_fails}
use Rattle.path_run.proofs.file_for.Goals as goal

pub returns-in_err-version-clause-refused : goal.returns-in_err-version-clause-refused
returns-in_err-version-clause-refused g c =
    let whole : IsWhole c.args.grid = record { limits = c.width.ensures.limits; cells = c.width.ensures.whole } in
    passed_up c.from_residual.result status.NoMemory (IsFirstCause c.args.grid c.args.options.order task.Export) c.from_residual.ensures.1
    (memory_fails c.args.grid c.args.options.order whole c.requires.small task.Export)
