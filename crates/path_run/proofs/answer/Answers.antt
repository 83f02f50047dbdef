use Rattle.clap.proofs.TakesLemmas.{passed_up}
use Rattle.std.proofs.Common.{inl}
use Rattle.path_commands.specs.Requests.{aim_of, source_of}
use Rattle.path_commands.specs.Runs.{FailsOfMap, file_over}
use Rattle.path_run.proofs.RunLemmas.{map_answers, task_fails, version_fails}
use Rattle.path_run.proofs.answer.Goals as goal

pub returns-in_err-grid-clause-refused : goal.returns-in_err-grid-clause-refused
returns-in_err-grid-clause-refused g c =
    let file = file_over (g.F.Files.at c.args.files.now) (g.F.Files.at c.grid_for.new.files) in
    passed_up c.from_residual.result c.in_err-grid.field-0.0 (FailsOfMap file (source_of c.args.asked.source) (aim_of c.args.asked.aim) c.args.asked.build.order) c.from_residual.ensures.1
    (inl c.in_err-grid.ensures.refused)

pub returns-in_err-task-clause-refused : goal.returns-in_err-task-clause-refused
returns-in_err-task-clause-refused g c =
    let file = file_over (g.F.Files.at c.args.files.now) (g.F.Files.at c.task_for.new.files) in
    passed_up c.from_residual-in_err-task.result c.in_err-task.field-0.0 (FailsOfMap file (source_of c.args.asked.source) (aim_of c.args.asked.aim) c.args.asked.build.order)
    c.from_residual-in_err-task.ensures.1
    (task_fails (g.F.Files.at c.args.files.now) (g.F.Files.at c.grid_for.new.files) (g.F.Files.at c.task_for.new.files) c.in_ok-grid.ensures.read
    (source_of c.args.asked.source) (aim_of c.args.asked.aim) c.args.asked.build.order c.in_ok-grid.grid c.in_ok-grid.ensures.grid c.in_err-task.field-0.0 c.in_err-task.ensures.refused)

pub returns-clause-done : goal.returns-clause-done
returns-clause-done g c =
    map_answers (g.F.Files.at c.args.files.now) (g.F.Files.at c.grid_for.new.files) (g.F.Files.at c.task_for.new.files) c.in_ok-grid.ensures.read
    (source_of c.args.asked.source) (aim_of c.args.asked.aim) c.args.asked.build.order c.in_ok-grid.grid c.in_ok-grid.ensures.grid c.in_ok-task.task c.in_ok-task.ensures.task
    c.printed_for.result c.printed_for.ensures.done

pub returns-clause-refused : goal.returns-clause-refused
returns-clause-refused g c =
    version_fails (g.F.Files.at c.args.files.now) (g.F.Files.at c.grid_for.new.files) (g.F.Files.at c.task_for.new.files) c.in_ok-grid.ensures.read
    (source_of c.args.asked.source) (aim_of c.args.asked.aim) c.args.asked.build.order c.in_ok-grid.grid c.in_ok-grid.ensures.grid c.in_ok-task.task c.in_ok-task.ensures.task
    c.printed_for.result c.printed_for.ensures.refused
