use Rattle.std.proofs.Common.{refl}
use Rattle.path_commands.proofs.task.task_for.Goals as goal

pub returns-in_ok-read_scenarios-in-Scen-clause-task : goal.returns-in_ok-read_scenarios-in-Scen-clause-task
returns-in_ok-read_scenarios-in-Scen-clause-task g c =
    rw c.in-Scen.is (record { scenarios = c.in_ok-read_scenarios-in-Scen.field-0; is = refl; holds = c.in_ok-read_scenarios-in-Scen.ensures.scenarios })

pub returns-in_ok-read_event_file-in-Replay-clause-task : goal.returns-in_ok-read_event_file-in-Replay-clause-task
returns-in_ok-read_event_file-in-Replay-clause-task g c =
    rw c.in-Replay.is (record { events = c.in_ok-read_event_file-in-Replay.field-0; is = refl; holds = c.in_ok-read_event_file-in-Replay.ensures.events })
