use Rattle.path_replay.proofs.Holdings.{accept_replayable}
use Rattle.path_replay.proofs.running.submit.Goals as goal

pub returns-in-Ok-clause-replayable : goal.returns-in-Ok-clause-replayable
returns-in-Ok-clause-replayable c = accept_replayable _ _ c.args.pass c.args.edit c.requires.replayable c.in-Ok.ensures.may c.in-Ok.ensures.entered
