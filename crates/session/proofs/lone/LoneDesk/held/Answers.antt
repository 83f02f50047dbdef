use Rattle.session.proofs.Builds.{board_sound}
use Rattle.session.proofs.lone.LoneDesk.held.Goals as goal

pub returns-clause-sound : goal.returns-clause-sound
returns-clause-sound c = board_sound _ c.entries-entries.ensures.legal c.version.ensures.version

pub returns-clause-own : goal.returns-clause-own
returns-clause-own c = λ _. c.version.ensures.version.after
