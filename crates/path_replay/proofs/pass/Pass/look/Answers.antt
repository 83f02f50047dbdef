use Rattle.std.proofs.Common.{ap}
use Rattle.path_replay.proofs.Looking.{look_sound}
use Rattle.path_replay.proofs.pass.Pass.look.Goals as goal

pub returns-clause-sound : goal.returns-clause-sound
returns-clause-sound c =
    look_sound c.args.board.now c.args.self.now _ c.entries.ensures.legal c.version.ensures.version c.requires.sound c.in_ok-self-inside.ensures
    (ap (λ (h : _). h.building) c.self.view_is)
