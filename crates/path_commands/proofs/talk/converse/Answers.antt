use Rattle.std.proofs.Common.{None, refl, subst}
use Rattle.path_core.specs.Histories.{IsLegal}
use Rattle.session.specs.Standing.{Place, standing}
use Rattle.session.proofs.Leading.{talks_are_own}
use Rattle.path_commands.specs.Talks.{place_for}
use Rattle.path_commands.proofs.talk.converse.Goals as goal

pub returns-clause-talk : goal.returns-clause-talk
returns-clause-talk g c =
    let board = c.args.board in
    let left = c.serve_link-ended.new.desk.board in
    record {
      last = standing left.history left.version None;
      conversed = c.serve_link-ended.ensures.talk;
      legal = subst (λ (p : Place). IsLegal p.start left.history) c.serve_link-ended.ensures.place c.entries-entries.ensures.legal;
      own = talks_are_own (place_for board.start board.order board.room) (standing board.history board.version None)
          (g.L.Link.at c.args.input.now).talk c.serve_link-ended.result (standing left.history left.version None)
          (g.L.Link.at c.serve_link-ended.new.link).talk c.serve_link-ended.ensures.talk refl;
    }
