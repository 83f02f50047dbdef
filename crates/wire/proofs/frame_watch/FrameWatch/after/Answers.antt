use Rattle.std.proofs.Common.{subst, sym, ◌∷◌, ◌++◌, []}
use Rattle.wire.specs.Watching.{HasFollowed}
use Rattle.wire.proofs.Watched.{ask_begins, followed_begun, followed_inside, followed_length, inside_of}
use Rattle.wire.proofs.frame_watch.FrameWatch.after.Goals as goal

pub returns-in-Between-Frames-clause-followed : goal.returns-in-Between-Frames-clause-followed
returns-in-Between-Frames-clause-followed c before f =
    subst (λ w. HasFollowed w (before ++ c.args.byte ∷ [])) (sym c.at.ensures)
    (followed_length c.args.self before c.args.byte f c.in-Between-Frames.is-0 c.in-Between-Frames.is-1)

pub returns-in-Between-Asks-clause-followed : goal.returns-in-Between-Asks-clause-followed
returns-in-Between-Asks-clause-followed c before f =
    let begins = ask_begins c.args.self before f c.in-Between-Asks.size c.in-Between-Asks.is-0 c.in-Between-Asks.is-1 in
    followed_inside c.args.self before c.args.byte f _ _ _ begins.0 begins.1 c.inside.ensures.more c.inside.ensures.whole

pub returns-in-Length-default-clause-followed : goal.returns-in-Length-default-clause-followed
returns-in-Length-default-clause-followed c before f =
    followed_begun c.args.self before c.args.byte f _ c.in-Length-default.high _ c.in-Length-default.is-0
    c.ranges.byte.fits c.size_of.ensures.fits c.size_of.ensures.is c.behind_length.ensures.begun c.behind_length.ensures.empty

pub returns-in-Inside-default-clause-followed : goal.returns-in-Inside-default-clause-followed
returns-in-Inside-default-clause-followed c before f =
    let begins = inside_of c.args.self before f _ _ c.in-Inside-default.is-0 in
    followed_inside c.args.self before c.args.byte f _ _ _ begins.0 begins.1
    c.inside-in-Inside-default.ensures.more c.inside-in-Inside-default.ensures.whole
