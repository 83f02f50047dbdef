use Rattle.std.proofs.Common.{◌∙◌, Some}
use Rattle.std.proofs.lemmas.Result.{on_ok_weaker, IfErr-weaker}
use Rattle.follow_node.specs.Following.{followed_of}
use Rattle.follow_node.specs.Hearing.{AcceptsFront, GoesOnOrHalts}
use Rattle.follow_node.proofs.Heard.{heard_all, heard_some}
use Rattle.follow_node.proofs.hearing.take_sent.Goals as goal

pub returns-clause-heard : goal.returns-clause-heard
returns-clause-heard c =
    on_ok_weaker c.accept_all.result
    (λ p. heard_all (followed_of c.args.board.now) c.args.frame.now c.args.at _ _ _ c.requires.spelled (c.if-sent-accepted.false ∙ c.accepted.ensures) p)
    c.accept_all.ensures.all

pub returns-clause-fault : goal.returns-clause-fault
returns-clause-fault c =
    IfErr-weaker c.accept_all.result
    (λ why. AcceptsFront (followed_of c.args.board.now) c.args.sent.now.edits.edits c.args.at why (followed_of c.accept_all.new.board))
    (λ why. GoesOnOrHalts (followed_of c.args.board.now) c.args.frame.now c.args.at (Some why) (followed_of c.accept_all.new.board))
    (λ why p. heard_some (followed_of c.args.board.now) c.args.frame.now c.args.at _ _ _ c.requires.spelled (c.if-sent-accepted.false ∙ c.accepted.ensures) why p)
    c.accept_all.ensures.fault
