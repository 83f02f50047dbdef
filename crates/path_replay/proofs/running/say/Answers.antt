use Rattle.std.proofs.Common.{string_bytes}
use Rattle.std.proofs.lemmas.Result.{on_ok_weaker}
use Rattle.path_replay.proofs.Saying.{on_err, on_ok, query_told, published_replayable, halted_replayable, submit_entered, publish_entered, halt_entered}
use Rattle.path_replay.proofs.running.say.Goals as goal

pub returns-in_ok-submit-in-Submit-clause-refused : goal.returns-in_ok-submit-in-Submit-clause-refused
returns-in_ok-submit-in-Submit-clause-refused c =
    on_err c.push_reply.result
    (submit_entered c.args.board.now c.submit.new.board c.args.pass.now c.args.event.now c.in-Submit.pass c.in-Submit.edit c.in_ok-submit-in-Submit.field-0
    c.in-Submit.is c.in_ok-submit-in-Submit.ensures.reply)

pub returns-in_ok-publish-in-Publish-clause-replayable : goal.returns-in_ok-publish-in-Publish-clause-replayable
returns-in_ok-publish-in-Publish-clause-replayable c =
    on_ok c.push_reply-in-Publish.result
    (published_replayable c.args.board.now c.publish.new.board c.in-Publish.number _ c.in_ok-publish-in-Publish.field-0 _ c.requires.replayable
    c.in_ok-publish-in-Publish.ensures.grows c.in_ok-publish-in-Publish.ensures.reply)

pub returns-in_ok-publish-in-Publish-clause-refused : goal.returns-in_ok-publish-in-Publish-clause-refused
returns-in_ok-publish-in-Publish-clause-refused c =
    on_err c.push_reply-in-Publish.result
    (publish_entered c.args.board.now c.publish.new.board c.args.pass.now c.publish.new.self c.args.event.now c.in-Publish.number c.in_ok-publish-in-Publish.field-0
    c.in-Publish.is c.in_ok-publish-in-Publish.ensures.reply c.in_ok-publish-in-Publish.ensures.version)

pub returns-in_ok-halt-in-Halt-clause-replayable : goal.returns-in_ok-halt-in-Halt-clause-replayable
returns-in_ok-halt-in-Halt-clause-replayable c =
    on_ok c.push_reply-in-Halt.result
    (halted_replayable c.args.board.now c.halt.new.board c.in-Halt.pass c.in_ok-halt-in-Halt.field-0 c.requires.replayable
    c.in_ok-halt-in-Halt.ensures.grows c.in_ok-halt-in-Halt.ensures.reply)

pub returns-in_ok-halt-in-Halt-clause-refused : goal.returns-in_ok-halt-in-Halt-clause-refused
returns-in_ok-halt-in-Halt-clause-refused c =
    on_err c.push_reply-in-Halt.result
    (halt_entered c.args.board.now c.halt.new.board c.args.pass.now c.args.event.now c.in-Halt.pass c.in_ok-halt-in-Halt.field-0
    c.in-Halt.is c.in_ok-halt-in-Halt.ensures.reply)

pub returns-in-Query-clause-said : goal.returns-in-Query-clause-said
returns-in-Query-clause-said c =
    on_ok_weaker c.query.result
    (query_told c.args.board.now c.args.pass.now c.args.event.now c.in-Query.pass c.in-Query.start c.in-Query.goal (string_bytes c.args.text.now)
    (string_bytes c.query.new.text) c.in-Query.is c.requires.sound)
    c.query.ensures
