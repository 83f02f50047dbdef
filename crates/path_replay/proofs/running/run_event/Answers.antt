use Rattle.std.proofs.Common.{string_bytes, refl, subst, inr}
use Rattle.path_replay.specs.Inside.{AddsSaid, HasEntered, IsCutShort}
use Rattle.path_replay.proofs.Replaying.{cut_stepped, entered_stepped, line_added, pass_within, passes_set, said_entered}
use Rattle.path_replay.proofs.Saying.{on_err}
use Rattle.path_replay.proofs.running.run_event.Goals as goal

pub returns-clause-passes : goal.returns-clause-passes
returns-clause-passes c =
    passes_set c.args.board.now c.say.new.board c.args.passes.now.items _ c.pass-number.result c.say.new.pass c.requires.passes c.in_ok-say.ensures.grows
    c.in_ok-say.ensures.replayable c.in_ok-say.ensures.sound refl

pub returns-clause-line : goal.returns-clause-line
returns-clause-line c =
    line_added c.args.board.now c.say.new.board c.args.passes.now.items _ c.args.event.now c.pass-number.result c.index_mut.result.now c.say.new.pass
    (string_bytes c.args.text.now) (string_bytes c.write.new.self) (string_bytes c.say.new.text) (string_bytes c.push_str.new.self) c.pass-number.ensures
    (pass_within c.args.passes.now.items c.args.event.now c.pass-number.result c.pass-number.ensures c.requires.pass c.requires.passes.long)
    c.in_ok-write.ensures.bytes
    (subst (λ p. AddsSaid c.args.board.now p c.args.event.now c.say.new.board c.say.new.pass (string_bytes c.write.new.self) (string_bytes c.say.new.text))
    c.index_mut.ensures.value c.in_ok-say.ensures.said)
    c.in_ok-push_str.ensures.bytes refl

pub returns-in_err-say-clause-refused : goal.returns-in_err-say-clause-refused
returns-in_err-say-clause-refused c =
    on_err c.from_residual-in_err-say.result
    (cut_stepped c.args.board.now c.say.new.board c.args.passes.now.items c.args.event.now c.pass-number.result c.index_mut.result.now c.pass-number.ensures
    (pass_within c.args.passes.now.items c.args.event.now c.pass-number.result c.pass-number.ensures c.requires.pass c.requires.passes.long)
    (subst (λ p. IsCutShort c.args.board.now p c.args.event.now c.say.new.board) c.index_mut.ensures.value c.in_err-say.ensures.refused))

pub returns-in_err-push_str-clause-refused : goal.returns-in_err-push_str-clause-refused
returns-in_err-push_str-clause-refused c =
    on_err c.from_residual-in_err-push_str.result
    (inr
    (entered_stepped c.args.board.now c.say.new.board c.args.passes.now.items c.args.event.now c.pass-number.result c.index_mut.result.now c.pass-number.ensures
    (pass_within c.args.passes.now.items c.args.event.now c.pass-number.result c.pass-number.ensures c.requires.pass c.requires.passes.long)
    (subst (λ p. HasEntered c.args.board.now p c.args.event.now c.say.new.board) c.index_mut.ensures.value
    (said_entered c.args.board.now c.say.new.board c.index_mut.result.now c.say.new.pass c.args.event.now (string_bytes c.write.new.self) (string_bytes c.say.new.text)
    c.in_ok-say.ensures.said))))
