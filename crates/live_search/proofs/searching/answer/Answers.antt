use Rattle.std.proofs.Common.{subst}
use Rattle.live_search.specs.Answers.{IsAnswerFor}
use Rattle.live_search.specs.Ends.{IsTurn}
use Rattle.live_search.proofs.Turning.{keeps_on_more, no_path}
use Rattle.live_search.proofs.searching.answer.Goals as goal

pub returns-in-Nowhere-clause-answers : goal.returns-in-Nowhere-clause-answers
returns-in-Nowhere-clause-answers c = record {
  over = λ version start goal about sound begun.
      (let turn = subst (IsTurn c.args.live.now c.args.seek c.loop.state c.take_turn.new.state) c.in-Nowhere.is c.take_turn.ensures.turns in
      let so = c.loop.invariant.1 version start goal about sound begun in
      let now_so = turn.0 version start goal about so.0 so.1 in
      (no_path version c.args.live.now c.args.seek start goal about c.take_turn.new.state now_so.0 now_so.1 c.requires.sought.first turn.1, c.loop.invariant.2));
}

pub returns-in-Last-clause-answers : goal.returns-in-Last-clause-answers
returns-in-Last-clause-answers c = record {
  over = λ version start goal about sound begun.
      (let turn = subst (IsTurn c.args.live.now c.args.seek c.loop.state c.take_turn.new.state) c.in-Last.is c.take_turn.ensures.turns in
      let so = c.loop.invariant.1 version start goal about sound begun in
      let now_so = turn.0 version start goal about so.0 so.1 in
      subst (λ room. IsAnswerFor version c.args.live.now c.args.seek start goal c.take_turn.new.state room c.tell.new.room c.tell.result) c.loop.invariant.2
      (c.tell.ensures.over version start goal about now_so.0 now_so.1));
}

pub loop-preserved : goal.loop-preserved
loop-preserved c = (
  c.take_turn.ensures.state,
  keeps_on_more c.args.live.now c.args.seek c.args.state.now c.loop.state c.take_turn.new.state c.loop.invariant.1
      (subst (IsTurn c.args.live.now c.args.seek c.loop.state c.take_turn.new.state) c.in-On.is c.take_turn.ensures.turns),
  c.loop.invariant.2,
)

pub returns-clause-answers : goal.returns-clause-answers
returns-clause-answers c = record {
  over = λ version start goal about sound begun. (let so = c.loop.invariant.1 version start goal about sound begun in (so.0, so.1, c.loop.invariant.2));
}
