use Rattle.std.proofs.Common.{Ok, refl, subst, ◌∙◌, arith}
use Rattle.wire.proofs.Counting.{later_on, no_calls}
use Rattle.path_core.specs.Passes.{OthersAdd}
use Rattle.path_core.proofs.Passing.{others_begin, others_none, others_then}
use Rattle.path_board.specs.Passes.{seen_of}
use Rattle.feed_node.specs.Feeding.{sight_of}
use Rattle.feed_node.specs.Turns.{Steps}
use Rattle.feed_node.proofs.Backlogs.{backlog_none}
use Rattle.feed_node.proofs.Fed.{fed_fault, fed_more, fed_none}
use Rattle.feed_node.proofs.Holding.{since_itself, since_then}
use Rattle.feed_node.proofs.feeding.answer_asks.Goals as goal

pub loop-init : goal.loop-init
loop-init g c = record {
  fed = fed_none _ _;
  same = record { board = refl; number = refl; base = refl; made = refl };
  none = others_none _ _;
  held = since_itself c.args.pass.now;
  backlog = backlog_none _ _ _ c.none-backlog.ensures.known c.none-backlog.ensures.edits;
  parcel = c.requires.none;
  counts = no_calls _;
}

pub returns-in-Err-clause-none : goal.returns-in-Err-clause-none
returns-in-Err-clause-none g c =
    others_then _ _ (seen_of c.loop.pass) _ c.loop.invariant.none
    (subst (λ n. OthersAdd n (seen_of c.loop.pass) (seen_of c.answer_next.new.pass)) c.loop.invariant.same.number c.in-Err.ensures.none)

pub returns-in-Ok-false-clause-held : goal.returns-in-Ok-false-clause-held
returns-in-Ok-false-clause-held g c =
    since_then c.args.pass.now c.loop.pass c.answer_next.new.pass (others_begin _ _ _ c.loop.invariant.none) (others_begin _ _ _ c.in-Ok-false.ensures.none) c.loop.invariant.held
    c.in-Ok-false.ensures.held

pub returns-in-Err-clause-held : goal.returns-in-Err-clause-held
returns-in-Err-clause-held g c =
    since_then c.args.pass.now c.loop.pass c.answer_next.new.pass (others_begin _ _ _ c.loop.invariant.none) (others_begin _ _ _ c.in-Err.ensures.none) c.loop.invariant.held c.in-Err.ensures.held

pub returns-in-Err-clause-feeds : goal.returns-in-Err-clause-feeds
returns-in-Err-clause-feeds g c =
    fed_fault _ (sight_of c.loop.pass) _ _ _ _ c.loop.counter c.loop.invariant.fed c.in-Err.fault (omega (arith, c.loop-test.true)) c.in-Err.ensures.steps

pub loop-preserved : goal.loop-preserved
loop-preserved g c =
    let p = c.loop.invariant.same in
    let q = c.in-Ok-true.ensures.same in
    record {
      fed = fed_more _ (sight_of c.loop.pass) _ _ _ _ c.loop.counter c.loop.invariant.fed
          (subst (λ b. Steps (sight_of c.loop.pass) (g.L.Link.at c.loop.link).talk (Ok b) (sight_of c.answer_next.new.pass) (g.L.Link.at c.answer_next.new.link).talk)
          c.in-Ok-true.field-0-test c.in-Ok-true.ensures.steps);
      same = record { board = q.board ∙ p.board; number = q.number ∙ p.number; base = q.base ∙ p.base; made = q.made ∙ p.made };
      none = others_then _ _ (seen_of c.loop.pass) _ c.loop.invariant.none
          (subst (λ n. OthersAdd n (seen_of c.loop.pass) (seen_of c.answer_next.new.pass)) p.number c.in-Ok-true.ensures.none);
      held = since_then c.args.pass.now c.loop.pass c.answer_next.new.pass (others_begin _ _ _ c.loop.invariant.none) (others_begin _ _ _ c.in-Ok-true.ensures.none) c.loop.invariant.held
          c.in-Ok-true.ensures.held;
      backlog = c.in-Ok-true.ensures.backlog;
      parcel = c.in-Ok-true.ensures.parcel;
      counts = later_on _ _ _ c.loop.invariant.counts c.in-Ok-true.ensures.counts;
    }
