use Rattle.std.proofs.Common.{◌/◌, ◌<◌, ◌≤◌, subst}
use Rattle.live_search.proofs.Chains.{way_all, way_more, way_never_out, way_none}
use Rattle.live_search.proofs.ending.chain_length.Goals as goal

pub loop-length-init : goal.loop-length-init
loop-length-init c = way_none c.args.seek c.args.state.now c.args.place c.requires.place

pub returns-then-at-seek-clause-chain : goal.returns-then-at-seek-clause-chain
returns-then-at-seek-clause-chain c =
    way_all c.args.seek c.args.state.now c.args.place c.loop-length.at c.loop-length.length c.loop-length.invariant c.if-at-seek.true

pub returns-then-at-seek-2-clause-chain : goal.returns-then-at-seek-2-clause-chain
returns-then-at-seek-2-clause-chain c =
    way_never_out c.args.seek c.args.state.now c.args.place c.loop-length.at c.loop-length.length c.loop-length.invariant c.if-at-seek.false
    (subst (λ f. c.args.seek.size ≤ f / 8) c.from_at-at.ensures c.if-at-seek-2.true)

pub loop-length-preserved : goal.loop-length-preserved
loop-length-preserved c =
    rw c.from_at-at.ensures
    (way_more c.args.seek c.args.state.now c.args.place c.loop-length.at c.loop-length.length c.loop-length.invariant c.if-at-seek.false
    (subst (λ f. f / 8 < c.args.seek.size) c.from_at-at.ensures c.if-at-seek-2.false))
