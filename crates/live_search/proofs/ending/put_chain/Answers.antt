use Rattle.std.proofs.Common.{◌≡◌, suc, ◌-◌, ◌/◌, ◌%◌, ◌<◌, ◌≤◌, set, ap, subst, ◌∙◌, arith}
use Rattle.live_search.proofs.Chains.{put_back_more, put_back_none, put_back_out}
use Rattle.live_search.proofs.ending.put_chain.Goals as goal

pub loop-left-init : goal.loop-left-init
loop-left-init c = put_back_none c.args.seek c.args.state.now c.args.place c.args.length c.args.room.now c.requires.place

pub returns-then-at-seek : goal.returns-then-at-seek
returns-then-at-seek c =
    let some = c.loop-left-test.true in
    let one : c.loop-left.left ≡ suc (c.loop-left.left - 1) = omega arith in
    put_back_out c.args.seek c.args.state.now c.args.place c.args.length c.args.room.now c.loop-left.room c.loop-left.at c.loop-left.left c.loop-left.invariant
    (c.loop-left.left - 1) c.put.new.room one (subst (λ f. c.args.seek.size ≤ f / 8) c.from_at-from.ensures c.if-at-seek.true)

pub loop-left-preserved : goal.loop-left-preserved
loop-left-preserved c =
    let some = c.loop-left-test.true in
    let one : c.loop-left.left ≡ suc (c.loop-left.left - 1) = omega arith in
    rw c.from_at-from.ensures
    (put_back_more c.args.seek c.args.state.now c.args.place c.args.length c.args.room.now c.loop-left.room c.loop-left.at c.loop-left.left c.loop-left.invariant
    (c.loop-left.left - 1) c.put.new.room one (c.put.ensures ∙ ap (λ f. set c.loop-left.room (c.loop-left.left - 1) (f % 8)) c.from_at-from.ensures)
    (subst (λ f. f / 8 < c.args.seek.size) c.from_at-from.ensures c.if-at-seek.false))
