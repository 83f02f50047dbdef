use Rattle.std.proofs.Common.{◌≢◌, arith}
use Rattle.row_check.proofs.Arriving.{known_key, key_most, not_target, followed_more, lost_nowhere, lost_at_end}
use Rattle.row_check.proofs.keys.follow.Goals as goal

pub overflow_add-result : goal.overflow_add-result
overflow_add-result c =
    let p = c.loop.invariant in
    let key = known_key c.args.cursors.now c.args.target c.requires.follow c.args.keys.now c.loop.at c.requires.keys p.inside c.if-key.true in
    let most = key_most c.args.cursors.now c.args.target c.requires.follow c.loop.at _ p.inside key in
    let bound = p.bound in
    let turns = c.loop-test.true in
    let few = c.requires.follow.few in
    omega arith

pub returns-then-key-clause-some : goal.returns-then-key-clause-some
returns-then-key-clause-some c =
    let p = c.loop.invariant in
    p.forth _ (known_key c.args.cursors.now c.args.target c.requires.follow c.args.keys.now c.loop.at c.requires.keys p.inside c.if-key.true)

pub returns-then-at-cursors-clause-none : goal.returns-then-at-cursors-clause-none
returns-then-at-cursors-clause-none c =
    let apart : c.loop.at ≢ c.args.target = not_target c.args.cursors.now c.args.target c.requires.follow c.args.keys.now c.loop.at c.requires.keys (omega (arith, c.if-key.false)) in
    lost_nowhere c.args.cursors.now c.args.target c.requires.follow c.args.from c.loop.counter c.loop.at c.loop.total c.loop.invariant apart (omega (arith, c.if-at-cursors.true, c.from-at.ensures))

pub loop-preserved : goal.loop-preserved
loop-preserved c =
    let apart : c.loop.at ≢ c.args.target = not_target c.args.cursors.now c.args.target c.requires.follow c.args.keys.now c.loop.at c.requires.keys (omega (arith, c.if-key.false)) in
    rw c.from-at.ensures
    (followed_more c.args.cursors.now c.args.target c.requires.follow c.args.from c.loop.counter c.loop.at c.loop.total c.loop.invariant apart (omega (arith, c.if-at-cursors.false, c.from-at.ensures)))

pub returns-clause-none : goal.returns-clause-none
returns-clause-none c =
    lost_at_end c.args.cursors.now c.args.target c.requires.follow c.args.from c.loop.counter c.loop.at c.loop.total c.requires.from c.loop.invariant (omega (arith, c.loop-test.false))
