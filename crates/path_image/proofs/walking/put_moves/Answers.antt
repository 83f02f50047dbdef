use Rattle.std.proofs.Common.{◌+◌, set, ap, subst, ◌∙◌, arith}
use Rattle.path_image.specs.Walks.{Advances}
use Rattle.path_image.proofs.Following.{ArePut, are_put_none, are_put_more, followed_none, followed_more, never_long}
use Rattle.path_image.proofs.walking.put_moves.Goals as goal

pub loop-init : goal.loop-init
loop-init c = followed_none (ArePut c.args.room.now c.args.room.now 0) c.args.words.now c.args.walk.now (are_put_none c.args.room.now) c.requires.walk

pub loop-preserved : goal.loop-preserved
loop-preserved c =
    let step = subst (Advances c.args.words.now c.loop.walk c.go_on.new.walk) c.in-Go.is c.go_on.ensures.step in
    followed_more (ArePut c.args.room.now c.loop.room c.loop.count) c.args.words.now c.args.walk.now c.loop.walk c.loop.counter c.loop.invariant
    (ArePut c.args.room.now c.put.new.room (c.loop.count + 1)) c.go_on.new.walk c.in-Go.by step c.go_on.ensures.walk c.go_on.ensures.size
    (λ known. are_put_more c.args.room.now c.loop.room c.put.new.room c.loop.count c.loop.invariant.done c.in-Go.by known
    (c.put.ensures ∙ ap (set c.loop.room c.loop.count) c.number.ensures.number))

pub returns : goal.returns
returns c = λ version moves ahead. absurd (never_long (ArePut c.args.room.now c.loop.room c.loop.count) c.args.words.now c.args.walk.now c.loop.walk c.loop.counter c.loop.invariant
    (let size = c.size_of-end.ensures in let done = c.loop-test.false in let upto = c.loop.auto.counter-end in omega arith) version moves ahead)
