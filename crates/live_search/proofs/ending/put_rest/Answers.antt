use Rattle.std.proofs.Common.{set, ap, subst, ◌∙◌}
use Rattle.path_image.specs.Walks.{Advances}
use Rattle.live_search.proofs.Chains.{put_on_more}
use Rattle.live_search.proofs.ending.put_rest.Goals as goal

pub loop-preserved : goal.loop-preserved
loop-preserved c =
    put_on_more c.args.walk.now c.args.before c.args.room.now c.loop.walk c.loop.room c.loop.count c.loop.counter c.loop.invariant c.step.new.self c.in-Go.by c.put.new.room
    c.step.ensures.words (subst (Advances c.loop.walk.words c.loop.walk.walk c.step.new.self.walk) c.in-Go.is c.step.ensures.step)
    (c.put.ensures ∙ ap (set c.loop.room c.loop.count) c.number.ensures.number)
