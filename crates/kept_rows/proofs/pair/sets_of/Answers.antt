use Rattle.std.proofs.Common.{length, ap, subst, arith}
use Rattle.kept_rows.specs.Pairs.{AreFirstByKeys}
use Rattle.kept_rows.proofs.Pairs.{sets_are_first}
use Rattle.kept_rows.proofs.Surveying.{sets_more}
use Rattle.kept_rows.proofs.pair.sets_of.Goals as goal

pub loop-place-preserved : goal.loop-place-preserved
loop-place-preserved c =
    rw c.in_ok-push.ensures.items
    (sets_more c.args.pair.now.whole.cells c.args.pair.now.part.cells c.args.pair.now.gaps.now c.args.pair.now.part.tile.sources c.loop-place.place c.loop-place.sets.items c.first_sets.result c.loop-place.invariant
    (λ apart. sets_are_first c.args.pair.now.whole c.args.pair.now.part c.args.pair.now.gaps.now c.requires.searched c.loop-place.place (omega (arith, c.loop-place-test.true, ap length c.cells-count.ensures)) c.first_sets.result c.first_sets.ensures.bytes
    (subst (λ p. AreFirstByKeys c.args.pair.now.whole p c.first_sets.result) c.place_past.ensures.past c.first_sets.ensures.sets) apart))
