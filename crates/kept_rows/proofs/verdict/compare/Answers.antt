use Rattle.std.proofs.Common.{refl}
use Rattle.kept_rows.proofs.Judging.{compared}
use Rattle.kept_rows.proofs.verdict.compare.Goals as goal

pub returns : goal.returns
returns c =
    compared c.args.pair.now.whole c.args.pair.now.part c.args.pair.now.gaps.now c.args.ball.now c.args.stage.former c.args.stage.marks c.args.stage.is_round c.requires.stage c.args.place c.requires.place
    c.args.costs c.with_equal.result _ _ _ _ _ _ c.requires.open refl c.place_past-there.ensures.past c.first_sets-sets.ensures.sets c.first_sets.ensures.sets (c.differ.ensures c.if-differ.false)
    c.keys-keys.ensures c.keys.ensures c.with_equal.ensures
