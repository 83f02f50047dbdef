use Rattle.kept_rows.proofs.Judging.{kept_by_ball}
use Rattle.kept_rows.proofs.verdict.decide.Goals as goal

pub returns-then-has_all : goal.returns-then-has_all
returns-then-has_all c =
    kept_by_ball c.args.pair.now.whole c.args.pair.now.part c.args.pair.now.gaps.now c.args.ball.now c.args.stage.former c.args.stage.marks c.args.stage.is_round c.requires.stage c.args.place c.requires.place
    c.in-Some.costs c.if-stage.true c.in-Some.ensures (c.has_all.ensures c.if-has_all.true)
