use Rattle.std.proofs.Common.{[], subst}
use Rattle.kept_rows.specs.Targets.{IsGrown}
use Rattle.kept_rows.proofs.Judging.{places_first, stage_of}
use Rattle.kept_rows.proofs.Surveying.{surveyed_first}
use Rattle.kept_rows.proofs.survey.first_survey.Goals as goal

pub judge_all-requires-clause-stage : goal.judge_all-requires-clause-stage
judge_all-requires-clause-stage c =
    let grown : IsGrown [] c.args.targets.sources c.args.targets.count c.grow.new.ball.items =
    subst (λ former. IsGrown former c.args.targets.sources c.args.targets.count c.grow.new.ball.items) c.in_ok-ball.ensures.items c.in_ok-grow.ensures in
    rw c.deref-3.ensures.value
    (stage_of _ _ _ _ grown _ _ _ _ _ c.requires.searched c.requires.targets c.requires.sources (places_first _ _ _ _ grown c.requires.targets)
    (λ round. rw (c.deref.ensures.value, c.cells-whole.ensures, c.cells-cells.ensures) at (c.is_round-is_round.ensures round)) (rw c.deref-2.ensures.value at c.marks_of-marks.ensures))

pub returns : goal.returns
returns c =
    let grown : IsGrown [] c.args.targets.sources c.args.targets.count c.grow.new.ball.items =
    subst (λ former. IsGrown former c.args.targets.sources c.args.targets.count c.grow.new.ball.items) c.in_ok-ball.ensures.items c.in_ok-grow.ensures in
    surveyed_first _ _ _ _ _ _ _ _ c.requires.searched c.requires.targets c.requires.sources c.in_ok-sets.ensures (places_first _ _ _ _ grown c.requires.targets) (rw c.deref-3.ensures.value at c.judge_all.ensures)
