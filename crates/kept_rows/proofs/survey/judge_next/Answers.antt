use Rattle.std.proofs.Common.{◌≡◌, length, vec_len, arith}
use Rattle.kept_rows.proofs.Judging.{places_grown, judged_grown, stage_of}
use Rattle.kept_rows.proofs.Surveying.{surveyed_next}
use Rattle.kept_rows.proofs.survey.judge_next.Goals as goal

pub marks_of-marks-requires-clause-places : goal.marks_of-marks-requires-clause-places
marks_of-marks-requires-clause-places c =
    let grown = c.in_ok-grow.ensures in
    rw c.deref.ensures.value (places_grown _ _ _ _ grown _ c.requires.surveyed.places c.requires.targets (omega (arith, grown.size, c.requires.few)))

pub judge_all-requires-clause-stage : goal.judge_all-requires-clause-stage
judge_all-requires-clause-stage c =
    let grown = c.in_ok-grow.ensures in
    let size : vec_len c.args.survey.now.ball ≡ length c.args.survey.now.ball.items = omega (arith, c.args.survey.now.ball.ok.0) in
    rw (c.deref-3.ensures.value, c.len-former.ensures, size)
    (stage_of _ _ _ _ grown _ _ _ _ _ c.requires.searched c.requires.targets c.requires.sources
    (places_grown _ _ _ _ grown _ c.requires.surveyed.places c.requires.targets (omega (arith, grown.size, c.requires.few)))
    (λ round. rw (c.deref-2.ensures.value, c.cells-whole.ensures, c.cells-part.ensures) at (c.is_round-is_round.ensures round)) (rw c.deref.ensures.value at c.marks_of-marks.ensures))

pub judge_all-requires-clause-judged : goal.judge_all-requires-clause-judged
judge_all-requires-clause-judged c =
    let grown = c.in_ok-grow.ensures in
    let size : vec_len c.args.survey.now.ball ≡ length c.args.survey.now.ball.items = omega (arith, c.args.survey.now.ball.ok.0) in
    rw (c.deref-3.ensures.value, c.len-former.ensures, size) (judged_grown _ _ _ _ grown _ _ _ c.requires.surveyed.judged)

pub returns : goal.returns
returns c =
    let grown = c.in_ok-grow.ensures in
    surveyed_next _ _ _ _ _ _ _ _ _ c.requires.surveyed
    (places_grown _ _ _ _ grown _ c.requires.surveyed.places c.requires.targets (omega (arith, grown.size, c.requires.few))) (rw c.deref-3.ensures.value at c.judge_all.ensures)
