use Rattle.row_edit.proofs.with_set.ends_at.Goals as goal

pub returns : goal.returns
returns c is sets all move common has =
    c.least_at.ensures sets all move
    (c.is_within.ensures is move (c.both.ensures move (c.shared-run.ensures sets all move common) has))
