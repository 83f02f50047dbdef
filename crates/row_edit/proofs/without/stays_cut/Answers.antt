use Rattle.row_edit.proofs.without.stays_cut.Goals as goal

pub returns : goal.returns
returns c is at some inside sets all move common has =
    c.is_within.ensures is move
    (c.both.ensures move (c.shared-before.ensures sets all move common) (c.most_at.ensures sets all move common.number has))
