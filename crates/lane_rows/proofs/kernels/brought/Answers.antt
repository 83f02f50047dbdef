use Rattle.lane_rows.proofs.Sets.{brought_where, word_lane}
use Rattle.lane_rows.proofs.kernels.brought.Goals as goal

pub returns : goal.returns
returns c = λ lane first l.
    brought_where _ _ _ _ _ _ _ c.args.step first (c.requires.range.each lane c.args.place l) (word_lane c.args.key lane c.fits-key) c.requires.step
    (c.lowered.ensures.rest lane l) (c.row.ensures lane) (c.set_row.ensures lane) (c.equal_lanes.ensures.equal lane l) (c.shared.ensures lane first l)
