use Rattle.std.proofs.Common.{◌<◌, length, ◌∙◌, arith, get_or-set_other, get_or-set_same, below_more}
use Rattle.std.proofs.Math.ListN.{length-set}
use Rattle.lane_rows.proofs.tiles.words_of.Goals as goal

pub loop-lane-preserved : goal.loop-lane-preserved
loop-lane-preserved c =
    let room : c.loop-lane.lane < length c.loop-lane.lanes = let h = c.loop-lane.invariant.whole in omega arith in
    record {
      whole = length-set c.loop-lane.lanes c.loop-lane.lane c.from.result ∙ c.loop-lane.invariant.whole;
      done = below_more _ _ (λ at l. get_or-set_other c.loop-lane.lanes c.loop-lane.lane at c.from.result 0 (λ e. omega arith) ∙ c.loop-lane.invariant.done at l)
          (get_or-set_same c.loop-lane.lanes c.loop-lane.lane c.from.result 0 room ∙ c.from.ensures);
    }
