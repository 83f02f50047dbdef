use Rattle.std.proofs.Common.{◌≡◌, ◌<◌, length, set, get_or, sym, ap, ◌∙◌, arith, below_more}
use Rattle.std.proofs.lemmas.List.{length-set}
use Rattle.lane_rows.specs.Equations.{lane_of}
use Rattle.lane_rows.proofs.Owning.{own_place, other_lane, other_here}
use Rattle.lane_rows.proofs.tiles.fill_own.Goals as goal

pub loop-lane-preserved : goal.loop-lane-preserved
loop-lane-preserved c =
    let sets = c.loop-lane.sets in
    let lane = c.loop-lane.lane in
    let at = c.from-at.result in
    let source : at ≡ get_or c.args.sources lane 0 = c.from-at.ensures in
    let new = c.with_all.result in
    let rows = c.loop-lane.invariant.rows in
    let inside : at < length sets = let home = c.requires lane (omega arith) in omega arith in
    record {
      rows = length-set sets at new ∙ rows;
      own = below_more _ _
          (λ other l. other_lane sets at lane new inside c.with_all.ensures.others other (get_or c.args.sources other 0) (λ same. omega arith) ∙ c.loop-lane.invariant.own other l)
          (ap (lane_of (set sets at new) lane) (sym source) ∙ own_place sets at lane new inside c.with_all.ensures.own);
      others = λ other place apart.
          other_here sets at lane new inside c.with_all.ensures.others other place (λ same there. apart (there ∙ source ∙ ap (λ k. get_or c.args.sources k 0) (sym same)))
          ∙ c.loop-lane.invariant.others other place apart;
    }
