use Rattle.std.proofs.Common.{ℕ, ◌+◌, ◌-◌, ◌%◌, ◌∙◌, cond, eqb, get_or, min, ap, arith}
use Rattle.near_rows.proofs.Choices.{short_lane}
use Rattle.near_rows.proofs.NearLanes.{nearer_lane, both_lane}
use Rattle.near_rows.proofs.lanes.nearer.Goals as goal

pub returns-clause-nearer : goal.returns-clause-nearer
returns-clause-nearer c = λ lane l.
    let right : ℕ = get_or c.shared-right.result lane 0 in
    let away : ℕ = get_or c.distances.result lane 0 in
    let same = ap (λ v. get_or v lane 0) c.long.ensures.same in
    let before = c.less_by-before.ensures lane l ∙ ap (λ k. (away + (65536 - k)) % 65536) (c.everywhere.ensures lane l) in
    let limit = c.where_empty.ensures lane l ∙ ap (λ k. cond (eqb right 0) k 65535) before in
    nearer_lane _ _ _ _ away right _ (λ r. c.distances.ensures.square lane r l)
    (λ move. both_lane _ _ _ _ _ right move same (c.compass_sets.ensures lane move l) (c.shared-right.ensures.both lane move l))
    (let most = c.shared-right.ensures.most lane l in let byte = c.long.ensures.bytes lane l in omega (arith, most, byte, same))
    (short_lane c.args.radii lane c.fits-radii) (c.distances.ensures.few lane l)
    (c.lesser.ensures lane l ∙ ap (min (get_or c.args.radii lane 0)) limit)
