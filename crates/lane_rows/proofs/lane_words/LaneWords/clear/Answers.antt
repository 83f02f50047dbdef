use Rattle.std.proofs.Common.{[], map, ap, ◌∙◌, arith, get_or-set_other, get_or-set_same, below_more}
use Rattle.std.proofs.lemmas.List.{length-map, length-set, map-set}
use Rattle.lane_rows.specs.Packed.{words_in}
use Rattle.lane_rows.proofs.lane_words.LaneWords.clear.Goals as goal

pub loop-lane-preserved : goal.loop-lane-preserved
loop-lane-preserved c =
    let lists = c.loop-lane.self-inside.lists.items in
    let lane = c.loop-lane.lane in
    let new = c.clear.new.self in
    let lanes = c.loop-lane.invariant.lanes in
    let words = map (λ list. list.items) lists in
    let moved = map-set (λ list. list.items) lists lane new in
    record {
      lanes = length-set lists lane new ∙ lanes;
      empty = below_more _ _
          (λ at l. ap (λ ws. words_in ws at) moved ∙ get_or-set_other words lane at new.items [] (λ same. omega arith) ∙ c.loop-lane.invariant.empty at l)
          (ap (λ ws. words_in ws lane) moved ∙ get_or-set_same words lane new.items [] (omega (arith, length-map lists (λ list. list.items))) ∙ c.clear.ensures.items);
    }
