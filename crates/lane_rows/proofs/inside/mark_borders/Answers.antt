use Rattle.std.proofs.Common.{sym, ◌∙◌, arith, get_or-set_other, get_or-set_same, below_more}
use Rattle.std.proofs.lemmas.List.{length-set}
use Rattle.lane_rows.proofs.inside.mark_borders.Goals as goal

pub loop-place-preserved : goal.loop-place-preserved
loop-place-preserved c =
    let waits = c.loop-place.waits in
    let place = c.loop-place.place in
    let wait = c.wait_of-wait.result in
    let rows = c.loop-place.invariant.rows in
    record {
      rows = length-set waits place wait ∙ rows;
      within = below_more _ _
          (λ at l none. c.loop-place.invariant.within at l (sym (get_or-set_other waits place at wait 0 (λ e. omega arith)) ∙ none))
          (λ none. c.wait_of-wait.ensures (sym (get_or-set_same waits place wait 0 (omega (arith, rows))) ∙ none));
    }
