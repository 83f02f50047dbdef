use Rattle.std.proofs.Common.{◌≡◌, ◌*◌, sym, ◌∙◌, true≢false, arith}
use Rattle.scen_run.proofs.Querying.{next_passable, next_blocked, all_seen}
use Rattle.scen_run.proofs.queries.passable_cells.Goals.{then-passable+in_ok-push, else-passable}
use Rattle.scen_run.proofs.queries.passable_cells.Goals as goal

pub loop-place-preserved : goal.loop-place-preserved
loop-place-preserved c =
    elim c.if-passable.branch [
      | then-passable+in_ok-push w ↦
          rw (w.cells-is, w.in_ok-push.ensures.items)
          (next_passable _ _ _ _ _ c.width-width.ensures.width c.height-height.ensures.height c.loop-place.invariant c.cell_at-cell.result c.cell_at-cell.ensures
          (c.passable.ensures.0 w.if-passable.true))
      | else-passable w ↦
          rw w.cells-is
          (next_blocked _ _ _ _ _ c.width-width.ensures.width c.height-height.ensures.height c.loop-place.invariant c.cell_at-cell.result c.cell_at-cell.ensures
          c.width-width.ensures.limits c.loop-place-test.true (λ passable. true≢false (sym (c.passable.ensures.1 passable) ∙ w.if-passable.false)))
    ]

pub returns : goal.returns
returns c =
    let end : c.loop-place.place ≡ c.width-width.result * c.height-height.result = omega (arith, c.loop-place.auto.place-end, c.loop-place-test.false) in
    all_seen c.args.grid.now _ _ _ _ c.width-width.ensures.width c.height-height.ensures.height c.loop-place.invariant c.width-width.ensures.whole end
