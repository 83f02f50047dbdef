use Rattle.std.proofs.Common.{not, sym, ◌∙◌, subst, true≢false, ap, arith}
use Rattle.scen_run.specs.Made.{IsTooMany, formula_map}
use Rattle.scen_run.proofs.Making.{made_long, made_next, made_too_many, free_is}
use Rattle.scen_run.proofs.made.made_map.Goals.{else-passable-via-then-passable+else-free-eq-MAX_PASSABLE, else-passable-via-else-passable}
use Rattle.scen_run.proofs.made.made_map.Goals as goal

pub returns-then-free-eq-MAX_PASSABLE : goal.returns-then-free-eq-MAX_PASSABLE
returns-then-free-eq-MAX_PASSABLE c =
    let passable = sym (free_is _ _ _ _ _ c.loop-place.invariant c.cell_at-cell.result c.is_blocked-passable.result c.cell_at-cell.ensures c.is_blocked-passable.ensures) ∙ ap not c.if-passable.true in
    let many = made_too_many _ _ _ _ _ c.loop-place.invariant c.args.height c.requires c.loop-place-test.true passable c.if-free-eq-MAX_PASSABLE.true in
    (many.0, subst (IsTooMany (formula_map c.args.width c.args.height c.args.seed)) (sym c.cell_at-cell.ensures) many.1)

pub loop-place-preserved : goal.loop-place-preserved
loop-place-preserved c =
    made_next _ _ _ _ _ c.loop-place.invariant c.cell_at-cell.result c.is_blocked-passable.result c.from.result _ c.cell_at-cell.ensures
    c.is_blocked-passable.ensures c.from.ensures c.in_ok-push.ensures.items
    (λ passable full. elim c.else-passable.branch [
      | else-passable-via-then-passable+else-free-eq-MAX_PASSABLE w ↦ w.if-free-eq-MAX_PASSABLE.false full
      | else-passable-via-else-passable w ↦ true≢false (sym passable ∙ ap not w.if-passable.false)
    ])

pub of_cells-requires-clause-whole : goal.of_cells-requires-clause-whole
of_cells-requires-clause-whole c =
    let long = made_long _ _ _ _ _ c.loop-place.invariant in
    omega (arith, long, c.loop-place.auto.place-end, c.loop-place-test.false)
