use Rattle.std.proofs.Common.{◌≡◌, ◌-◌, ◌<◌, vec_len, length, rules, ap, arith}
use Rattle.std.proofs.lemmas.Bool.{iff_false}
use Rattle.components.proofs.Below.{read_in}
use Rattle.components.proofs.Regrowing.{regrowing_start, regrowing_skip, regrowing_more, few_cells, regrown}
use Rattle.components.proofs.flood.Flood.regrow.Goals as goal
use Rattle.components.proofs.flood.Flood.regrow.Goals.{then-is_fresh+in_ok-grow+in_ok-push, else-is_fresh}

pub loop-seed-init : goal.loop-seed-init
loop-seed-init c = regrowing_start _ _ _ c.requires.scanned _ _ (search rules) (search rules)

pub overflow_cast-len : goal.overflow_cast-len
overflow_cast-len c =
    let e = c.seeds-seed-items.ensures in
    let within : c.loop-seed.seed-index < length c.args.edit.now.seeds = omega (arith, ap length e) in
    let at = read_in _ _ e c.loop-seed.seed-index (record { x = 0; y = 0 }) c.loop-seed-test.true in
    let fresh = c.is_fresh.ensures.0 c.if-is_fresh.true in
    let grown = c.in_ok-grow.ensures in
    let most = few_cells _ c.requires.limits _ c.requires.plan _ _ _ _ _ c.loop-seed.invariant _ within at
    fresh _ grown.spread grown.flooded _ grown.cells in
    omega (arith, c.len.ensures, c.grow.new.cells.ok.0)

pub loop-seed-preserved : goal.loop-seed-preserved
loop-seed-preserved c =
    let e = c.seeds-seed-items.ensures in
    let within : c.loop-seed.seed-index < length c.args.edit.now.seeds = omega (arith, ap length e) in
    let at = read_in _ _ e c.loop-seed.seed-index (record { x = 0; y = 0 }) c.loop-seed-test.true in
    elim c.if-is_fresh.branch [
      | then-is_fresh+in_ok-grow+in_ok-push w ↦
          let fresh = c.is_fresh.ensures.0 w.if-is_fresh.true in
          let grown = w.in_ok-grow.ensures in
          rw (w.self-is, w.starts-is, w.cells-is, w.number-is, w.in_ok-push.ensures.items)
          (regrowing_more _ c.requires.limits _ c.requires.plan _ _ _ _ _ c.loop-seed.invariant _ within at
          fresh _ grown.spread grown.flooded _ grown.cells _ (omega (arith, w.len.ensures, w.grow.new.cells.ok.0)))
      | else-is_fresh w ↦
          rw (w.self-is, w.starts-is, w.cells-is, w.number-is)
          (regrowing_skip _ c.requires.limits _ c.requires.plan _ _ _ _ _ c.loop-seed.invariant _ within at (iff_false c.is_fresh.ensures w.if-is_fresh.false))
    ]

pub returns-clause-scanned : goal.returns-clause-scanned
returns-clause-scanned c =
    let number : vec_len c.loop-seed.starts - 1 ≡ c.loop-seed.number = omega (arith, c.loop-seed.invariant.size, c.loop-seed.starts.ok.0) in
    rw number (regrown _ c.requires.limits _ c.requires.plan _ _ _ _ _ c.loop-seed.invariant (omega (arith, ap length c.seeds-seed-items.ensures)))
