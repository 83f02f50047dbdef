use Rattle.std.proofs.Common.{◌≡◌, ◌-◌, ◌*◌, ◌<◌, ap, vec_len, length, arith}
use Rattle.std.proofs.lemmas.Bool.{iff_false}
use Rattle.components.specs.declared.TheConstants.{UNLABELLED}
use Rattle.components.specs.Marks.{Marks}
use Rattle.components.proofs.Scanning.{scanning_skip, scanning_more}
use Rattle.components.proofs.flood.Flood.scan.Goals as goal
use Rattle.components.proofs.flood.Flood.scan.Goals.{then-is_fresh+in_ok-push, else-is_fresh}

pub loop-place-preserved : goal.loop-place-preserved
loop-place-preserved c =
    let column = rw c.width-width.ensures.width at c.after-cell.ensures.column in
    let beside = rw c.width-width.ensures.width at c.after-cell.ensures.place in
    elim c.if-is_fresh.branch [
      | then-is_fresh+in_ok-push w ↦
          let items = w.in_ok-push.ensures.items in
          let fresh = c.is_fresh.ensures.0 w.if-is_fresh.true in
          let view = c.self-in-loop-place.view_is in
          let scanned = c.loop-place.invariant.scanned in
          let places = λ (m : Marks). length m.labels in
          let low : c.loop-place.number < UNLABELLED =
          omega (
            arith,
            scanned.few,
            scanned.flooded.balanced.places,
            ap places view,
            ap places c.self.view_is,
            c.width-width.ensures.limits.cells,
            c.requires.flooded.balanced.places,
            c.self.inside.labels.ok.0,
          ) in
          rw (w.self-is, w.starts-is, w.number-is, items)
          (scanning_more _ _ _ _ _ _ c.loop-place.invariant _ column beside low _ fresh w.spread.ensures.spread w.spread.ensures.flooded _ (ap (λ (m : Marks). m.count) view))
      | else-is_fresh w ↦
          rw (w.self-is, w.starts-is, w.number-is)
          (scanning_skip _ _ _ _ _ _ c.loop-place.invariant _ column beside (iff_false c.is_fresh.ensures w.if-is_fresh.false))
    ]

pub returns-clause-scanned : goal.returns-clause-scanned
returns-clause-scanned c =
    let number : vec_len c.loop-place.starts - 1 ≡ c.loop-place.number = omega (arith, c.loop-place.invariant.starts_are.size, c.loop-place.starts.ok.0) in
    let at : c.loop-place._place ≡ c.args.grid.now.width * c.args.grid.now.height =
    omega (arith, ap (λ (m : Marks). length m.labels) c.self.view_is, c.requires.flooded.balanced.places, c.self.inside.labels.ok.0) in
    rw (number, ← at) c.loop-place.invariant.scanned
