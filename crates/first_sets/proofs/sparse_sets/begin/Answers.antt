use Rattle.std.proofs.Common.{◌≡◌, ◌⊎◌, ◌↔◌, ◌+◌, refl, subst, sym, ap, ◌∙◌, arith, length, get_or, set}
use Rattle.moves.specs.declared.Move.{Move}
use Rattle.moves.specs.Moves.{is_diagonal}
use Rattle.moves.specs.MoveSets.{Has}
use Rattle.moves.specs.Maps.{place_of}
use Rattle.first_sets.specs.Steps.{CostsStep, set_in}
use Rattle.first_sets.proofs.Standing.{filler, place_below, attains_by}
use Rattle.first_sets.proofs.Beginning.{IsBegun, begun_more, begun_no_more, begun_all}
use Rattle.first_sets.proofs.sparse_sets.begin.Goals as goal
use Rattle.first_sets.proofs.sparse_sets.begin.Goals.{then-is_step, else-is_step}

pub bounds-sets-place : goal.bounds-sets-place
bounds-sets-place c =
    let pair = get_or c.as_slice-by-items.result.now c.loop-by.by-index filler in
    let legal = c.loop-by.invariant.near.legal c.loop-by.by-index filler c.loop-by-test.true in
    let low = place_below c.args.grid.now pair.1 legal.enters.passable.inside in
    let at : c.place-place.result ≡ place_of c.args.grid.now.width pair.1 = c.place-place.ensures ∙ ap (λ w. place_of w pair.1) c.loop-by.invariant.wide in
    omega arith

pub bounds-sets-place-then-is_step : goal.bounds-sets-place-then-is_step
bounds-sets-place-then-is_step c =
    let pair = get_or c.as_slice-by-items.result.now c.loop-by.by-index filler in
    let legal = c.loop-by.invariant.near.legal c.loop-by.by-index filler c.loop-by-test.true in
    let low = place_below c.args.grid.now pair.1 legal.enters.passable.inside in
    let at : c.place-place.result ≡ place_of c.args.grid.now.width pair.1 = c.place-place.ensures ∙ ap (λ w. place_of w pair.1) c.loop-by.invariant.wide in
    omega arith

pub loop-by-preserved : goal.loop-by-preserved
loop-by-preserved c =
    let map = c.args.grid.now in
    let search = c.args.search.now in
    let source = c.args.source in
    let sets = c.loop-by.sets in
    let found = c.as_slice-by-items.result.now in
    let n = c.loop-by.by-index in
    let pair = get_or found n filler in
    let known = c.loop-by.invariant in
    let legal = known.near.legal n filler c.loop-by-test.true in
    elim c.if-is_step.branch [
      | then-is_step w ↦
          let at : w.place-place.result ≡ place_of map.width pair.1 = w.place-place.ensures ∙ ap (λ wide. place_of wide pair.1) known.wide in
          let step : CostsStep search source (is_diagonal pair.0) pair.1 =
          subst (λ d. CostsStep search source d pair.1) c.is_diagonal.ensures (c.is_step.ensures.0 w.if-is_step.true) in
          let attains = attains_by map search source pair.1 pair.0 legal step in
          let there : w.of_mask.result ≡ set_in map.width sets pair.1 = w.of_mask.ensures ∙ ap (λ p. get_or sets p 0) at in
          let made : (move : Move) → Has w.mask.result move ↔ (Has (set_in map.width sets pair.1) move ⊎ (move ≡ pair.0)) = λ move.
          subst (λ s. Has s move ↔ (Has (set_in map.width sets pair.1) move ⊎ (move ≡ pair.0))) (sym w.mask.ensures)
          (subst (λ s. Has w.with.result move ↔ (Has s move ⊎ (move ≡ pair.0))) there (w.with.ensures move)) in
          let more = begun_more map source search found n sets c.loop-by-test.true pair refl known.begun (omega arith) attains w.mask.result made in
          let same : c.if-is_step.sets ≡ set sets (place_of map.width pair.1) w.mask.result = w.sets-is ∙ ap (λ p. set sets p w.mask.result) at in
          record { near = known.near; wide = known.wide; begun = subst (IsBegun map source search found (n + 1)) (sym same) more }
      | else-is_step w ↦
          let none : CostsStep search source (is_diagonal pair.0) pair.1 → ⊥ = λ step.
          let tested = c.is_step.ensures.1 (subst (λ d. CostsStep search source d pair.1) (sym c.is_diagonal.ensures) step) in
          let untested = w.if-is_step.false in
          cc in
          let same = begun_no_more map source search found n sets c.loop-by-test.true pair refl known.begun
          (λ a. none (a.cost_before, a.before_is, a.to_is)) in
          record { near = known.near; wide = known.wide; begun = subst (IsBegun map source search found (n + 1)) (sym w.sets-is) same }
    ]

pub returns : goal.returns
returns c =
    let found = c.as_slice-by-items.result.now in
    let known = c.loop-by.invariant in
    let last : c.loop-by.by-index ≡ length found = omega arith in
    begun_all c.args.grid.now c.args.source c.args.search.now found c.loop-by.sets c.requires.searched c.requires.source known.near
    (subst (λ n. IsBegun c.args.grid.now c.args.source c.args.search.now found n c.loop-by.sets) last known.begun)
