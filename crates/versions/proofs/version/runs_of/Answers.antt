use Rattle.std.proofs.Common.{◌≡◌, length, map, get_or, refl, sym, ap, ◌∙◌, arith}
use Rattle.std.specs.Arc.{arc_value}
use Rattle.std.specs.List.{sum_by}
use Rattle.std.proofs.lemmas.List.{get_or-map, length-map, take_all}
use Rattle.std.proofs.lemmas.List.Sums.{sum_by_more}
use Rattle.versions.specs.Databases.{runs_of, no_comp}
use Rattle.versions.proofs.version.runs_of.Goals as goal

pub loop-comp-init : goal.loop-comp-init
loop-comp-init c = (refl, omega arith)

pub overflow_add-runs : goal.overflow_add-runs
overflow_add-runs c =
    let limit = c.runs-runs.ensures.limit in
    let bound = c.loop-comp.invariant.1 in
    let few = c.requires in
    let inside = c.loop-comp-test.true in
    omega arith

pub loop-comp-preserved : goal.loop-comp-preserved
loop-comp-preserved c =
    let k = c.loop-comp.comp-index in
    let inside = c.loop-comp-test.true in
    let size : length (map arc_value c.args.comps.now) ≡ length c.args.comps.now = length-map c.args.comps.now arc_value in
    let at : get_or (map arc_value c.args.comps.now) k no_comp ≡ c.deref.result.now =
    get_or-map arc_value c.args.comps.now k c.comp-item.result no_comp inside ∙ ap arc_value (sym c.comp-item.is) ∙ sym c.deref.ensures in
    let more = sum_by_more (λ comp. sum_by length comp.rows) (map arc_value c.args.comps.now) k no_comp (omega arith) in
    let here = ap (λ comp. sum_by length comp.rows) at in
    let its = c.runs-runs.ensures.runs in
    let limit = c.runs-runs.ensures.limit in
    let so_far = c.loop-comp.invariant.0 in
    let bound = c.loop-comp.invariant.1 in
    (omega arith, omega arith)

pub returns : goal.returns
returns c =
    let end = c.loop-comp-test.false in
    let size : length (map arc_value c.args.comps.now) ≡ length c.args.comps.now = length-map c.args.comps.now arc_value in
    c.loop-comp.invariant.0 ∙ ap runs_of (take_all c.loop-comp.comp-index (map arc_value c.args.comps.now) (omega arith))
