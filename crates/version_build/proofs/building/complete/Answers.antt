use Rattle.std.proofs.Common.{◌≡◌, ◌∷◌, [], length, sym, ap, subst, ◌∙◌, arith}
use Rattle.std.specs.Vec.Iter.{into_iter_items}
use Rattle.std.specs.Arc.{arc_value}
use Rattle.std.specs.Option.{option_map}
use Rattle.std.proofs.lemmas.List.{length-map}
use Rattle.versions.specs.Databases.{component_at, IsKeptAs}
use Rattle.version_build.proofs.Assembling.{IsAssembling, assembling_none, assembling_more, known_kept, left_less, assembled}
use Rattle.version_build.proofs.building.complete.Goals as goal
use Rattle.version_build.proofs.building.complete.Goals.{in-Some-known, in-None-known+in_ok-comp-in-None-known}

pub loop-known-init : goal.loop-known-init
loop-known-init g c =
    let gives : into_iter_items c.into_iter-known-iterator.result ≡ c.args.prepared.comps.items = c.into_iter-known-iterator.ensures.into_iter_gives.0 in
    let start = subst (λ rest. IsAssembling arc_value c.args.prepared.kind c.args.labels.now c.args.prepared.comps.items rest []) (sym gives) (assembling_none arc_value _ _ _) in
    (tt, tt, rw c.in_ok-comps.ensures.items start)

pub overflow_cast-label : goal.overflow_cast-label
overflow_cast-label g c =
    let steps : into_iter_items c.loop-known.known-iterator ≡ c.in-Some.known ∷ into_iter_items c.next.new.self = c.in-Some.ensures.steps.0 in
    let less = left_less _ _ _ _ _ _ _ (rw steps at c.loop-known.invariant.2) in
    omega (arith, less, length-map c.args.prepared.comps.items (option_map arc_value), c.requires.prepared.long, c.count.ensures, c.count.type_inv, c.loop-known.comps.ok.0, c.len-label.ensures)

pub cells-cells-requires : goal.cells-cells-requires
cells-cells-requires g c =
    let steps : into_iter_items c.loop-known.known-iterator ≡ c.in-Some.known ∷ into_iter_items c.next.new.self = c.in-Some.ensures.steps.0 in
    let less = left_less _ _ _ _ _ _ _ (rw steps at c.loop-known.invariant.2) in
    omega (arith, less, length-map c.args.prepared.comps.items (option_map arc_value), c.requires.prepared.long, c.loop-known.comps.ok.0, c.len-label.ensures)

pub build_comp-requires-clause-cells : goal.build_comp-requires-clause-cells
build_comp-requires-clause-cells g c κs longer =
    let steps : into_iter_items c.loop-known.known-iterator ≡ c.in-Some.known ∷ into_iter_items c.next.new.self = c.in-Some.ensures.steps.0 in
    let less = left_less _ _ _ _ _ _ _ (rw steps at c.loop-known.invariant.2) in
    rw c.cells-cells.ensures
    (c.requires.cells _ (omega (arith, less, length-map c.args.prepared.comps.items (option_map arc_value), c.requires.prepared.long, c.loop-known.comps.ok.0, c.len-label.ensures)))

pub loop-known-preserved : goal.loop-known-preserved
loop-known-preserved g c =
    let steps : into_iter_items c.loop-known.known-iterator ≡ c.in-Some.known ∷ into_iter_items c.next.new.self = c.in-Some.ensures.steps.0 in
    let joined = rw steps at c.loop-known.invariant.2 in
    let place : c.len-label.result ≡ length c.loop-known.comps.items = omega (arith, c.len-label.ensures, c.loop-known.comps.ok.0) in
    let cells : c.cells-cells.result.now ≡ component_at c.args.labels.now (length c.loop-known.comps.items) = c.cells-cells.ensures ∙ ap (component_at c.args.labels.now) place in
    let kept : IsKeptAs c.args.prepared.kind (component_at c.args.labels.now (length c.loop-known.comps.items)) (arc_value c.match-known.comp) =
    elim c.match-known.branch [
      | in-Some-known w ↦ rw w.comp-is (known_kept _ _ _ _ _ _ _ joined c.requires.prepared _ w.in-Some-known.is)
      | in-None-known+in_ok-comp-in-None-known w ↦ rw w.comp-is (rw cells at w.in_ok-comp-in-None-known.ensures)
    ] in
    (tt, tt, rw c.in_ok-push.ensures.items (assembling_more _ _ _ _ _ _ _ joined _ kept))

pub returns : goal.returns
returns g c =
    let none : length (into_iter_items c.loop-known.known-iterator) ≡ 0 = omega (arith, c.in-None.ensures.steps.0, c.loop-known.known-iterator.rest.ok.0) in
    assembled _ _ _ _ _ _ c.requires.prepared.long c.loop-known.invariant.2 none
