use Rattle.std.proofs.Common.{◌≡◌, ◌∷◌, length, arith}
use Rattle.std.specs.Vec.Iter.{into_iter_items}
use Rattle.std.specs.Arc.{arc_value}
use Rattle.std.proofs.lemmas.Result.{err_from_is_err_and}
use Rattle.path_file.proofs.CheckLemmas.{made_more, part_refused, part_less}
use Rattle.path_file.proofs.checking.comps_of.Goals as goal

pub overflow_cast-len : goal.overflow_cast-len
overflow_cast-len c =
    let steps : into_iter_items c.loop-part.part-iterator ≡ c.in-Some.part ∷ into_iter_items c.next.new.self = c.in-Some.ensures.steps.0 in
    let less = part_less arc_value c.args.order c.args.parts.items _ c.in-Some.part c.loop-part.comps.items (rw steps at c.loop-part.invariant.2) in
    omega (arith, less, c.requires.few, c.loop-part.comps.ok.0, c.len-in-loop-part.ensures)

pub returns-in_err-check_part-clause-fault : goal.returns-in_err-check_part-clause-fault
returns-in_err-check_part-clause-fault c =
    let p = err_from_is_err_and c.from_residual-in_err-check_part.result c.from_residual-in_err-check_part.ensures.1 in
    let steps : into_iter_items c.loop-part.part-iterator ≡ c.in-Some.part ∷ into_iter_items c.next.new.self = c.in-Some.ensures.steps.0 in
    let number : c.len-in-loop-part.result ≡ length c.loop-part.comps.items = omega (arith, c.len-in-loop-part.ensures, c.loop-part.comps.ok.0) in
    rw (p.1, p.2) (part_refused arc_value c.args.order c.args.parts.items _ c.in-Some.part c.loop-part.comps.items (rw steps at c.loop-part.invariant.2)
    c.len-in-loop-part.result number _ c.in_err-check_part.ensures.fault)

pub loop-part-preserved : goal.loop-part-preserved
loop-part-preserved c =
    let steps : into_iter_items c.loop-part.part-iterator ≡ c.in-Some.part ∷ into_iter_items c.next.new.self = c.in-Some.ensures.steps.0 in (
      tt,
      tt,
      made_more arc_value c.args.order c.args.parts.items _ c.in-Some.part c.loop-part.comps.items (rw steps at c.loop-part.invariant.2)
          c.in_ok-comp_from.field-0 _ c.in_ok-check_part.ensures.rows c.in_ok-comp_from.ensures c.in_ok-push.ensures,
    )
