use Rattle.std.proofs.Common.{◌-◌, length, take, sym, subst, arith}
use Rattle.std.proofs.lemmas.List.{length-take-le}
use Rattle.std.proofs.lemmas.Result.{err_from_is_err_and}
use Rattle.wire.proofs.Counting.{reads_on}
use Rattle.path_client.specs.Taking.{Takes}
use Rattle.path_client.proofs.Pieces.{filled, part_more, takes_more}
use Rattle.path_client.proofs.taking.fill.Goals as goal

pub returns-in_err-count-clause-part : goal.returns-in_err-count-clause-part
returns-in_err-count-clause-part g c =
    let p = err_from_is_err_and c.from_residual.result c.from_residual.ensures.1 in
    let size = length-take-le c.loop-count.count c.loop-count.room (omega arith) in
    rw (p.1, p.2) (part_more _ _ _ (take c.loop-count.count c.loop-count.room) _ _ _ _ _ (omega arith) (omega arith) c.loop-count.invariant.takes
    c.in_err-count.ensures.none)

pub loop-count-preserved : goal.loop-count-preserved
loop-count-preserved g c =
    let room = c.loop-count.room in
    let count = c.loop-count.count in
    record {
      within = omega (arith, c.in_ok-count.ensures.count);
      takes = subst (λ l. Takes (g.L.Link.at c.args.link.now).talk (g.L.Link.at c.take_some.new.link).talk l)
          (sym (filled room c.take_some.new.room count (length room - count) c.in_ok-count.field-0 (omega arith)
          (omega (arith, c.in_ok-count.ensures.count))))
          (takes_more _ _ _ _ _ c.loop-count.invariant.takes c.in_ok-count.ensures.taken);
      counts = reads_on _ _ _ c.loop-count.invariant.counts c.in_ok-count.ensures.counts;
    }
