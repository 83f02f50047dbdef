use Rattle.std.proofs.Common.{◌≡◌, ◌+◌, ◌-◌, length, take, sym, subst, arith}
use borrow.Rule.Slice.PartMut.{put_mid}
use Rattle.wire.proofs.Counting.{reads_on}
use Rattle.path_client.specs.Taking.{Takes}
use Rattle.path_client.proofs.Pieces.{filled, takes_more}
use Rattle.feed_node.proofs.asking.fill.Goals as goal

pub returns-then-count-eq0-clause-takes : goal.returns-then-count-eq0-clause-takes
returns-then-count-eq0-clause-takes g c =
    let room = c.loop-link.room in
    let have = c.loop-link.have in
    let zero : have + c.in_ok-count.count ≡ have = omega (arith, c.if-count-eq0.true) in
    subst (λ n. Takes (g.L.Link.at c.args.link.now).talk (g.L.Link.at c.take_some.new.link).talk (take n (put_mid have (length room - have) room c.take_some.new.room))) zero
    (subst (λ l. Takes (g.L.Link.at c.args.link.now).talk (g.L.Link.at c.take_some.new.link).talk l)
    (sym (filled room c.take_some.new.room have (length room - have) c.in_ok-count.count (omega arith) (omega (arith, c.in_ok-count.ensures.count))))
    (takes_more _ _ _ _ _ c.loop-link.invariant.takes c.in_ok-count.ensures.taken))

pub loop-link-preserved : goal.loop-link-preserved
loop-link-preserved g c =
    let room = c.loop-link.room in
    let have = c.loop-link.have in
    record {
      within = omega (arith, c.in_ok-count.ensures.count);
      takes = subst (λ l. Takes (g.L.Link.at c.args.link.now).talk (g.L.Link.at c.take_some.new.link).talk l)
          (sym (filled room c.take_some.new.room have (length room - have) c.in_ok-count.count (omega arith)
          (omega (arith, c.in_ok-count.ensures.count))))
          (takes_more _ _ _ _ _ c.loop-link.invariant.takes c.in_ok-count.ensures.taken);
      counts = reads_on _ _ _ c.loop-link.invariant.counts c.in_ok-count.ensures.counts;
    }
