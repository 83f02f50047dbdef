use Rattle.std.proofs.Common.{◌≡◌, ◌+◌, ◌-◌, subst, take, arith}
use borrow.Rule.Slice.PartMut.{put_mid}
use Rattle.wire.proofs.Counting.{no_reads, reads_on}
use Rattle.session.specs.Turns.{HoldsMore}
use Rattle.session.proofs.Cutting.{filling_more, filling_none, filling_still}
use Rattle.session.proofs.frames.Held.fill.Goals as goal

pub loop-self-init : goal.loop-self-init
loop-self-init g c = record {
  filling = filling_none (g.L.Link.at c.args.link.now).talk c.args.self.now c.self.inside.room c.self.inside.have c.args.most c.self.view_is c.requires.few c.self.invariant c.self.told;
  counts = no_reads _;
}

pub invariant_of-self : goal.invariant_of-self
invariant_of-self g c = omega (arith, c.requires.room, c.loop-self.invariant.filling.within)

pub returns-in_err-count-clause-more : goal.returns-in_err-count-clause-more
returns-in_err-count-clause-more g c =
    filling_still _ _ _ _ _ _ c.loop-self.invariant.filling c.requires.room (g.L.Link.at c.recv.new.self).talk c.recv.new.room c.in_err-count.ensures.kept

pub returns-in_err-count-clause-counts : goal.returns-in_err-count-clause-counts
returns-in_err-count-clause-counts g c = reads_on _ _ _ c.loop-self.invariant.counts c.in_err-count.ensures.counts

pub returns-then-count-eq0-clause-more : goal.returns-then-count-eq0-clause-more
returns-then-count-eq0-clause-more g c =
    let have = c.loop-self.self-inside.have in
    let zero : have + c.in_ok-count.count ≡ have = omega (arith, c.if-count-eq0.true) in
    let filling = filling_more _ _ _ _ _ _ c.loop-self.invariant.filling c.requires.room (g.L.Link.at c.recv.new.self).talk c.recv.new.room c.in_ok-count.count
    c.recv.auto.room c.in_ok-count.ensures.count c.in_ok-count.ensures.left c.in_ok-count.ensures.room c.in_ok-count.ensures.taken in
    subst (λ n. HoldsMore (g.L.Link.at c.args.link.now).talk (g.L.Link.at c.recv.new.self).talk c.args.self.now
    (take n (put_mid have (c.args.most - have) c.loop-self.self-inside.room c.recv.new.room))) zero filling.more

pub loop-self-preserved : goal.loop-self-preserved
loop-self-preserved g c = record {
  filling = filling_more _ _ _ _ _ _ c.loop-self.invariant.filling c.requires.room (g.L.Link.at c.recv.new.self).talk c.recv.new.room c.in_ok-count.count
      c.recv.auto.room c.in_ok-count.ensures.count c.in_ok-count.ensures.left c.in_ok-count.ensures.room c.in_ok-count.ensures.taken;
  counts = reads_on _ _ _ c.loop-self.invariant.counts c.in_ok-count.ensures.counts;
}
