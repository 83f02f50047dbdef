use Rattle.std.proofs.Common.{◌∙◌, arith}
use Rattle.build_pool.proofs.Filling.{packed_over}
use Rattle.walk_rows.proofs.Lent.{lent_whole}
use Rattle.walk_rows.proofs.bench.Workbench.solve.Goals as goal

pub returns-in_ok-pack-clause-ready : goal.returns-in_ok-pack-clause-ready
returns-in_ok-pack-clause-ready c = record {
  count = c.in_ok-pack.ensures.count ∙ c.run.ensures.count ∙ c.choose.ensures.count ∙ c.requires.ready.count;
  marks =
      (let own = c.args.self.now.wanted.ok.0 in
      let marks = c.requires.ready.marks in
      lent_whole c.args.self.now.wanted.len _ _ (lent_whole c.args.self.now.wanted.len c.mark_from-ahead.new.wanted c.args.self.now.wanted.items (omega arith))
      ∙ omega arith);
  rows = λ _. record {
    sources = λ lane l.
        rw (c.in_ok-pack.ensures.sources, c.run.ensures.sources)
        (omega (arith, c.choose.ensures.sources lane l, c.choose.ensures.count, c.requires.ready.count));
    packed = λ lane l.
        rw c.in_ok-pack.ensures.sources
        (packed_over _ _ _ _ c.requires.table (c.run.ensures.solved c.if-run.true) c.in_ok-pack.ensures.rows lane l);
  };
}
