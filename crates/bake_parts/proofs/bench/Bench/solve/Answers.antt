use Rattle.std.proofs.Common.{◌∙◌, arith}
use Rattle.std.proofs.lemmas.Bool.{false≢true}
use Rattle.build_pool.proofs.Filling.{packed_over}
use Rattle.walk_rows.proofs.Lent.{lent_whole}
use Rattle.bake_parts.proofs.bench.Bench.solve.Goals as goal

pub returns-in_ok-pack-clause-ready : goal.returns-in_ok-pack-clause-ready
returns-in_ok-pack-clause-ready c = record {
  count = c.in_ok-pack.ensures.count ∙ c.run.ensures.count ∙ c.choose.ensures.count ∙ c.requires.ready.count;
  marks =
      (let own = c.args.self.now.wanted.ok.0 in
      let marks = c.requires.ready.marks in
      lent_whole c.args.self.now.wanted.len _ _ (lent_whole c.args.self.now.wanted.len c.want_from.new.wanted c.args.self.now.wanted.items (omega arith))
      ∙ omega arith);
  rows = λ _. λ lane l.
      rw c.in_ok-pack.ensures.sources
      (packed_over _ _ _ _ c.near-near.ensures (c.run.ensures.solved c.if-run.true) c.in_ok-pack.ensures.rows lane l);
}

pub returns-else-run-clause-ready : goal.returns-else-run-clause-ready
returns-else-run-clause-ready c = record {
  count = c.run.ensures.count ∙ c.choose.ensures.count ∙ c.requires.ready.count;
  marks =
      (let own = c.args.self.now.wanted.ok.0 in
      let marks = c.requires.ready.marks in
      lent_whole c.args.self.now.wanted.len _ _ (lent_whole c.args.self.now.wanted.len c.want_from.new.wanted c.args.self.now.wanted.items (omega arith))
      ∙ omega arith);
  rows = λ has. absurd (false≢true has);
}
