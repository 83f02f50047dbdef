use Rattle.std.proofs.Common.{[], ◌∷◌, ◌∙◌, refl, arith}
use Rattle.query_proto.specs.declared.kinds.TheConstants as kind
use Rattle.query_proto.proofs.Several.{all_put, one_more_put}
use Rattle.query_proto.proofs.changes.put_several.Goals as goal

pub loop-change-init : goal.loop-change-init
loop-change-init c = record {
  front = c.put_byte-next.ensures.grows (kind.CHANGES ∷ []) c.args.out.now (c.put_byte-at.ensures.grows [] c.args.out.now (refl, refl));
  next = omega (arith, c.put_byte-at.ensures.next, c.put_byte-next.ensures.next);
  len = c.put_byte-next.ensures.len ∙ c.put_byte-at.ensures.len;
}

pub loop-change-preserved : goal.loop-change-preserved
loop-change-preserved c = one_more_put _ _ _ _ _ _ _ _ c.loop-change.invariant c.loop-change-test.true c.put_change-next.ensures.grows
    c.put_change-next.ensures.next c.put_change-next.ensures.len

pub returns-clause-frame : goal.returns-clause-frame
returns-clause-frame c = all_put _ _ _ _ _ c.loop-change.invariant (omega (arith, c.loop-change-test.false))
