use Rattle.std.proofs.Common.{[], ◌∷◌, refl, subst}
use Rattle.query_proto.specs.Frames.{StandsAtFront}
use Rattle.query_proto.specs.declared.kinds.TheConstants as kind
use Rattle.query_proto.proofs.replies.put_edit_refused.Goals as goal

pub returns-clause-front : goal.returns-clause-front
returns-clause-front c =
    subst (λ b. StandsAtFront (kind.EDIT_REFUSED ∷ b ∷ []) c.args.out.now c.put_byte.new.out c.put_byte.result) c.number_of_refusal.ensures
    (c.put_byte.ensures.grows (kind.EDIT_REFUSED ∷ []) c.args.out.now (c.put_byte-at.ensures.grows [] c.args.out.now (refl, refl)))
