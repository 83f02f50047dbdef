use Rattle.components.proofs.Marking.{room_for}
use Rattle.components.proofs.Claiming.{is_fresh, claimed_fresh}
use Rattle.components.proofs.flood.Flood.claim.Goals as goal

pub mark-requires-clause-room : goal.mark-requires-clause-room
mark-requires-clause-room c =
    room_for _ _ _ c.requires.balanced
    (is_fresh _ c.args.label _ c.args.by _ _ c.in-Some.ensures.inside.0 _ c.requires.class c.requires.from
    c.in-Some.ensures.inside.1 (c.is_fresh_of.ensures.0 c.if-is_fresh_of.true))

pub returns-then-is_fresh_of-clause-claimed : goal.returns-then-is_fresh_of-clause-claimed
returns-then-is_fresh_of-clause-claimed c =
    rw c.mark.ensures
    (claimed_fresh _ _ _ _ _ _ c.in-Some.ensures.inside.0 _ c.requires.class c.requires.from c.in-Some.ensures.inside.1
    (c.is_fresh_of.ensures.0 c.if-is_fresh_of.true) c.requires.straight)
