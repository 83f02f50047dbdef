use Rattle.session.proofs.Cutting.{begun_short, not_whole}
use Rattle.session.proofs.Talking.{holds_then}
use Rattle.session.proofs.frames.Held.next_frame.Goals as goal

pub returns-in-Ok-true-clause-more : goal.returns-in-Ok-true-clause-more
returns-in-Ok-true-clause-more g c =
    holds_then _ _ _ _ _ _ c.in-Ok-true.ensures.more c.rest_of_frame.ensures.more

pub returns-in-Ok-false-clause-next : goal.returns-in-Ok-false-clause-next
returns-in-Ok-false-clause-next g c =
    c.without_length.ensures.next c.args.limit c.args.ahead (g.L.Link.at c.fill.new.link).talk (not_whole _ _ c.in-Ok-false.field-0 c.in-Ok-false.field-0-test c.in-Ok-false.ensures.whole).1

pub returns-in-Ok-false-clause-cause : goal.returns-in-Ok-false-clause-cause
returns-in-Ok-false-clause-cause g c = c.without_length.ensures.cause (g.L.Link.at c.args.link.now) (g.L.Link.at c.fill.new.link)

pub returns-in-Err-clause-next : goal.returns-in-Err-clause-next
returns-in-Err-clause-next g c = begun_short c.args.limit c.fill.new.self c.in-Err.ensures.fault
