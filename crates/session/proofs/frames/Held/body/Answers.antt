use Rattle.std.proofs.Common.{inr}
use Rattle.session.proofs.Cutting.{frame_holds, is_whole, not_whole, part_holds, stops_torn}
use Rattle.session.proofs.frames.Held.body.Goals as goal

pub returns-in-Ok-true-clause-next : goal.returns-in-Ok-true-clause-next
returns-in-Ok-true-clause-next g c = λ limit within.
    frame_holds _ _ c.args.self.now c.fill.new.self c.args.size c.requires.fits c.requires.held c.requires.size c.in-Ok-true.ensures.more
    limit within c.args.ahead c.most_wanted.result (is_whole _ _ c.in-Ok-true.field-0 c.in-Ok-true.field-0-test c.in-Ok-true.ensures.whole) c.in-Ok-true.ensures.most
    c.most_wanted.ensures.most c.most_wanted.ensures.last c.most_wanted.ensures.alone

pub returns-in-Ok-false-clause-next : goal.returns-in-Ok-false-clause-next
returns-in-Ok-false-clause-next g c = λ limit within.
    let short = not_whole _ _ c.in-Ok-false.field-0 c.in-Ok-false.field-0-test c.in-Ok-false.ensures.whole in
    stops_torn (g.L.Link.at c.args.link.now).talk (g.L.Link.at c.fill.new.link).talk c.args.self.now c.fill.new.self c.args.size c.requires.fits c.requires.held c.requires.size
    c.in-Ok-false.ensures.more limit within c.torn.result c.torn.ensures short.0 short.1

pub returns-in-Err-clause-next : goal.returns-in-Err-clause-next
returns-in-Err-clause-next g c = λ limit within.
    inr (
      _,
      part_holds _ _ c.args.self.now c.fill.new.self c.args.size c.requires.fits c.requires.held c.requires.size c.in-Err.ensures.more
          limit within c.in-Err.ensures.fault,
    )
