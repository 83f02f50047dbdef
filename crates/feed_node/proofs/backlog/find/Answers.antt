use Rattle.path_core.proofs.Passing.{others_begin}
use Rattle.feed_node.proofs.Backlogs.{backlog_stays, full_answers}
use Rattle.feed_node.proofs.Holding.{since_kept}
use Rattle.feed_node.proofs.backlog.find.Goals as goal

pub returns-in-Some-clause-backlog : goal.returns-in-Some-clause-backlog
returns-in-Some-clause-backlog g c = backlog_stays _ _ (others_begin _ _ _ c.fresh-moved.ensures.others) _ _ c.requires.backlog

pub returns-in-Some-clause-answers : goal.returns-in-Some-clause-answers
returns-in-Some-clause-answers g c =
    let grows = others_begin _ _ _ c.fresh-moved.ensures.others in
    full_answers _ _ _ _ _ _ c.ranges.known.fits grows (backlog_stays _ _ grows _ _ c.requires.backlog) c.in-Some.ensures

pub returns-in-Some-clause-held : goal.returns-in-Some-clause-held
returns-in-Some-clause-held g c = since_kept _ _ c.fresh-moved.ensures.kept
