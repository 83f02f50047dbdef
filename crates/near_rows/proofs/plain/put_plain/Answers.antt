use Rattle.near_rows.proofs.Filling.{done_put}
use Rattle.near_rows.proofs.plain.put_plain.Goals as goal

pub returns-clause-done : goal.returns-clause-done
returns-clause-done c = done_put _ _ _ _ _ c.requires.done c.in_ok-put_source.ensures.part c.in_ok-put_source.ensures.here c.in_ok-put_source.ensures.others
