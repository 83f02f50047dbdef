use Rattle.session.proofs.Holding.{call_kept, call_then, look_freshens}
use Rattle.session.proofs.answers.holds_published.Goals as goal

pub returns-clause-called : goal.returns-clause-called
returns-clause-called g c = call_then _ _ _ (call_kept _ _ c.recent.ensures.called) c.look.ensures.called

pub returns-clause-freshens : goal.returns-clause-freshens
returns-clause-freshens g c = look_freshens _ _ _ c.look.result c.recent.ensures.called c.recent.ensures.others c.look.ensures.look
