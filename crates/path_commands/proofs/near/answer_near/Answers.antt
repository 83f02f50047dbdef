use Rattle.std.proofs.Common.{ap, ◌∙◌}
use Rattle.path_commands.specs.Texts.{check_text}
use Rattle.path_commands.proofs.NearTelling.{near_of_itself, tells_near}
use Rattle.path_commands.proofs.near.answer_near.Goals as goal

pub returns : goal.returns
returns c = tells_near _ _ _ _ (near_of_itself _ c.version.ensures.near) (c.in_ok-text.ensures ∙ ap check_text c.version.ensures.version) c.in_ok-push_near.ensures
