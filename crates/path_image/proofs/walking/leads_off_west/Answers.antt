use Rattle.std.proofs.Common.{sym, ◌∙◌}
use Rattle.path_image.proofs.Targets.{off_west}
use Rattle.path_image.proofs.walking.leads_off_west.Goals as goal

pub returns : goal.returns
returns c = off_west c.args.at c.args.by (sym c.is_west.ensures ∙ c.if-not-is_west.false)
