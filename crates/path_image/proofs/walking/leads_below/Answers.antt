use Rattle.path_image.proofs.Targets.{off_neither}
use Rattle.path_image.proofs.walking.leads_below.Goals as goal

pub returns-else-leads_off_west : goal.returns-else-leads_off_west
returns-else-leads_off_west c = off_neither c.args.at c.args.by c.leads_off_north.result c.if-leads_off_west.ensures c.leads_off_north.ensures
