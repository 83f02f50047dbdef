use Rattle.cell_order.proofs.DepthBound.{no_bound_shows}
use Rattle.cell_order.proofs.visits_have_no_bound.Goals as goal

pub returns : goal.returns
returns c = no_bound_shows
