use Rattle.kept_sources.proofs.SmallMaps.{row_pocket}
use Rattle.kept_sources.proofs.examples.end_of_a_row_is_a_pocket.Goals as goal

pub returns : goal.returns
returns c = row_pocket
