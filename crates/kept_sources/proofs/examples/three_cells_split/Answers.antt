use Rattle.kept_sources.proofs.SmallMaps.{left_is_component, only_east}
use Rattle.kept_sources.proofs.examples.three_cells_split.Goals as goal

pub returns-clause-part : goal.returns-clause-part
returns-clause-part c = left_is_component

pub returns-clause-east : goal.returns-clause-east
returns-clause-east c = only_east
