use Rattle.components.proofs.Labelled.{labels_where_passable}
use Rattle.components.proofs.labels_are_where_passable.Goals as goal

pub returns : goal.returns
returns c = labels_where_passable
