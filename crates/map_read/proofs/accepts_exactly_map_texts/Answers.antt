use Rattle.map_read.proofs.AcceptedLemmas.{accepts_map_texts}
use Rattle.map_read.proofs.accepts_exactly_map_texts.Goals as goal

pub returns : goal.returns
returns c = accepts_map_texts
