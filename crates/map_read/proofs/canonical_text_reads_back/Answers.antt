use Rattle.map_read.proofs.CanonicalLemmas.{canonical_reads_back}
use Rattle.map_read.proofs.canonical_text_reads_back.Goals as goal

pub returns : goal.returns
returns c = canonical_reads_back
