use Rattle.scen_read.proofs.LengthLemmas.{AreReadTo}
use Rattle.scen_read.proofs.length.decimals_in.Given as goal

abbrev pub invariant-loop-byte : goal.invariant-loop-byte
invariant-loop-byte l = AreReadTo l.digits l.byte-index l.nanos l.unit
