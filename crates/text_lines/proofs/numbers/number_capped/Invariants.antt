use Rattle.text_lines.proofs.NumberLemmas.{IsReadTo}
use Rattle.text_lines.proofs.numbers.number_capped.Given as goal

abbrev pub invariant-loop-byte : goal.invariant-loop-byte
invariant-loop-byte l = IsReadTo l.most l.word l.byte-index l.number
