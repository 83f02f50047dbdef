use Rattle.std.proofs.Common.{sym}
use Rattle.kept_rows.proofs.gates.ask_gates.Goals as goal

pub returns-clause-judged : goal.returns-clause-judged
returns-clause-judged c = rw (sym c.search.ensures.whole, sym c.search.ensures.part) c.keep_beyond.ensures
