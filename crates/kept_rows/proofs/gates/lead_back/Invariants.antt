use Rattle.std.proofs.Common.{ℕ, ◌<◌, ◌+◌, get_or, length}
use Rattle.kept_rows.specs.Gates.{LeadsBack}
use Rattle.kept_rows.proofs.gates.lead_back.Given as goal

abbrev pub invariant-loop-number : goal.invariant-loop-number
invariant-loop-number l = (k : ℕ) → k < l.number → get_or l.edges k 0 < length l.cut.side.items + length l.gaps → LeadsBack l.gaps (length l.cut.side.items) l.cut.side.items l.cut.gates (get_or l.edges k 0)
