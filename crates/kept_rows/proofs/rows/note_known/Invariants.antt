use Rattle.std.proofs.Common.{All}
use Rattle.kept_rows.specs.Verdicts.{IsOfLane}
use Rattle.kept_rows.proofs.rows.note_known.Given as goal

abbrev pub invariant-loop-lane : goal.invariant-loop-lane
invariant-loop-lane l = All (IsOfLane l.sources l.sets) l.known.items
