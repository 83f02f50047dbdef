use Rattle.near_rows.proofs.Greatest.{IsWidestTo}
use Rattle.near_rows.proofs.near_version.widest_of.Given as goal

abbrev pub invariant-loop-near : goal.invariant-loop-near
invariant-loop-near l = IsWidestTo l.nearby l.near-index l.widest
