use Rattle.std.proofs.Common.{◌≡◌, ◌*◌, ◌≤◌, take}
use Rattle.near_rows.specs.NearVersions.{near_runs_of}
use Rattle.near_rows.proofs.near_version.runs_of.Given as goal

abbrev pub invariant-loop-near : goal.invariant-loop-near
invariant-loop-near l = (l.runs ≡ near_runs_of (take l.near-index l.nearby)) × (l.runs ≤ l.near-index * 1073741824)
