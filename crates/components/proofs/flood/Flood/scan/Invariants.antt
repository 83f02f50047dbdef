use Rattle.components.proofs.Scanning.{IsScanning}
use Rattle.components.proofs.flood.Flood.scan.Given as goal

abbrev pub invariant-loop-place : goal.invariant-loop-place
invariant-loop-place l = IsScanning l.grid l._place l.number l.self l.starts.items l.cell
