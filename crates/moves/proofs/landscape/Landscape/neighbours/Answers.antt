-- One number more was asked.
use Rattle.moves.proofs.Finding.{found_push, found_no_more}
use Rattle.moves.proofs.landscape.Landscape.neighbours.Goals as goal
use Rattle.moves.proofs.landscape.Landscape.neighbours.Goals.{in-Some, in_default}

pub loop-number-preserved : goal.loop-number-preserved
loop-number-preserved c = elim c.match-numbered.branch [
  | in-Some w ↦
      let found = w.in-Some.ensures in
      rw (w.found-is, w.push.ensures.items) (found_push _ _ _ _ w.in-Some.pair c.loop-number.invariant found.legal found.numbered)
  | in_default w ↦
      rw w.found-is (found_no_more _ _ _ _ c.loop-number.invariant w.in_default.ensures.illegal)
]
