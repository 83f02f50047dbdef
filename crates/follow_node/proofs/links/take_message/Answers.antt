use Rattle.std.proofs.Common.{◌∙◌, arith}
use Rattle.wire.proofs.Counting.{reads_on}
use Rattle.follow_node.proofs.Messages.{left_falls, piece_begun, taking_more, taking_stops}
use Rattle.follow_node.proofs.links.take_message.Goals as goal

pub wanted-wanted-requires : goal.wanted-wanted-requires
wanted-wanted-requires g c =
    piece_begun _ _ _ _ _ c.requires.even c.requires.open c.loop-wanted.invariant.taking (omega (arith, c.loop-wanted-test.true)) _ _ c.in-Ok.ensures.piece

pub loop-wanted-smaller : goal.loop-wanted-smaller
loop-wanted-smaller g c =
    left_falls _ _ _ _ _ c.requires.even c.requires.open c.loop-wanted.invariant.taking (omega (arith, c.loop-wanted-test.true)) _ _ c.in-Ok.ensures.piece
    c.wanted-wanted.result c.wanted-wanted.ensures

pub loop-wanted-preserved : goal.loop-wanted-preserved
loop-wanted-preserved g c = record {
  taking = taking_more _ _ _ _ _ c.requires.even c.requires.open c.loop-wanted.invariant.taking (omega (arith, c.loop-wanted-test.true)) _ _ c.in-Ok.ensures.piece
      c.wanted-wanted.result c.wanted-wanted.ensures;
  long = c.in-Ok.ensures.room ∙ c.loop-wanted.invariant.long;
  counts = reads_on _ _ _ c.loop-wanted.invariant.counts c.in-Ok.ensures.counts;
}

pub returns-in-Err-clause-stops : goal.returns-in-Err-clause-stops
returns-in-Err-clause-stops g c =
    taking_stops _ _ _ _ _ c.requires.even c.requires.open c.loop-wanted.invariant.taking (omega (arith, c.loop-wanted-test.true)) _ _ c.in-Err.fault
    c.in-Err.ensures.none
