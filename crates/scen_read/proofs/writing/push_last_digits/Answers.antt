use Rattle.std.proofs.Common.{◌-◌, arith}
use Rattle.std.proofs.Math.Nat.{one-le-pow}
use Rattle.scen_read.proofs.WritingLemmas.{digits_more, digits_all}
use Rattle.scen_read.proofs.writing.push_last_digits.Goals as goal

pub nonzero_div-digit : goal.nonzero_div-digit
nonzero_div-digit c = rw c.pow.ensures (one-le-pow (8 - c.loop-place.place) 10 (omega arith))

pub loop-place-preserved : goal.loop-place-preserved
loop-place-preserved c =
    digits_more c.loop-place.text.items _ _ c.loop-place.place c.args.number c.loop-place-test.true (rw (← c.pow.ensures) c.in_ok-push.ensures.items) c.loop-place.invariant

pub returns : goal.returns
returns c = digits_all c.loop-place.text.items _ c.loop-place.place c.args.number c.loop-place-test.false c.loop-place.invariant
