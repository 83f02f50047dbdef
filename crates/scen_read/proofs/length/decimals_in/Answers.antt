use Rattle.std.proofs.Common.{◌<◌, length, sym, arith}
use Rattle.std.proofs.lemmas.Bool.{eqb-false}
use Rattle.scen_read.proofs.LengthLemmas.{read_all}
use Rattle.scen_read.proofs.length.decimals_in.Goals as goal

pub returns-clause-decimals : goal.returns-clause-decimals
returns-clause-decimals c =
    let some : 0 < length c.args.digits.now = omega (arith, eqb-false (length c.args.digits.now) 0 (sym c.if-is_empty.ensures)) in
    sym (read_all c.args.digits.now c.loop-byte.byte-index c.loop-byte.nanos c.loop-byte.unit some c.loop-byte-test.false c.loop-byte.invariant)
