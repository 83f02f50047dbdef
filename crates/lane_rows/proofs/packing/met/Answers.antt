use Rattle.std.proofs.Common.{bit_and, get_or, subst, sym, arith}
use Rattle.std.proofs.lemmas.Simd.{get_or-zip2}
use Rattle.run_pack.specs.Sets.{IsShared}
use Rattle.run_pack.proofs.SetLemmas.{IsShared-and}
use Rattle.lane_rows.proofs.packing.met.Goals as goal

pub returns-clause-shared : goal.returns-clause-shared
returns-clause-shared c = λ lane l.
    subst (λ both. IsShared both (get_or c.args.a lane 0) (get_or c.args.b lane 0))
    (sym (get_or-zip2 bit_and c.args.a c.args.b lane 0 0 0 (omega arith) (omega arith))) (IsShared-and (get_or c.args.a lane 0) (get_or c.args.b lane 0))
