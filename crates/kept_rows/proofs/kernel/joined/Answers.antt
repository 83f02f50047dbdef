use Rattle.std.proofs.Common.{subst, sym, ◌↔◌, ◌⊎◌, bit_or, get_or, arith}
use Rattle.std.proofs.lemmas.Simd.{get_or-zip2}
use Rattle.moves.specs.MoveSets.{Has}
use Rattle.moves.proofs.MovesInSets.{Has-join}
use Rattle.kept_rows.proofs.kernel.joined.Goals as goal

pub returns : goal.returns
returns c = λ lane first l.
    subst (λ s. Has s first ↔ (Has (get_or c.args.a lane 0) first ⊎ Has (get_or c.args.b lane 0) first))
    (sym (get_or-zip2 bit_or c.args.a c.args.b lane 0 0 0 (omega arith) (omega arith))) (Has-join (get_or c.args.a lane 0) (get_or c.args.b lane 0) first)
