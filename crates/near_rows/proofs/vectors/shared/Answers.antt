use Rattle.std.proofs.Common.{subst, sym, ◌↔◌, ◌≤◌, bit_and, get_or, arith}
use Rattle.std.proofs.lemmas.Nat.{and_le_l}
use Rattle.std.proofs.lemmas.Simd.{get_or-zip2}
use Rattle.moves.specs.MoveSets.{Has}
use Rattle.moves.proofs.MovesInSets.{Has-meet}
use Rattle.near_rows.proofs.vectors.shared.Goals as goal

pub returns-clause-both : goal.returns-clause-both
returns-clause-both c = λ lane move l.
    subst (λ s. Has s move ↔ (Has (get_or c.args.a lane 0) move × Has (get_or c.args.b lane 0) move))
    (sym (get_or-zip2 bit_and c.args.a c.args.b lane 0 0 0 (omega arith) (omega arith))) (Has-meet (get_or c.args.a lane 0) (get_or c.args.b lane 0) move)

pub returns-clause-most : goal.returns-clause-most
returns-clause-most c = λ lane l.
    subst (λ s. s ≤ get_or c.args.a lane 0) (sym (get_or-zip2 bit_and c.args.a c.args.b lane 0 0 0 (omega arith) (omega arith)))
    (and_le_l (get_or c.args.a lane 0) (get_or c.args.b lane 0))
