use Rattle.std.proofs.Common.{arith}
use Rattle.bake_parts.proofs.Reading.{head_none, head_read}
use Rattle.bake_parts.proofs.part_rows.PartRows.begin.Goals as goal

pub returns-in-Some-clause-begun : goal.returns-in-Some-clause-begun
returns-in-Some-clause-begun c =
    let none = c.if-self-gt0.false in
    let some = c.in-Some.ensures.some in
    head_read _ _ _ _ _ _ some.0 c.requires (omega arith) some.1

pub returns-in-None-clause-none : goal.returns-in-None-clause-none
returns-in-None-clause-none c =
    let none = c.if-self-gt0.false in
    head_none _ _ _ _ _ c.requires (omega arith) c.in-None.ensures.none
