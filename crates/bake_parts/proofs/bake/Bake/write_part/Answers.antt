use Rattle.std.proofs.Common.{arith}
use Rattle.bake_parts.proofs.Parting.{too_small, written}
use Rattle.bake_parts.proofs.bake.Bake.write_part.Goals as goal

pub returns-then-needed-room-clause-fault : goal.returns-then-needed-room-clause-fault
returns-then-needed-room-clause-fault c =
    let over = c.if-needed-room.true in
    too_small _ c.args.sources c.in-Some.component.now c.in-Some.ensures.some c.in-Some.ensures.has c.in_ok-needed.needed c.args.room.now c.put_rows.new.room c.in_ok-needed.ensures (omega arith)

pub returns-clause-part : goal.returns-clause-part
returns-clause-part c =
    let fits = c.if-needed-room.false in
    written _ c.args.sources c.in-Some.component.now c.in-Some.ensures.some c.in-Some.ensures.has c.in_ok-needed.needed c.args.room.now c.put_rows.new.room c.in_ok-needed.ensures (omega arith)
