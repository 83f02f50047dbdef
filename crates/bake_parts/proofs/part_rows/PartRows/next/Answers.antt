use Rattle.bake_parts.proofs.Reading.{row_none, row_read}
use Rattle.bake_parts.proofs.part_rows.PartRows.next.Goals as goal

pub returns-in-Some-clause-row : goal.returns-in-Some-clause-row
returns-in-Some-clause-row c =
    row_read c.args.component c.args.place c.args.size c.args.self.now c.begin.new.self c.row.new.self c.in-Some.row.now c.in_ok-begin.ensures.begun c.in-Some.ensures.left c.in-Some.ensures.some

pub returns-in-None-clause-none : goal.returns-in-None-clause-none
returns-in-None-clause-none c =
    row_none c.args.component c.args.place c.args.size c.args.self.now c.begin.new.self c.in_ok-begin.ensures.begun c.in_ok-begin.ensures.left c.in-None.ensures.none
