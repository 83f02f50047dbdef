use Rattle.row_edit.proofs.Reading.{border_read}
use Rattle.row_edit.proofs.span.border.Goals as goal

pub returns-in-Some : goal.returns-in-Some
returns-in-Some c =
    let read = c.in-Some.ensures.lookup in
    border_read c.args.words.now c.args.places c.args.number _ read.3.0 read.1
