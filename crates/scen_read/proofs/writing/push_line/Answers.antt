use Rattle.scen_read.proofs.WritingLemmas.{line_written}
use Rattle.scen_read.proofs.writing.push_line.Goals as goal

pub returns : goal.returns
returns c =
    rw (
      c.in_ok-push-2.ensures.items,
      c.in_ok-push_last_digits.ensures,
      c.in_ok-push_number-4.ensures,
      c.in_ok-push_cell-2.ensures,
      c.in_ok-push_cell.ensures,
      c.in_ok-push_number-3.ensures,
      c.in_ok-push_number-2.ensures,
      c.in_ok-push.ensures.items,
      c.in_ok-extend_from_slice.ensures.items,
      c.bytes.ensures,
      c.in_ok-push_number.ensures,
      c.from.ensures,
      c.from-2.ensures,
      c.from-3.ensures,
    ) (line_written c.args.text.now.items c.args.line.now)
