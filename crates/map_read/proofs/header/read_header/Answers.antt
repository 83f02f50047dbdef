use Rattle.std.proofs.Common.{drop, refl, sym}
use Rattle.std.proofs.lemmas.Result.{err_from_is_err_and}
use Rattle.map_read.proofs.SideLemmas.{AreTaken, sides_taken, header_no_type, header_no_sides, taken_no_map, taken_yes}
use Rattle.map_read.proofs.header.read_header.Goals as goal

pub returns-then-not-is_type_line-clause-sides : goal.returns-then-not-is_type_line-clause-sides
returns-then-not-is_type_line-clause-sides c = header_no_type c.args.lines.now (rw c.next_or_empty.ensures.line at (sym c.if-not-is_type_line.ensures))

pub returns-in_err-sides-clause-sides : goal.returns-in_err-sides-clause-sides
returns-in_err-sides-clause-sides c =
    let lines = c.args.lines.now in
    let one = c.next_or_empty.new.self in
    let two = c.next_or_empty-second.new.self in
    let taken : AreTaken lines one two (drop 1 two) = record { first = c.next_or_empty.ensures.rest; second = c.next_or_empty-second.ensures.rest; third = refl } in
    let kind = rw c.next_or_empty.ensures.line at (sym c.if-not-is_type_line.ensures) in
    let sides = sides_taken lines one two (drop 1 two) taken _ _ _ c.in_err-sides.ensures.sides c.next_or_empty-second.ensures.line c.next_or_empty-third.ensures.line in
    let p = err_from_is_err_and c.from_residual.result c.from_residual.ensures.1 in
    rw (p.1, p.2) (header_no_sides lines c.in_err-sides.field-0.0 kind sides)

pub returns-then-not-is_map_line-clause-sides : goal.returns-then-not-is_map_line-clause-sides
returns-then-not-is_map_line-clause-sides c =
    taken_no_map c.args.lines.now c.next_or_empty.new.self c.next_or_empty-second.new.self c.next_or_empty-third.new.self
    (record { first = c.next_or_empty.ensures.rest; second = c.next_or_empty-second.ensures.rest; third = c.next_or_empty-third.ensures.rest })
    _ _ _ _ c.next_or_empty.ensures.line c.next_or_empty-second.ensures.line c.next_or_empty-third.ensures.line
    c.next_or_empty-2.ensures.line _ (sym c.if-not-is_type_line.ensures) c.in_ok-sides.ensures.sides (sym c.if-not-is_map_line.ensures)

pub returns-clause-sides : goal.returns-clause-sides
returns-clause-sides c =
    taken_yes c.args.lines.now c.next_or_empty.new.self c.next_or_empty-second.new.self c.next_or_empty-third.new.self
    (record { first = c.next_or_empty.ensures.rest; second = c.next_or_empty-second.ensures.rest; third = c.next_or_empty-third.ensures.rest })
    _ _ _ _ c.next_or_empty.ensures.line c.next_or_empty-second.ensures.line c.next_or_empty-third.ensures.line
    c.next_or_empty-2.ensures.line _ (sym c.if-not-is_type_line.ensures) c.in_ok-sides.ensures.sides (sym c.if-not-is_map_line.ensures)
