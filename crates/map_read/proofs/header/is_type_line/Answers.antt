use Rattle.std.proofs.Common.{eqb, sym, ap, ◌∙◌}
use Rattle.std.specs.Cmp.Lexicographic.{pointwise}
use Rattle.text_lines.proofs.WordTests.{has_two_yes, has_two_no, has_not_two}
use Rattle.map_read.proofs.header.is_type_line.Goals as goal

pub returns-then-eq : goal.returns-then-eq
returns-then-eq c =
    let first = sym (c.if-eq.ensures ∙ ap (pointwise eqb c.in-Some.first.now) c.as_slice.ensures) in
    c.eq-then-eq.ensures ∙ ap (pointwise eqb c.in-Some.second.now) c.as_slice-then-eq.ensures ∙ sym (has_two_yes c.args.line.now c.in-Some.first.now c.in-Some.second.now _ _ c.in-Some.ensures first)

pub returns-else-eq : goal.returns-else-eq
returns-else-eq c =
    let first = sym (c.if-eq.ensures ∙ ap (pointwise eqb c.in-Some.first.now) c.as_slice.ensures) in
    c.if-eq.false ∙ sym (has_two_no c.args.line.now c.in-Some.first.now c.in-Some.second.now _ _ c.in-Some.ensures first)

pub returns-in-None : goal.returns-in-None
returns-in-None c = sym (has_not_two c.args.line.now _ _ c.in-None.ensures)
