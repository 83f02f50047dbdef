use Rattle.std.proofs.Common.{eqb, sym, ap, ◌∙◌}
use Rattle.std.specs.Cmp.Lexicographic.{pointwise}
use Rattle.text_lines.specs.Words.{words_of}
use Rattle.text_lines.proofs.WordTests.{has_one_yes, has_one_no, has_none}
use Rattle.map_read.proofs.header.is_map_line.Goals as goal

pub returns-then-eq : goal.returns-then-eq
returns-then-eq c =
    let first = sym (c.if-eq.ensures ∙ ap (pointwise eqb c.in-Some.word.now) c.as_slice.ensures) in
    sym (has_one_yes c.args.line.now c.in-Some.word.now _ (words_of c.in-Some.rest.now)
    c.cut_word-then-eq.result c.is_none.result (λ cut. cut.0.now) (λ cut. cut.1.now)
    c.in-Some.ensures first c.cut_word-then-eq.ensures c.is_none.ensures)

pub returns-else-eq : goal.returns-else-eq
returns-else-eq c =
    let first = sym (c.if-eq.ensures ∙ ap (pointwise eqb c.in-Some.word.now) c.as_slice.ensures) in
    c.if-eq.false ∙ sym (has_one_no c.args.line.now c.in-Some.word.now _ (words_of c.in-Some.rest.now) c.in-Some.ensures first)

pub returns-in-None : goal.returns-in-None
returns-in-None c = sym (has_none c.args.line.now _ c.in-None.ensures)
