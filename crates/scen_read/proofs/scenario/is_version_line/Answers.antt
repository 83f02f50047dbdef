use Rattle.std.proofs.Common.{eqb, sym, ap, ◌∙◌}
use Rattle.std.specs.Cmp.Lexicographic.{pointwise}
use Rattle.scen_read.proofs.ScenarioLemmas.{version_told, version_other, version_none}
use Rattle.scen_read.proofs.scenario.is_version_line.Goals as goal

pub returns-then-eq : goal.returns-then-eq
returns-then-eq c =
    let first = sym (c.if-eq.ensures ∙ ap (pointwise eqb c.in-Some.name.now) c.as_slice.ensures) in
    c.says_one.ensures ∙ sym (version_told c.args.line.now c.in-Some.name.now c.in-Some.number.now c.in-Some.ensures first)

pub returns-else-eq : goal.returns-else-eq
returns-else-eq c =
    let first = sym (c.if-eq.ensures ∙ ap (pointwise eqb c.in-Some.name.now) c.as_slice.ensures) in
    c.if-eq.false ∙ sym (version_other c.args.line.now c.in-Some.name.now c.in-Some.number.now c.in-Some.ensures first)

pub returns-in-None : goal.returns-in-None
returns-in-None c = sym (version_none c.args.line.now c.in-None.ensures)
