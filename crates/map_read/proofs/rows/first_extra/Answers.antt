use Rattle.std.proofs.Common.{ℕ, List, length, sym, ap, ◌∙◌, arith}
use Rattle.map_read.specs.MapText.{extra_in}
use Rattle.map_read.proofs.RowLemmas.{extra_none, extra_here, extra_later}
use Rattle.map_read.proofs.rows.first_extra.Goals as goal

pub returns-then-not-is_blank : goal.returns-then-not-is_blank
returns-then-not-is_blank c =
    let here = ap (extra_in c.loop-next.next) c.in-Some.ensures.line ∙ extra_here c.loop-next.next c.in-Some.line.now c.next.new.self (sym c.if-not-is_blank.ensures) in
    sym here ∙ c.loop-next.invariant.0

pub loop-next-preserved : goal.loop-next-preserved
loop-next-preserved c =
    let later = ap (extra_in c.loop-next.next) c.in-Some.ensures.line ∙ extra_later c.loop-next.next c.in-Some.line.now c.next.new.self (sym c.if-not-is_blank.ensures) in
    let count = ap (λ (ls : List (List ℕ)). length ls) c.in-Some.ensures.line in
    (sym later ∙ c.loop-next.invariant.0, omega (arith, count, c.loop-next.invariant.1))

pub returns : goal.returns
returns c = sym (extra_none c.loop-next.next) ∙ sym (ap (extra_in c.loop-next.next) c.in_default.ensures.line) ∙ c.loop-next.invariant.0
