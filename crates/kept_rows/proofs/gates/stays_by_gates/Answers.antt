use Rattle.std.proofs.Common.{sym, subst, ◌∙◌, arith}
use Rattle.std.proofs.lemmas.List.{get_or_default}
use Rattle.kept_rows.specs.Targets.{IsAmong}
use Rattle.kept_rows.proofs.GateKeeping.{gates_keep}
use Rattle.kept_rows.proofs.gates.stays_by_gates.Goals as goal

pub ways_to_gates-requires-clause-apart : goal.ways_to_gates-requires-clause-apart
ways_to_gates-requires-clause-apart c = λ among. c.is_among.ensures.other c.if-is_among.false (subst (λ gates. IsAmong gates 15 c.args.place) c.requires.gates among)

pub returns-in-Some : goal.returns-in-Some
returns-in-Some c = λ kept. gates_keep _ _ _ _ c.requires.are_gates _ c.requires.classes _ _ _ c.requires.place (get_or_default c.args.cut.now.side.items c.args.place _ _ (omega (arith, c.requires.place, c.requires.side)) ∙ sym c.index.ensures ∙ c.if-not-index.false) c.in-Some.ensures (c.are_kept.ensures kept)
