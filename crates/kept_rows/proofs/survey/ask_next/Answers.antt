use Rattle.kept_rows.proofs.GateLoops.{surveyed_on}
use Rattle.kept_rows.proofs.survey.ask_next.Goals as goal

pub returns-in_ok-ask_gates-in-Some-clause-surveyed :
    goal.returns-in_ok-ask_gates-in-Some-clause-surveyed
returns-in_ok-ask_gates-in-Some-clause-surveyed c =
    rw (c.ask_gates.ensures.still.gaps, c.ask_gates.ensures.still.whole, c.ask_gates.ensures.still.part)
    (surveyed_on _ _ _ _ _ _ _ _ c.requires.surveyed c.in_ok-ask_gates-in-Some.ensures.judged)
