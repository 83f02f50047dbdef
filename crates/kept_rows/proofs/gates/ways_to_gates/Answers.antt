use Rattle.kept_rows.proofs.GateLoops.{agrees}
use Rattle.kept_rows.proofs.gates.ways_to_gates.Goals as goal

pub returns-then-are_equal_sets : goal.returns-then-are_equal_sets
returns-then-are_equal_sets c = agrees _ _ _ _ _ _ _ _ _ c.place_past-there.ensures.past c.requires.apart c.in-Some.ensures c.keys.ensures (c.are_equal_keys.ensures c.if-are_equal_keys.true)
    c.first_sets-sets.ensures.sets c.first_sets.ensures.sets (c.are_equal_sets.ensures c.if-are_equal_sets.true)
