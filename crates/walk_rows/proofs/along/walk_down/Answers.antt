use Rattle.moves.proofs.LawsOfPaths.{leads_to}
use Rattle.walk_rows.proofs.Walking.{under_way_begun, under_way_done}
use Rattle.walk_rows.proofs.along.walk_down.Goals as goal

pub go_on-requires-clause-way : goal.go_on-requires-clause-way
go_on-requires-clause-way c = under_way_begun _ _ _ c.new.ensures.items c.requires.ahead

pub returns-then-is_reached : goal.returns-then-is_reached
returns-then-is_reached c = under_way_done _ _ _ _ c.in_ok-go_on.ensures.way (c.is_reached.ensures.0 c.if-is_reached.true)

pub component_of-requires-clause-goal : goal.component_of-requires-clause-goal
component_of-requires-clause-goal c = leads_to _ _ _ c.requires.ahead.0 c.requires.ahead.1

pub walk_among-requires-clause-home : goal.walk_among-requires-clause-home
walk_among-requires-clause-home c = rw c.deref.ensures.value c.in_ok-cells.ensures.home

pub walk_among-requires-clause-cells : goal.walk_among-requires-clause-cells
walk_among-requires-clause-cells c = rw c.deref.ensures.value c.in_ok-cells.ensures.walked
