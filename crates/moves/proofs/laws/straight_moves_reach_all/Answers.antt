use Rattle.moves.proofs.StraightPaths.{diagonals_replaceable, straight_moves_reach_all}
use Rattle.moves.proofs.ComponentLaws.{components_are_connected}
use Rattle.moves.proofs.laws.straight_moves_reach_all.Goals as goal

pub returns-clause-each : goal.returns-clause-each
returns-clause-each c = diagonals_replaceable

pub returns-clause-all : goal.returns-clause-all
returns-clause-all c = straight_moves_reach_all

pub returns-clause-inside : goal.returns-clause-inside
returns-clause-inside c = components_are_connected
