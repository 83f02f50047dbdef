use Rattle.follow_node.proofs.Rounding.{round_stops_so, round_unsent}
use Rattle.follow_node.proofs.links.follow_round.Goals as goal

pub returns-in-Ok-clause-fails : goal.returns-in-Ok-clause-fails
returns-in-Ok-clause-fails g c = round_stops_so c.take_message.result _ _ _ _ _ c.in-Ok.ensures.sent c.take_message.ensures.stops

pub returns-in-Err-clause-fails : goal.returns-in-Err-clause-fails
returns-in-Err-clause-fails g c = round_unsent _ _ _ c.in-Err.ensures.part
