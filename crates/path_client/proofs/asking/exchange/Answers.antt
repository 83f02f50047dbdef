use Rattle.path_client.proofs.Questions.{exchanged_all, exchanged_part}
use Rattle.path_client.proofs.asking.exchange.Goals as goal

pub returns-in-Ok-clause-exchanged : goal.returns-in-Ok-clause-exchanged
returns-in-Ok-clause-exchanged g c = exchanged_all _ _ _ _ c.hear.result c.in-Ok.ensures.whole c.hear.ensures.heard c.hear.ensures.fault

pub returns-in-Err-clause-exchanged : goal.returns-in-Err-clause-exchanged
returns-in-Err-clause-exchanged g c = exchanged_part _ _ _ c.in-Err.ensures.part
