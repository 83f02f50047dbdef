use Rattle.path_client.proofs.Hearings.{path_heard_all}
use Rattle.path_client.proofs.hearing.moves_in.Goals as goal

pub returns-in-Path : goal.returns-in-Path
returns-in-Path c =
    path_heard_all c.args.reply c.in-Path.version c.in-Path.cost c.args.frame.now c.of_numbers.result c.in-Path.is c.requires c.of_numbers.ensures
