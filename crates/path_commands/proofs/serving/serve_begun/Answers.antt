use Rattle.std.proofs.Common.{ap}
use Rattle.path_commands.proofs.ServingLemmas.{house_rose, unclosed_of}
use Rattle.path_commands.proofs.serving.serve_begun.Goals as goal

pub serve_board-requires-clause-open : goal.serve_board-requires-clause-open
serve_board-requires-clause-open g c κs within = unclosed_of g.H.Door.Door.at c.args.opened.doors.items c.requires.unknocked

-- a knock has failed then, and the house counts it as the doors are handed back
pub returns-in-Ok-clause-fault : goal.returns-in-Ok-clause-fault
returns-in-Ok-clause-fault g c = λ fault.
    house_rose g.H.Door.Door.at c.args.opened.doors.items c.in-Ok.served.doors.items _ _ c.in-Ok.ensures.served.long c.requires.unknocked
    (c.in-Ok.ensures.failed.some (c.put_closing.ensures.fault fault)) (ap (λ house. house.door_faults) c.shut.ensures.back)
