use Rattle.path_commands.specs.Asks.{house_over}
use Rattle.path_commands.proofs.AskLemmas.{calls_server}
use Rattle.path_commands.proofs.ask.hear.Goals as goal

pub returns-clause-calls : goal.returns-clause-calls
returns-clause-calls g c = record {
  request = c.request.result;
  says = c.request.ensures;
  calls = calls_server (house_over g.H.Door.Door.at g.H.Conn.Link.at (g.H.House.at c.args.house.now) (g.H.House.at c.ask_at.new.house))
      c.args.asked.port c.request.result c.ask_at.result c.ask_at.ensures.heard c.ask_at.ensures.fault;
}
