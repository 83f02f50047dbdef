use Rattle.std.proofs.Common.{inr}
use Rattle.path_commands.specs.Asks.{house_over}
use Rattle.node_commands.proofs.FollowEnds.{house_cause}
use Rattle.node_commands.proofs.FollowLemmas.{called_some}
use Rattle.node_commands.proofs.following.follow_leader.Goals as goal

-- the map came, and so there is a board
pub board_of-requires : goal.board_of-requires
board_of-requires g c = called_some _ c.args.asked c.call_leader.new.follower
    (rw c.in-Ok-Ok.field-0-is at c.in-Ok-Ok.ensures.calls)

pub returns-in-Ok-Err-clause-refused : goal.returns-in-Ok-Err-clause-refused
returns-in-Ok-Err-clause-refused g c = inr (record {
  why = c.in-Ok-Err.fault;
  is = c.status_followed.ensures;
  follower = c.call_leader.new.follower;
  calls = rw c.in-Ok-Err.field-0-is at c.in-Ok-Err.ensures.calls;
  rose = house_cause
      (house_over g.H.Door.Door.at g.H.Conn.Link.at (g.H.House.at c.args.house.now) (g.H.House.at c.call_leader.new.house))
      c.in-Ok-Err.fault (rw c.in-Ok-Err.field-0-is at c.in-Ok-Err.ensures.reads) (rw c.in-Ok-Err.field-0-is at c.in-Ok-Err.ensures.writes);
})
