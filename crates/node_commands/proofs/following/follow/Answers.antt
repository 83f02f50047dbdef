use Rattle.std.proofs.Common.{refl}
use Rattle.path_commands.specs.Asks.{house_over}
use Rattle.path_commands.specs.Talks.{input_over}
use Rattle.node_commands.proofs.FollowEnds.{by_bad_feed, by_leader_memory, by_read, none_followed, none_writes, one_followed}
use Rattle.node_commands.proofs.following.follow.Goals as goal

pub returns-in-Ok-clause-read : goal.returns-in-Ok-clause-read
returns-in-Ok-clause-read g c = by_read
    (house_over g.H.Door.Door.at g.H.Conn.Link.at (g.H.House.at c.args.house.now) (g.H.House.at c.follow_leader.new.house))
    c.args.asked
    (input_over (g.L.Link.at c.args.input.now) (g.L.Link.at c.hold_told.new.input)) _ _ c.hold_told.result
    (one_followed _ _ _ _ _ _ c.in-Ok.board c.in-Ok.ensures.followed c.hold_told.ensures.ends)

pub returns-in-Ok-clause-bad_answer : goal.returns-in-Ok-clause-bad_answer
returns-in-Ok-clause-bad_answer g c = by_bad_feed _ _ _ _ _ c.hold_told.result
    (one_followed _ _ _ _ _ _ c.in-Ok.board c.in-Ok.ensures.followed c.hold_told.ensures.ends)

pub returns-in-Ok-clause-leader_memory : goal.returns-in-Ok-clause-leader_memory
returns-in-Ok-clause-leader_memory g c = by_leader_memory _ _ _ _ _ c.hold_told.result
    (one_followed _ _ _ _ _ _ c.in-Ok.board c.in-Ok.ensures.followed c.hold_told.ensures.ends)

pub returns-in-Err-clause-read : goal.returns-in-Err-clause-read
returns-in-Err-clause-read g c = by_read
    (house_over g.H.Door.Door.at g.H.Conn.Link.at (g.H.House.at c.args.house.now) (g.H.House.at c.follow_leader.new.house))
    c.args.asked
    (input_over (g.L.Link.at c.args.input.now) (g.L.Link.at c.args.input.now)) _ _ c.tell_cause.result
    (none_followed _ _ _ _ _ _ c.in-Err.cause c.in-Err.ensures.refused refl
    c.tell_cause.ensures.put)

pub returns-in-Err-clause-write : goal.returns-in-Err-clause-write
returns-in-Err-clause-write g c = λ write. none_writes
    (house_over g.H.Door.Door.at g.H.Conn.Link.at (g.H.House.at c.args.house.now) (g.H.House.at c.follow_leader.new.house))
    c.args.asked
    (input_over (g.L.Link.at c.args.input.now) (g.L.Link.at c.args.input.now))
    c.in-Err.cause _ _ c.in-Err.ensures.refused (c.tell_cause.ensures.write write)

pub returns-in-Err-clause-bad_answer : goal.returns-in-Err-clause-bad_answer
returns-in-Err-clause-bad_answer g c = by_bad_feed _ _
    (input_over (g.L.Link.at c.args.input.now) (g.L.Link.at c.args.input.now)) _ _ c.tell_cause.result
    (none_followed _ _ _ _ _ _ c.in-Err.cause c.in-Err.ensures.refused refl
    c.tell_cause.ensures.put)

pub returns-in-Err-clause-leader_memory : goal.returns-in-Err-clause-leader_memory
returns-in-Err-clause-leader_memory g c = by_leader_memory _ _
    (input_over (g.L.Link.at c.args.input.now) (g.L.Link.at c.args.input.now)) _ _ c.tell_cause.result
    (none_followed _ _ _ _ _ _ c.in-Err.cause c.in-Err.ensures.refused refl
    c.tell_cause.ensures.put)
