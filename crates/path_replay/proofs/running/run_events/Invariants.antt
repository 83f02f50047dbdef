use Rattle.std.proofs.Common.{string_bytes}
use Rattle.path_replay.proofs.Replaying.{IsReplayedTo}
use Rattle.path_replay.proofs.running.run_events.Given as goal

abbrev pub invariant-loop-place : goal.invariant-loop-place
invariant-loop-place l = IsReplayedTo l.fn.board l.events l.place (string_bytes l.text) l.board l.passes.items
