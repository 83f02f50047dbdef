use Rattle.std.proofs.Common.{string_bytes}
use Rattle.path_replay.proofs.Telling.{IsTold}
use Rattle.path_replay.proofs.answers.push_names.Given as goal

abbrev pub invariant-loop : goal.invariant-loop
invariant-loop l = IsTold l.fn.walk l.walk (string_bytes l.fn.text) (string_bytes l.text) l.counter
