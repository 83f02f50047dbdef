use Rattle.std.proofs.Common.{◌≡◌, ◌++◌, ◌-◌}
use Rattle.scen_read.specs.Written.{last_digits}
use Rattle.scen_read.proofs.writing.push_last_digits.Given as goal

abbrev pub invariant-loop-place : goal.invariant-loop-place
invariant-loop-place l = l.text.items ++ last_digits (9 - l.place) l.number ≡ l.initial.text.items ++ last_digits 9 l.number
