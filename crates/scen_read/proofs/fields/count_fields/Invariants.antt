use Rattle.std.proofs.Common.{◌≡◌, ◌+◌, length}
use Rattle.scen_read.specs.Fields.{fields_in}
use Rattle.scen_read.proofs.fields.count_fields.Given as goal

abbrev pub invariant-loop-field : goal.invariant-loop-field
invariant-loop-field l = l.count + length l.fields ≡ length (fields_in l.text)

abbrev pub decreases-loop-field : goal.decreases-loop-field
decreases-loop-field l = length l.fields
