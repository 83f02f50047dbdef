use Rattle.std.proofs.Common.{string_bytes, bytes_eq, ◌∙◌}
use Rattle.wire.proofs.NamedFiles.{position_or_end, place_named}
use Rattle.wire.proofs.mem_files.place_in.Goals as goal

pub returns-clause-place : goal.returns-clause-place
returns-clause-place c =
    rw c.unwrap_or.ensures (rw c.find.ensures (position_or_end (λ file. bytes_eq (string_bytes file.0) c.args.name.now) c.args.files.now ∙ place_named c.args.files.now c.args.name.now))
