use Rattle.std.proofs.Common.{◌+◌, take, ap, ◌∙◌}
use Rattle.path_file.specs.Files.{number_bytes}
use Rattle.path_file.specs.Readings.{Reading}
use Rattle.path_file.proofs.Passing.{passes_chunk}
use Rattle.path_file.proofs.reader.Reader.number.Goals as goal

pub returns-in-Some-clause-read : goal.returns-in-Some-clause-read
returns-in-Some-clause-read c =
    let inside = c.self.inside in
    passes_chunk c.args.self.now (record { bytes = inside.bytes.now; at = inside.at + 4 }) 4 (number_bytes c.in-Some.number)
    (ap (λ (r : Reading). r.bytes) c.self.view_is) (ap (λ (r : Reading). r.at + 4) c.self.view_is) (c.in-Some.ensures.some ∙ ap (take 4) c.left.ensures)
