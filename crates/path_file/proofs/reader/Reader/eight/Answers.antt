use Rattle.std.proofs.Common.{◌+◌, take, ap, ◌∙◌}
use Rattle.path_file.specs.Readings.{Reading}
use Rattle.path_file.proofs.Passing.{passes_chunk}
use Rattle.path_file.proofs.reader.Reader.eight.Goals as goal

pub returns-in-Some-clause-read : goal.returns-in-Some-clause-read
returns-in-Some-clause-read c =
    let inside = c.self.inside in
    passes_chunk c.args.self.now (record { bytes = inside.bytes.now; at = inside.at + 8 }) 8 c.in-Some.field.now
    (ap (λ (r : Reading). r.bytes) c.self.view_is) (ap (λ (r : Reading). r.at + 8) c.self.view_is) (c.in-Some.ensures.cases.same ∙ ap (take 8) c.left.ensures)
