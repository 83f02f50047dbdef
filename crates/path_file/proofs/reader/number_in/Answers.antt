use Rattle.path_file.proofs.Passing.{number_of_chunk}
use Rattle.path_file.proofs.reader.number_in.Goals as goal

pub returns-clause-some : goal.returns-clause-some
returns-clause-some c =
    number_of_chunk c.args.bytes.now _ c.from_be_bytes.result c.in_ok-field.ensures.cases.enough c.in_ok-field.ensures.cases.same (λ i. (c.type_inv.bytes i).fits) c.from_be_bytes.ensures
