use Rattle.versions.proofs.Answering.{queries_have_one_answer}
use Rattle.versions.proofs.laws.queries_have_one_answer.Goals as goal

pub returns : goal.returns
returns c = queries_have_one_answer
