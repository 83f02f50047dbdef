use Rattle.kept_sources.proofs.Closing.{lists_are_taken_out}
use Rattle.kept_sources.proofs.lists_are_taken_out.Goals as goal

pub returns : goal.returns
returns c = lists_are_taken_out
