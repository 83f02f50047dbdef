use Rattle.path_commands.proofs.OptionLemmas.{options_refused}
use Rattle.path_commands.proofs.request_laws.other_options_are_refused.Goals as goal

pub returns : goal.returns
returns c = options_refused
