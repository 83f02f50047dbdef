use Rattle.path_commands.proofs.PlainLemmas.{plain_words_read}
use Rattle.path_commands.proofs.request_laws.plain_words_are_read.Goals as goal

pub returns : goal.returns
returns c = plain_words_read
