use Rattle.run_pack.proofs.Words.{move_in_words}
use Rattle.run_pack.proofs.find_word.Goals as goal

pub returns-clause-limit : goal.returns-clause-limit
returns-clause-limit g c = move_in_words c.args.words.now _ _ (rw c.new.ensures at c.search.ensures.found)
