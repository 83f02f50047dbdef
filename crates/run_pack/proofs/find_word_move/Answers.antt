use Rattle.run_pack.proofs.Words.{move_in_words}
use Rattle.run_pack.proofs.find_word_move.Goals as goal

pub returns-clause-limit : goal.returns-clause-limit
returns-clause-limit c = move_in_words c.args.words.now _ _ (rw c.new.ensures at c.uncounted.ensures.found)
