use Rattle.run_pack.proofs.Found.{IsFound-from_last}
use Rattle.run_pack.proofs.Nearing.{move_of_last}
use Rattle.run_pack.proofs.near.find_word_near.Goals as goal

pub returns-clause-found : goal.returns-clause-found
returns-clause-found c = IsFound-from_last _ _ _ (move_of_last c.args.words.now c.args.place _ _ c.go_back-run.ensures c.run_of.ensures)
