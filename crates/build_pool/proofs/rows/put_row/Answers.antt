use Rattle.build_pool.proofs.Filling.{part_put}
use Rattle.std.proofs.Common.{arith}
use Rattle.build_pool.proofs.rows.put_row.Goals as goal

pub returns-in_ok-put_words-clause-part : goal.returns-in_ok-put_words-clause-part
returns-in_ok-put_words-clause-part c =
    part_put _ _ _ _ _ (omega arith) c.requires.words.row c.in_ok-put_words.ensures.ok c.requires.part
