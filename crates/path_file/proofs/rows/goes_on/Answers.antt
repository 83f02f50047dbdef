use Rattle.path_file.proofs.RowLemmas.{goes_on_yes, goes_on_no}
use Rattle.path_file.proofs.rows.goes_on.Goals as goal

pub returns-then-words-start : goal.returns-then-words-start
returns-then-words-start c = goes_on_yes c.args.words.now c.args.word c.args.cells c.if-is_empty.ensures c.requires c.if-words-start.true

pub returns-else-words-start : goal.returns-else-words-start
returns-else-words-start c = goes_on_no c.args.words.now c.args.word c.args.cells c.if-is_empty.ensures c.if-words-start.false
