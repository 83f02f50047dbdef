use Rattle.path_image.proofs.Homes.{home_read, blocked_read}
use Rattle.path_image.proofs.reading.home_at.Goals as goal

pub returns-then-word-clause-blocked : goal.returns-then-word-clause-blocked
returns-then-word-clause-blocked c = λ version image. blocked_read _ version image c.args.cell c.home_word-word.result c.requires.cell c.home_word-word.ensures c.if-word.true

pub returns-clause-home : goal.returns-clause-home
returns-clause-home c = λ version image. home_read _ version image c.args.cell c.home_word-word.result c.requires.cell c.home_word-word.ensures c.if-word.false
