use Rattle.run_pack.specs.Runs.{no_run}
use Rattle.row_store.proofs.CompLaws.{row_kept}
use Rattle.path_image.proofs.writing.run_word.Goals as goal

pub word-requires-clause-start : goal.word-requires-clause-start
word-requires-clause-start c =
    rw c.row_run.ensures ((row_kept c.args.comp.now c.requires.whole c.args.place c.requires.place).starts c.args.run no_run c.requires.run)

pub word-requires-clause-number : goal.word-requires-clause-number
word-requires-clause-number c =
    rw c.row_run.ensures ((row_kept c.args.comp.now c.requires.whole c.args.place c.requires.place).moves c.args.run no_run c.requires.run)
