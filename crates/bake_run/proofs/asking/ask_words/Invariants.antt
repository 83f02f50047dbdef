use Rattle.std.proofs.Common.{◌≡◌, take}
use Rattle.path_commands.specs.Words.{texts_of}
use Rattle.bake_run.specs.Baking.{export_words}
use Rattle.bake_run.proofs.asking.ask_words.Given as goal

abbrev pub invariant-loop-word : goal.invariant-loop-word
invariant-loop-word l = texts_of l.all.items ≡ export_words (texts_of (take l.word-index l.words))
