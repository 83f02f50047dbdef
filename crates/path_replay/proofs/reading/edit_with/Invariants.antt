use Rattle.std.proofs.Common.{[], ◌∷◌, ◌-◌}
use Rattle.text_lines.specs.Words.{words_of}
use Rattle.edit_log.specs.declared.TheConstants.{MAX_CHANGES}
use Rattle.path_replay.specs.Events.{changes_with}
use Rattle.path_replay.proofs.ChangesRead.{IsReadUpTo}
use Rattle.path_replay.proofs.reading.edit_with.Given as goal

abbrev pub invariant-loop-count : goal.invariant-loop-count
invariant-loop-count l = IsReadUpTo (changes_with (MAX_CHANGES - 1) (l.fn.first ∷ []) (words_of l.fn.words)) l.changes l.count (words_of l.left)
