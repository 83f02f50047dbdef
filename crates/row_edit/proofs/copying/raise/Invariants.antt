use Rattle.std.proofs.Common.{◌≡◌, ◌+◌, ◌%◌, ◌^◌, ◌++◌, map, take, drop}
use Rattle.row_edit.proofs.copying.raise.Given as goal

abbrev pub invariant-loop-word : goal.invariant-loop-word
invariant-loop-word l = l.words ≡ map (λ word. (word + l.more) % 2 ^ 32) (take l.word-index l.fn.words) ++ drop l.word-index l.fn.words
