use Rattle.std.proofs.Common.{rules, ◌+◌, ◌%◌, ◌^◌}
use Rattle.std.proofs.lemmas.List.Edits.{map_over_more}
use Rattle.row_edit.proofs.copying.raise.Goals as goal

pub loop-word-preserved : goal.loop-word-preserved
loop-word-preserved c = search (rules, map_over_more (λ word. (word + c.args.more) % 2 ^ 32))
