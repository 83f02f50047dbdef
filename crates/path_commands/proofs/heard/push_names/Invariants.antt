-- The names so far are written.
use Rattle.std.proofs.Common.{◌≡◌, ◌++◌, take, string_bytes}
use Rattle.path_commands.specs.Texts.{names_text}
use Rattle.path_commands.proofs.heard.push_names.Given as goal

abbrev pub invariant-loop-by : goal.invariant-loop-by
invariant-loop-by l = string_bytes l.text ≡ string_bytes l.initial.text ++ names_text (take l.by-index l.moves)
