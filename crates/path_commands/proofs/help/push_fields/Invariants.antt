-- The fields so far are written.
use Rattle.std.proofs.Common.{◌≡◌, ◌++◌, flat_map, take, string_bytes}
use Rattle.path_commands.specs.Commands.{field_text}
use Rattle.path_commands.proofs.help.push_fields.Given as goal

abbrev pub invariant-loop-field : goal.invariant-loop-field
invariant-loop-field l = string_bytes l.text ≡ string_bytes l.initial.text ++ flat_map field_text (take l.field-index l.fields)
