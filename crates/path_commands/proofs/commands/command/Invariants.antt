use Rattle.std.proofs.Common.{◌≡◌, map, take}
use Rattle.clap.specs.Words.{app_of}
use Rattle.path_commands.specs.Commands.{rule_for, verb_name}
use Rattle.path_commands.specs.Words.{command_app}
use Rattle.path_commands.proofs.commands.command.Given as goal

-- the command has the arguments and options so far
abbrev pub invariant-loop-field : goal.invariant-loop-field
invariant-loop-field l =
    app_of l.command ≡ command_app (verb_name l.fn.verb) (map rule_for (take l.field-index l.fields))
