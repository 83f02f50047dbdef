use Rattle.std.proofs.Common.{◌∙◌, ap, map}
use Rattle.std.proofs.lemmas.List.{take_all}
use Rattle.clap.specs.Words.{new_app}
use Rattle.path_commands.specs.Commands.{app_for, rule_for, verb_name}
use Rattle.path_commands.specs.Words.{command_app}
use Rattle.path_commands.proofs.CommandLemmas.{bare_command, next_command}
use Rattle.path_commands.proofs.commands.command.Goals as goal

pub loop-field-init : goal.loop-field-init
loop-field-init c =
    bare_command c.new.result c.disable_help_flag.result c.disable_version_flag-command.result (verb_name c.args.verb)
    (c.new.ensures.app ∙ ap new_app c.name-name.ensures) c.disable_help_flag.ensures c.disable_version_flag-command.ensures

pub loop-field-preserved : goal.loop-field-preserved
loop-field-preserved c =
    next_command c.loop-field.command c.in_ok-command.command c.arg-argument.result (verb_name c.args.verb) c.fields-fields.result.now c.loop-field.field-index _
    c.loop-field-test.true c.loop-field.invariant c.arg-argument.ensures.rule c.arg-argument.ensures.local c.in_ok-command.ensures

pub returns : goal.returns
unfolding app_for
returns c = c.loop-field.invariant
    ∙ ap (λ fields. command_app (verb_name c.args.verb) (map rule_for fields)) (take_all c.loop-field.field-index c.fields-fields.result.now c.loop-field-test.false)
    ∙ ap (command_app (verb_name c.args.verb)) c.fields-fields.ensures.rules
