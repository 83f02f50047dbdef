-- How a chain of clap's builders makes a command of its name, its arguments and its options.
use Rattle.std.proofs.Common.{◌≡◌, ◌∙◌, ◌<◌, ◌+◌, ℕ, List, [], ◌∷◌, ◌++◌, true, false, Bor, Some, refl, sym, ap, ap₂, map, take, length, get_or}
use Rattle.std.proofs.lemmas.List.{map-append, take_more}
use Rattle.clap.specs.declared.builder.command.Command.TheViews.{out-Command as fields_of}
use Rattle.clap.specs.declared.builder.command.Command.TheOpen.{Command-F}
use Rattle.clap.specs.Words.{AddsArg, App, Rule, Text, app_of, new_app, new_rule, rule_of, with_rule}
use Rattle.clap.specs.Simple.{app_of_fields}
use Rattle.clap.specs.declared.builder.action.ArgAction.TheVariants.{Set}
use Rattle.clap.specs.declared.builder.arg.Arg.{Arg}
use Rattle.clap.specs.declared.builder.command.Command.{Command}
use Rattle.path_commands.specs.declared.commands.Field.{Field}
use Rattle.path_commands.specs.Commands.{rule_for}
use Rattle.path_commands.specs.Words.{command_app, option_rule, required_rule}

-- ---- an argument or option

set_last : Arg → Arg
set_last arg = record arg { action = Some Set }

-- a new argument that is required, and set
pub argument_rule : (fresh needed ready : Arg) (id : Text) → rule_of fresh ≡ new_rule id → needed ≡ record fresh { required = true }
    → ready ≡ record needed { action = Some Set } → rule_of ready ≡ required_rule id
unfolding set_last
argument_rule fresh needed ready id is_new needs sets =
    ap rule_of (sets ∙ ap set_last needs) ∙ ap (λ (r : Rule). record r { required = true; action = Some Set }) is_new

-- a new argument with a long name, and set
pub setting_rule : (fresh named ready : Arg) (id : Bor Text) → rule_of fresh ≡ new_rule id.now → named ≡ record fresh { long = Some id }
    → ready ≡ record named { action = Some Set } → rule_of ready ≡ option_rule id.now
unfolding set_last
setting_rule fresh named ready id is_new names sets =
    ap rule_of (sets ∙ ap set_last names) ∙ ap (λ (r : Rule). record r { long = Some id.now; action = Some Set }) is_new

-- ---- a command

without_flags : App → App
without_flags a = record a { top = record a.top { disable_help_flag = true; disable_version_flag = true } }

-- a new command without the flags for help and for the version has no arguments
pub bare_command : (new first second : Command) (name : Text) → app_of new ≡ new_app name
    → fields_of first ≡ record (fields_of new) { disable_help_flag = true }
    → fields_of second ≡ record (fields_of first) { disable_version_flag = true }
    → app_of second ≡ command_app name []
unfolding command_app without_flags
bare_command new first second name is_new help version =
    let same : app_of second ≡ without_flags (app_of new) = ap app_of_fields (version ∙ ap (λ (f : Command-F Command). record f { disable_version_flag = true }) help) in
    same ∙ ap without_flags is_new

-- one argument or option more
one_more : (name : Text) (rules : List Rule) (rule : Rule) → with_rule (command_app name rules) rule ≡ command_app name (rules ++ rule ∷ [])
unfolding command_app
one_more name rules rule = refl

-- the first fields, and one more
rules_more : (fields : List Field) (i : ℕ) (filler : Field) → i < length fields → map rule_for (take (i + 1) fields) ≡ map rule_for (take i fields) ++ rule_for (get_or fields i filler) ∷ []
rules_more fields i filler h = ap (map rule_for) (take_more fields i filler h) ∙ map-append rule_for (take i fields) (get_or fields i filler ∷ [])

-- a turn of the loop over the fields adds what the next one is
pub next_command : (old new : Command) (arg : Arg) (name : Text) (fields : List Field) (i : ℕ) (filler : Field) → i < length fields
    → app_of old ≡ command_app name (map rule_for (take i fields)) → rule_of arg ≡ rule_for (get_or fields i filler) → arg.global ≡ false
    → AddsArg old arg new → app_of new ≡ command_app name (map rule_for (take (i + 1) fields))
next_command old new arg name fields i filler h before rule local added =
    added.shape local ∙ ap₂ with_rule before rule ∙ one_more name (map rule_for (take i fields)) (rule_for (get_or fields i filler))
    ∙ ap (command_app name) (sym (rules_more fields i filler h))
