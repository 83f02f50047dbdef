use Rattle.std.proofs.Common.{◌∙◌, bytes_eq, ap}
use Rattle.std.specs.List.{slice_get}
use Rattle.std.specs.Option.{option_and_then}
use Rattle.path_commands.specs.Commands.{verb_name}
use Rattle.path_commands.proofs.RequestLemmas.{find_by_position}
use Rattle.path_commands.proofs.commands.first_named.Goals as goal

pub returns-in_err-place : goal.returns-in_err-place
returns-in_err-place c =
    c.from_residual.ensures ∙ ap (option_and_then (λ place. slice_get c.args.verbs.now place)) c.in_err-place.ensures
    ∙ find_by_position (λ verb. bytes_eq (verb_name verb) c.args.name.now) c.args.verbs.now

pub returns : goal.returns
returns c =
    c.verb_at.ensures ∙ ap (option_and_then (λ place. slice_get c.args.verbs.now place)) c.in_ok-place.ensures
    ∙ find_by_position (λ verb. bytes_eq (verb_name verb) c.args.name.now) c.args.verbs.now
