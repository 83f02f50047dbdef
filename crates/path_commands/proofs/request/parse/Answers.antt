use Rattle.std.proofs.Common.{◌≡◌, ◌∙◌, true, refl, sym, ap, subst}
use Rattle.clap.specs.Words.{App, app_of, is_simple_and_free}
use Rattle.path_commands.specs.Words.{HasValues, is_taken, texts_of}
use Rattle.path_commands.proofs.ClapLemmas.{has_values, not_taken}
use Rattle.path_commands.proofs.RequestLemmas.{simple_app}
use Rattle.path_commands.proofs.request.parse.Goals as goal

pub returns-clause-values : goal.returns-clause-values
returns-clause-values c =
    let simple : is_simple_and_free (app_of c.in_ok-command.command) ≡ true = ap is_simple_and_free c.in_ok-command.ensures ∙ simple_app c.args.verb in
    let parsed = c.in_ok-try_get_matches_from in
    subst (λ (app : App). HasValues app (texts_of c.args.words.now) parsed.field-0) c.in_ok-command.ensures
    (has_values _ _ parsed.field-0 simple (parsed.ensures.kinds simple) parsed.ensures.matches)

pub returns-in_err-try_get_matches_from-clause-usage : goal.returns-in_err-try_get_matches_from-clause-usage
returns-in_err-try_get_matches_from-clause-usage c = λ refused.
    let simple : is_simple_and_free (app_of c.in_ok-command.command) ≡ true = ap is_simple_and_free c.in_ok-command.ensures ∙ simple_app c.args.verb in
    let refusal = rw refused at c.from_residual-in_err-try_get_matches_from.ensures.1 in
    let failed = c.in_err-try_get_matches_from in
    ap (λ (app : App). is_taken app (texts_of c.args.words.now)) (sym c.in_ok-command.ensures)
    ∙ not_taken _ _ failed.field-0.0 (failed.ensures.kinds simple) (refusal refl)
