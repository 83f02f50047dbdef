use Rattle.std.proofs.Common.{◌≡◌, ◌∙◌, sym, ap, Err}
use Rattle.path_commands.specs.Requests.{asked, verb_asked}
use Rattle.path_commands.proofs.RequestLemmas.{kept_some, read_none, read_some, request_found, request_refused}
use Rattle.path_commands.proofs.request.read_as.Goals as goal

pub returns-in_err-matches-clause-usage : goal.returns-in_err-matches-clause-usage
returns-in_err-matches-clause-usage c = λ refused.
    let kept = rw refused at c.from_residual.ensures.1 in
    request_refused _ _ (c.in_err-matches.ensures.usage (ap Err (sym kept)))

pub returns-clause-request : goal.returns-clause-request
returns-clause-request c =
    rw c.ok_or.ensures.value
    (read_some c.asked_of.result _ (c.asked_of.ensures.asked ∙ request_found _ _ _ c.in_ok-matches.ensures.values))

pub returns-clause-usage : goal.returns-clause-usage
returns-clause-usage c = λ refused.
    read_none c.asked_of.result _ (c.asked_of.ensures.asked ∙ request_found _ _ _ c.in_ok-matches.ensures.values) (sym c.ok_or.ensures.value ∙ refused)

pub returns-clause-verb : goal.returns-clause-verb
returns-clause-verb c = rw c.ok_or.ensures.value (kept_some (λ request. verb_asked (asked request) ≡ c.args.verb) c.asked_of.result c.asked_of.ensures.verb)
