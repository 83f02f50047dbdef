use Rattle.std.proofs.Common.{◌∙◌}
use Rattle.std.proofs.lemmas.Result.{err_from_is_err_and}
use Rattle.path_client.proofs.Hearings.{hear_all, hear_none, lent_whole, torn_at}
use Rattle.path_client.proofs.hearing.hear.Goals as goal

pub returns-in_err-fill-clause-fault : goal.returns-in_err-fill-clause-fault
returns-in_err-fill-clause-fault g c =
    let p = err_from_is_err_and c.from_residual-in_err-fill.result c.from_residual-in_err-fill.ensures.1 in
    rw (p.1, p.2) (torn_at _ _ _ _ _ _ (c.as_mut_slice.ensures.len ∙ c.in_ok-frame.ensures.len) c.in_ok-size.ensures.size c.in_err-fill.ensures.part)

pub returns-clause-heard : goal.returns-clause-heard
returns-clause-heard g c =
    hear_all _ _ _ _ _ _ c.heard_in.result c.in_ok-size.ensures.size c.in_ok-fill.ensures.all
    (lent_whole _ _ _ _ c.deref.ensures.value (c.fill.auto.room ∙ c.as_mut_slice.ensures.len)) (c.deref.ensures.len ∙ c.in_ok-frame.ensures.len)
    c.heard_in.ensures.heard

pub returns-clause-fault : goal.returns-clause-fault
returns-clause-fault g c =
    hear_none _ _ _ _ _ _ c.heard_in.result c.in_ok-size.ensures.size c.in_ok-fill.ensures.all
    (lent_whole _ _ _ _ c.deref.ensures.value (c.fill.auto.room ∙ c.as_mut_slice.ensures.len)) (c.deref.ensures.len ∙ c.in_ok-frame.ensures.len)
    c.heard_in.ensures.fault
