use Rattle.std.proofs.Common.{[], ◌∷◌, ◌++◌, ◌∙◌, ap}
use Rattle.path_replay.specs.declared.event.Event.TheVariants.{Submit}
use Rattle.path_replay.proofs.KeptEvents.{submit_added}
use Rattle.path_replay.proofs.events.Events.push_submit.Goals as goal

pub returns : goal.returns
returns c =
    submit_added c.self.inside.edits _ _ _ _ _ _ _ _ c.self.invariant c.len-place.ensures c.reserve.ensures.items c.push_reserved-2.ensures.items
    c.in_ok-reserve_one.ensures.edits c.push_reserved.ensures
    ∙ ap (λ events. events ++ Submit c.args.pass c.args.edit.now ∷ []) c.self.view_is
