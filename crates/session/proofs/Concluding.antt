-- What follows of a session at a board that nobody else calls.
use Rattle.std.proofs.Common.{◌≡◌, ◌≤◌, ◌<◌, ℕ, List, None, ap, ◌∙◌, arith}
use Rattle.path_core.specs.declared.entry.Entry.{Entry}
use Rattle.path_core.specs.Histories.{accepted_count, published_prefix}
use Rattle.session.specs.Conclusions.{OwnBuildsAreNotOvertaken}
use Rattle.session.specs.Served.{IsOvertaken}
use Rattle.session.specs.Standing.{Place}

overtaken_alone : (place : Place) (before after : List Entry) (by : ℕ) → place.shared ≡ None → IsOvertaken place before after by → ⊥
overtaken_alone place before after by alone s =
    let same : by ≡ published_prefix s.looked = s.published ∙ ap published_prefix (s.to_publish.alone alone ∙ s.to_job.alone alone) in
    let newer = s.newer in
    let enough = s.enough in
    omega (arith, same, newer, enough)

pub own_builds_are_not_overtaken : OwnBuildsAreNotOvertaken
own_builds_are_not_overtaken place old new by moves alone serves = overtaken_alone place old.seen new.seen by alone serves.served.0
