use Rattle.std.proofs.Common.{subst}
use Rattle.moves.specs.Components.{IsComponentList}
use Rattle.versions.proofs.Homes.{labelled}
use Rattle.near_rows.proofs.NearWalking.{label_within, label_has}
use Rattle.near_rows.proofs.near_version.NearVersion.radius.Goals as goal

pub comp-requires : goal.comp-requires
comp-requires c =
    let listed = subst (λ v. IsComponentList v.map c.labels.result.now) c.version.ensures.version c.labels.ensures in
    label_within _ c.version.ensures.near c.labels.result.now listed c.args.at _ c.in-Some.ensures.some

pub place_of-place-requires : goal.place_of-place-requires
place_of-place-requires c =
    let listed = subst (λ v. IsComponentList v.map c.labels.result.now) c.version.ensures.version c.labels.ensures in
    rw c.comp.ensures (label_has _ c.version.ensures.near c.labels.result.now listed c.args.at _ c.in-Some.ensures.some)

pub returns-in-None : goal.returns-in-None
returns-in-None c = λ passable.
    let listed = subst (λ v. IsComponentList v.map c.labels.result.now) c.version.ensures.version c.labels.ensures in
    let label = labelled _ _ c.args.at listed passable in
    c.in-None.ensures.none label.0 label.1
