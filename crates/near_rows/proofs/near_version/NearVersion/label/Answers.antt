use Rattle.std.proofs.Common.{subst, sym, refl, IfSome}
use Rattle.moves.specs.Components.{IsComponentList}
use Rattle.components.specs.Groups.{IsLabelOf}
use Rattle.versions.proofs.Homes.{labelled}
use Rattle.near_rows.proofs.NearWalking.{home_by_labels, apart_by_labels}
use Rattle.near_rows.proofs.near_version.NearVersion.label.Goals as goal

pub unwrap-label-requires : goal.unwrap-label-requires
unwrap-label-requires c =
    let listed = subst (λ v. IsComponentList v.map c.labels-labels.result.now) c.version.ensures.version c.labels-labels.ensures in
    let label = labelled _ _ c.args.start listed c.requires.start in
    rw (c.of.ensures.alone label.0 label.1) refl

pub unwrap-requires : goal.unwrap-requires
unwrap-requires c =
    let listed = subst (λ v. IsComponentList v.map c.labels-labels.result.now) c.version.ensures.version c.labels-labels.ensures in
    let label = labelled _ _ c.args.goal listed c.requires.goal in
    rw (c.of-2.ensures.alone label.0 label.1) refl

pub returns-then-unwrap-label-clause-some : goal.returns-then-unwrap-label-clause-some
returns-then-unwrap-label-clause-some c =
    let labels = c.labels-labels.result.now in
    let listed = subst (λ v. IsComponentList v.map labels) c.version.ensures.version c.labels-labels.ensures in
    let label = c.unwrap-label.result in
    let begins : IsLabelOf labels c.args.start label = subst (λ r. IfSome r (IsLabelOf labels c.args.start)) c.unwrap-label.ensures c.of.ensures.some in
    let other : IsLabelOf labels c.args.goal c.unwrap.result = subst (λ r. IfSome r (IsLabelOf labels c.args.goal)) c.unwrap.ensures c.of-2.ensures.some in
    let ends : IsLabelOf labels c.args.goal label = subst (IsLabelOf labels c.args.goal) c.if-unwrap-label.true other in
    home_by_labels _ c.version.ensures.near labels listed c.args.start c.args.goal label begins ends

pub returns-else-unwrap-label-clause-none : goal.returns-else-unwrap-label-clause-none
returns-else-unwrap-label-clause-none c =
    let labels = c.labels-labels.result.now in
    let listed = subst (λ v. IsComponentList v.map labels) c.version.ensures.version c.labels-labels.ensures in
    let begins : IsLabelOf labels c.args.start c.unwrap-label.result = subst (λ r. IfSome r (IsLabelOf labels c.args.start)) c.unwrap-label.ensures c.of.ensures.some in
    let ends : IsLabelOf labels c.args.goal c.unwrap.result = subst (λ r. IfSome r (IsLabelOf labels c.args.goal)) c.unwrap.ensures c.of-2.ensures.some in
    apart_by_labels _ c.version.ensures.near labels listed c.args.start c.args.goal c.unwrap-label.result c.unwrap.result begins ends
    (λ same. c.if-unwrap-label.false (sym same))
