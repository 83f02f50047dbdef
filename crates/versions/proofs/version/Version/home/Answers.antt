use Rattle.std.proofs.Common.{◌≡◌, subst, sym, ap, refl, ◌∙◌, arith, map, length, IfSome}
use Rattle.std.proofs.lemmas.List.{get_or-map, length-map}
use Rattle.std.specs.Arc.{arc_value}
use Rattle.moves.specs.Maps.{IsPassable}
use Rattle.moves.specs.Paths.{Reaches}
use Rattle.components.specs.Groups.{IsLabelOf}
use Rattle.versions.specs.Databases.{comp_at, no_comp}
use Rattle.versions.specs.Answers.{IsHome}
use Rattle.versions.proofs.Homes.{labelled, label_below, home_of, labels_apart}
use Rattle.versions.proofs.version.Version.home.Goals as goal

pub unwrap-label-requires : goal.unwrap-label-requires
unwrap-label-requires c =
    let passable = subst (λ v. IsPassable v.map c.args.start) (sym c.self.view_is) c.requires.start in
    let label = labelled _ _ c.args.start c.self.invariant.listed passable in
    rw (c.of.ensures.alone label.0 label.1) refl

pub unwrap-requires : goal.unwrap-requires
unwrap-requires c =
    let passable = subst (λ v. IsPassable v.map c.args.goal) (sym c.self.view_is) c.requires.goal in
    let label = labelled _ _ c.args.goal c.self.invariant.listed passable in
    rw (c.of-2.ensures.alone label.0 label.1) refl

pub returns-then-unwrap-label-clause-some : goal.returns-then-unwrap-label-clause-some
returns-then-unwrap-label-clause-some c =
    let label = c.unwrap-label.result in
    let begins : IsLabelOf c.self.inside.labels c.args.start label = subst (λ r. IfSome r (IsLabelOf c.self.inside.labels c.args.start)) c.unwrap-label.ensures c.of.ensures.some in
    let other : IsLabelOf c.self.inside.labels c.args.goal c.unwrap.result = subst (λ r. IfSome r (IsLabelOf c.self.inside.labels c.args.goal)) c.unwrap.ensures c.of-2.ensures.some in
    let ends : IsLabelOf c.self.inside.labels c.args.goal label = subst (IsLabelOf c.self.inside.labels c.args.goal) c.if-unwrap-label.true other in
    let within = label_below _ _ _ _ _ c.self.invariant c.args.start label begins in
    let long : length (map arc_value c.self.inside.comps.items) ≡ length c.self.inside.comps.items = length-map c.self.inside.comps.items arc_value in
    let is : comp_at (map arc_value c.self.inside.comps.items) label ≡ c.deref.result.now =
    get_or-map arc_value c.self.inside.comps.items label c.index.result.now no_comp (omega arith) ∙ ap arc_value (sym c.index.ensures) ∙ sym c.deref.ensures in
    subst (λ v. IsHome v.comps c.args.start c.args.goal c.deref.result.now) c.self.view_is
    (home_of _ _ _ _ _ c.self.invariant c.args.start c.args.goal label c.deref.result.now begins ends is)

pub returns-else-unwrap-label-clause-none : goal.returns-else-unwrap-label-clause-none
returns-else-unwrap-label-clause-none c =
    λ reaches.
    let begins = subst (λ r. IfSome r (IsLabelOf c.self.inside.labels c.args.start)) c.unwrap-label.ensures c.of.ensures.some in
    let ends = subst (λ r. IfSome r (IsLabelOf c.self.inside.labels c.args.goal)) c.unwrap.ensures c.of-2.ensures.some in
    labels_apart _ _ _ _ _ c.self.invariant c.args.start c.args.goal c.unwrap-label.result c.unwrap.result begins ends
    (λ same. c.if-unwrap-label.false (sym same)) (subst (λ v. Reaches v.map c.args.start c.args.goal) (sym c.self.view_is) reaches)
