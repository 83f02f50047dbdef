use Rattle.std.proofs.Common.{◌≡◌, ℕ, ◌<◌, length, Some, sym, ap, ◌∙◌, arith}
use Rattle.std.specs.Arc.{arc_value}
use Rattle.std.proofs.lemmas.Bool.{false≢true}
use Rattle.std.proofs.lemmas.List.{get_or-map, length-map}
use Rattle.std.proofs.lemmas.List.Elements.{Contains-get_or}
use Rattle.versions.specs.Databases.{component_at, comp_at, no_comp}
use Rattle.versions.proofs.Homes.{as_many}
use Rattle.version_build.proofs.Among.{not_known, not_same, shared_same}
use Rattle.version_build.proofs.planning.shared_comp.Goals as goal

-- the label that was found is the only one of the first cell
same_label : (a b : ℕ) → Some a ≡ Some b → b ≡ a
same_label a b e = cc

pub returns-in_default : goal.returns-in_default
returns-in_default c = not_known c.args.known.now c.args.cells.now _ (Contains-get_or c.args.cells.now 0 _ c.requires.some) c.in_default.ensures.none

pub returns-then-not-are_same : goal.returns-then-not-are_same
returns-then-not-are_same c =
    not_same c.args.known.now c.args.cells.now _ (Contains-get_or c.args.cells.now 0 _ c.requires.some) c.in-Some.label
    (λ other is. same_label c.in-Some.label other (sym c.in-Some.is ∙ c.of.ensures.alone other is))
    (λ same. false≢true (sym c.if-not-are_same.true ∙ c.are_same.ensures.1 (c.cells.ensures ∙ same)))

pub bounds-comps-label : goal.bounds-comps-label
bounds-comps-label c =
    let many = as_many _ _ _ _ c.requires.known c.requires.version.database in
    let size = length-map c.comps.result.now arc_value in
    omega (arith, c.in-Some.ensures.some.below, ap length c.comps.ensures, many, size)

pub returns : goal.returns
returns c =
    let many = as_many _ _ _ _ c.requires.known c.requires.version.database in
    let size = length-map c.comps.result.now arc_value in
    let label = c.in-Some.label in
    let less : label < length c.comps.result.now = omega (arith, c.in-Some.ensures.some.below, ap length c.comps.ensures, many, size) in
    let same : component_at c.args.known.now label ≡ c.args.cells.now = sym c.cells.ensures ∙ c.are_same.ensures.0 c.if-not-are_same.false in
    let read : comp_at c.args.former.now.comps label ≡ arc_value c.in_ok-comp.comp =
    ap (λ cs. comp_at cs label) (sym c.comps.ensures)
    ∙ (get_or-map arc_value c.comps.result.now label c.index-comps-label.result no_comp less ∙ (ap arc_value (sym c.index-comps-label.is) ∙ sym c.in_ok-comp.ensures)) in
    shared_same _ _ _ c.requires.version.database _ c.requires.known _ label c.in-Some.ensures.some.below same _ read
