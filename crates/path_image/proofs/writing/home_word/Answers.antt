use Rattle.std.proofs.Common.{ap, sym, subst, ◌∙◌, arith}
use Rattle.std.specs.List.{Contains}
use Rattle.moves.specs.Maps.{cell_at}
use Rattle.row_store.specs.Comps.{IsPlaceOf}
use Rattle.path_image.specs.Images.{home_word}
use Rattle.path_image.proofs.Homes.{whole_comp}
use Rattle.path_image.proofs.Labelling.{labelled_here, labelled_word, unlabelled_word}
use Rattle.path_image.proofs.Sizes.{few_comps}
use Rattle.path_image.proofs.writing.home_word.Goals as goal

pub comp_at-requires : goal.comp_at-requires
comp_at-requires c = (labelled_here c.args.version.now c.grid.ensures.version c.labels.result.now c.labels.ensures _ c.in-Some.label c.in-Some.ensures.some).within

pub overflow_mul-result : goal.overflow_mul-result
overflow_mul-result c =
    let within = (labelled_here c.args.version.now c.grid.ensures.version c.labels.result.now c.labels.ensures _ c.in-Some.label c.in-Some.ensures.some).within in
    let few = few_comps c.args.version.now c.grid.ensures.version in
    omega arith

pub place_of-requires : goal.place_of-requires
place_of-requires c =
    let cell = cell_at c.width-width.result c.args.place in
    subst (λ comp. Contains comp.cells cell) (sym c.comp_at.ensures)
    (labelled_here c.args.version.now c.grid.ensures.version c.labels.result.now c.labels.ensures cell c.in-Some.label c.in-Some.ensures.some).has

pub overflow_add-result : goal.overflow_add-result
overflow_add-result c =
    let cell = cell_at c.width-width.result c.args.place in
    let within = (labelled_here c.args.version.now c.grid.ensures.version c.labels.result.now c.labels.ensures cell c.in-Some.label c.in-Some.ensures.some).within in
    let few = few_comps c.args.version.now c.grid.ensures.version in
    let at = subst (λ comp. IsPlaceOf comp.cells cell c.place_of.result) c.comp_at.ensures c.place_of.ensures in
    let size = (whole_comp c.args.version.now c.grid.ensures.version c.in-Some.label within).few in
    let inside = at.within in
    omega arith

pub returns-in-None : goal.returns-in-None
returns-in-None c =
    let width = c.width-width.ensures.width ∙ ap (λ map. map.width) c.grid.ensures.map in
    unlabelled_word c.args.version.now c.grid.ensures.version c.labels.result.now c.labels.ensures (cell_at c.width-width.result c.args.place) c.in-None.ensures.none
    ∙ ap (λ w. home_word 0 c.args.version.now.comps (cell_at w c.args.place)) width

pub returns-in-Some : goal.returns-in-Some
returns-in-Some c =
    let cell = cell_at c.width-width.result c.args.place in
    let width = c.width-width.ensures.width ∙ ap (λ map. map.width) c.grid.ensures.map in
    let at = subst (λ comp. IsPlaceOf comp.cells cell c.place_of.result) c.comp_at.ensures c.place_of.ensures in
    labelled_word c.args.version.now c.grid.ensures.version c.labels.result.now c.labels.ensures cell c.in-Some.label c.place_of.result c.in-Some.ensures.some at
    ∙ ap (λ w. home_word 0 c.args.version.now.comps (cell_at w c.args.place)) width
