-- The set that is read is that of the cell.
use Rattle.std.proofs.Common.{◌≡◌, ◌∙◌, ap, subst, get_or}
use Rattle.first_sets.specs.Filled.{set_at}
use Rattle.first_sets.proofs.Keeping.{first_at, empty_at}
use Rattle.first_sets.proofs.FirstSets.set_of.Goals as goal

pub returns-clause-first : goal.returns-clause-first
returns-clause-first c = λ map source filled move.
    let self = c.args.self.now in
    let read = c.at.ensures ∙ ap (λ p. get_or c.self.inside.sets.sets p 0) c.place.ensures in
    let kept : c.of_mask.result ≡ set_at self c.args.cell =
    subst (λ f. c.of_mask.result ≡ set_at f c.args.cell) c.self.view_is (c.of_mask.ensures ∙ read) in
    first_at map source self c.args.cell move c.of_mask.result c.requires.column c.requires.row filled kept

pub returns-clause-none : goal.returns-clause-none
returns-clause-none c = λ map source filled.
    let self = c.args.self.now in
    let read = c.at.ensures ∙ ap (λ p. get_or c.self.inside.sets.sets p 0) c.place.ensures in
    let kept : c.of_mask.result ≡ set_at self c.args.cell =
    subst (λ f. c.of_mask.result ≡ set_at f c.args.cell) c.self.view_is (c.of_mask.ensures ∙ read) in
    empty_at map source self c.args.cell c.of_mask.result c.requires.column c.requires.row filled kept
