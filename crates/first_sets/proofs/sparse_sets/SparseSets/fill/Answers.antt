-- What was written to the lent lists is what they hold.
use Rattle.std.proofs.Common.{◌≡◌, ◌∙◌, ap, subst, sym, length}
use Rattle.std.proofs.lemmas.List.{take_at}
use Rattle.first_sets.specs.Steps.{HaveFirstSets}
use Rattle.first_sets.proofs.Keeping.{noted_again}
use Rattle.first_sets.proofs.sparse_sets.SparseSets.fill.Goals as goal

sets_kept : (c : goal.After-self-3-1) → length c.pass_on.new.sets ≡ c.self.inside.sets.len
sets_kept c = c.pass_on.auto.sets ∙ c.begin.auto.sets ∙ c.clear.auto.sets ∙ c.as_mut_slice-sets.ensures.len

places_kept : (c : goal.After-self-3-1) → length c.pass_on.new.places ≡ c.self.inside.places.len
places_kept c = c.pass_on.auto.places ∙ c.as_mut_slice.ensures.len

pub invariant_of-self : goal.invariant_of-self
invariant_of-self c =
    noted_again c.pass_on.new.sets c.pass_on.new.places _ _ (length c.args.search.now.settled) _ (take_at _ _ _ (sets_kept c)) (take_at _ _ _ (places_kept c))
    (ap length c.settled.ensures) c.pass_on.ensures.noted

pub returns-clause-first : goal.returns-clause-first
returns-clause-first c = subst (HaveFirstSets c.args.grid.now c.args.source) (sym (take_at _ _ _ (sets_kept c))) c.pass_on.ensures.first
