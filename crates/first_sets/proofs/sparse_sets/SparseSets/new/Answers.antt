use Rattle.first_sets.proofs.Keeping.{noted_none}
use Rattle.first_sets.proofs.sparse_sets.SparseSets.new.Goals as goal

pub invariant_of-result : goal.invariant_of-result
invariant_of-result c = noted_none c.args.cells _ _ (c.in_ok-vec.ensures.items_if_clones_equal (λ y e. e))
