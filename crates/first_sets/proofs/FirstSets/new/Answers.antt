use Rattle.std.proofs.Common.{subst, sym}
use Rattle.grid_search.specs.Kept.{HasRoom}
use Rattle.grid_search.proofs.Keeping.{least_room}
use Rattle.first_sets.proofs.Keeping.{kept_new}
use Rattle.first_sets.proofs.FirstSets.new.Goals as goal

pub invariant_of-result : goal.invariant_of-result
invariant_of-result c =
    let room = subst (HasRoom c.args.cells) (sym c.min.ensures) (least_room c.args.cells) in
    kept_new c.args.cells c.min.result _ room c.in_ok-new.ensures
