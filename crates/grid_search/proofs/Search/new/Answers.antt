use Rattle.std.proofs.Common.{subst, sym}
use Rattle.grid_search.specs.Kept.{HasRoom}
use Rattle.grid_search.proofs.Keeping.{kept_new, least_room}
use Rattle.grid_search.proofs.Search.new.Goals as goal

pub invariant_of-result : goal.invariant_of-result
invariant_of-result c =
    let room = subst (HasRoom c.args.cells) (sym c.min-reach.ensures) (least_room c.args.cells) in
    kept_new c.args.cells c.min-reach.result _ _ _ _ room (c.in_ok-vec.ensures.items_if_clones_equal (λ y e. e)) c.in_ok-new.ensures
    (c.in_ok-vec-2.ensures.items_if_clones_equal (λ y e. e))
