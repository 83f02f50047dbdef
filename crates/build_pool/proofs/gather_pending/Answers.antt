use Rattle.std.proofs.Common.{◌≡◌, ◌∷◌, suc, get_or, All, IfOk, arith, rules}
use Rattle.std.specs.Vec.Iter.{into_iter_items}
use Rattle.build_pool.specs.Pieces.{CanBuild}
use Rattle.build_pool.proofs.Filling.{share_is}
use Rattle.build_pool.proofs.gather_pending.Goals as goal

pub map_indices-requires-after_bounds : goal.map_indices-requires-after_bounds
map_indices-requires-after_bounds g c κs longer i within =
    let can : CanBuild c.args.cells.now c.args.near.now c.args.crew.now.workers i = record {
      table = c.requires.table;
      few = c.requires.table.sources.few;
      pieces = c.requires.workers;
      piece = within;
    } in
    (can, search rules)

pub loop-share-init : goal.loop-share-init
loop-share-init g c =
    let all : All (λ share. IfOk share (g.H.Harvest.gathered c.args.cells.now)) c.in_ok-shares.shares.items = λ i d within.
    (let told = (c.in_ok-shares.ensures.each i d (omega (arith, within, c.in_ok-shares.ensures.len, c.in_ok-shares.shares.ok.0))).1 in
    let built : IfOk (get_or c.in_ok-shares.shares.items i d) (g.H.Harvest.gathered c.args.cells.now) = search rules in
    built) in
    let gives : into_iter_items c.into_iter-share-iterator.result ≡ c.in_ok-shares.shares.items = c.into_iter-share-iterator.ensures.into_iter_gives.0 in
    (tt, tt, rw gives all, c.in_ok-all.ensures)

pub take_over-requires-clause-other : goal.take_over-requires-clause-other
take_over-requires-clause-other g c =
    let steps : into_iter_items c.loop-share.share-iterator ≡ c.in-Some.share ∷ into_iter_items c.next.new.self = c.in-Some.ensures.steps.0 in
    let all = rw steps at c.loop-share.invariant.2 in
    share_is (g.H.Harvest.gathered c.args.cells.now) _ _ (all 0 c.in-Some.share (omega arith)) c.in_ok-share.was

pub loop-share-preserved : goal.loop-share-preserved
loop-share-preserved g c =
    let steps : into_iter_items c.loop-share.share-iterator ≡ c.in-Some.share ∷ into_iter_items c.next.new.self = c.in-Some.ensures.steps.0 in
    let all = rw steps at c.loop-share.invariant.2 in
    (tt, tt, λ i d within. all (suc i) d (omega (arith, within)), c.in_ok-take_over.ensures)
