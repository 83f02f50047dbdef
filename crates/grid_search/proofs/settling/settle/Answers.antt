use Rattle.std.proofs.Common.{◌∙◌, subst, refl, ap, sym, arith, set}
use Rattle.std.proofs.lemmas.List.{length-set}
use Rattle.grid_search.specs.Queues.{opened}
use Rattle.grid_search.proofs.Found.{some_passable}
use Rattle.grid_search.proofs.Turning.{IsSearching, searching_begun, searching_more, turn_of, settled_room, settled_last, settled_ready, entry_dropped}
use Rattle.grid_search.proofs.settling.settle.Goals as goal

pub begin-requires : goal.begin-requires
begin-requires c =
    let some = some_passable c.args.grid.now c.args.source c.requires.source in
    let room = c.requires.space.straight_room in
    omega arith

pub loop-next-init : goal.loop-next-init
loop-next-init c =
    let front = opened c.args.keys.now c.args.list.now in
    let begun = searching_begun _ _ front c.place.result c.width.result c.args.order.now c.requires.source c.requires.unused c.requires.space
    c.place.ensures c.width.ensures.width in
    let same = ap (opened (set c.args.keys.now c.place.result 0)) (sym c.begin.ensures) in
    record {
      searching = subst (IsSearching c.args.grid.now c.args.source c.args.order.now 0) same begun;
      straight = ap (λ l. l.straight.room) c.begin.ensures;
      diagonal = ap (λ l. l.diagonal.room) c.begin.ensures;
    }

pub bounds-order-count : goal.bounds-order-count
bounds-order-count c =
    let known = c.loop-next.invariant in
    settled_room _ _ _ _ _ _ (opened c.loop-next.keys c.take_first.new.self) c.in-Some.next known.searching c.requires.space
    (c.loop-next.auto.keys ∙ length-set c.args.keys.now c.place.result 0) known.straight known.diagonal refl c.in-Some.ensures.some
    _ _ c.place-place.ensures c.width-in-Some.ensures.width
    c.requires.source c.requires.few (omega (arith, c.loop-next.auto.order, c.requires.room)) c.if-keys-place.true

pub relax-requires-clause-last : goal.relax-requires-clause-last
relax-requires-clause-last c =
    let known = c.loop-next.invariant in
    settled_last _ _ _ _ _ _ (opened c.loop-next.keys c.take_first.new.self) c.in-Some.next known.searching c.requires.space
    (c.loop-next.auto.keys ∙ length-set c.args.keys.now c.place.result 0) known.straight known.diagonal refl c.in-Some.ensures.some
    _ _ c.place-place.ensures c.width-in-Some.ensures.width
    c.requires.source c.requires.few (omega (arith, c.loop-next.auto.order, c.requires.room)) c.if-keys-place.true

pub relax-requires-clause-ready : goal.relax-requires-clause-ready
relax-requires-clause-ready c =
    let known = c.loop-next.invariant in
    settled_ready _ _ _ _ _ _ (opened c.loop-next.keys c.take_first.new.self) c.in-Some.next known.searching c.requires.space
    (c.loop-next.auto.keys ∙ length-set c.args.keys.now c.place.result 0) known.straight known.diagonal refl c.in-Some.ensures.some
    _ _ c.place-place.ensures c.width-in-Some.ensures.width
    c.requires.source c.requires.few (omega (arith, c.loop-next.auto.order, c.requires.room)) c.if-keys-place.true

pub loop-next-smaller-then-keys-place : goal.loop-next-smaller-then-keys-place
loop-next-smaller-then-keys-place c =
    let known = c.loop-next.invariant in
    let turn = turn_of _ _ _ _ _ known.searching c.in-Some.next (opened c.loop-next.keys c.take_first.new.self) refl c.in-Some.ensures.some in
    omega (arith, turn.more_taken, turn.taken_count, c.relax.ensures.none_taken.0, c.relax.ensures.none_taken.1)

pub loop-next-preserved-then-keys-place : goal.loop-next-preserved-then-keys-place
loop-next-preserved-then-keys-place c =
    let known = c.loop-next.invariant in
    let turn = turn_of _ _ _ _ _ known.searching c.in-Some.next (opened c.loop-next.keys c.take_first.new.self) refl c.in-Some.ensures.some in
    record {
      searching = searching_more _ _ _ _ _ _ (opened c.loop-next.keys c.take_first.new.self) c.in-Some.next known.searching c.requires.space
          (c.loop-next.auto.keys ∙ length-set c.args.keys.now c.place.result 0) known.straight known.diagonal refl c.in-Some.ensures.some
          _ _ c.place-place.ensures c.width-in-Some.ensures.width
          c.requires.source c.requires.few (omega (arith, c.loop-next.auto.order, c.requires.room)) c.if-keys-place.true _ c.relax.ensures;
      straight = c.relax.ensures.rooms.0 ∙ turn.rooms.0 ∙ known.straight;
      diagonal = c.relax.ensures.rooms.1 ∙ turn.rooms.1 ∙ known.diagonal;
    }

pub loop-next-smaller : goal.loop-next-smaller
loop-next-smaller c =
    let known = c.loop-next.invariant in
    let turn = turn_of _ _ _ _ _ known.searching c.in-Some.next (opened c.loop-next.keys c.take_first.new.self) refl c.in-Some.ensures.some in
    omega (arith, turn.more_taken, turn.taken_count)

pub loop-next-preserved : goal.loop-next-preserved
loop-next-preserved c =
    let known = c.loop-next.invariant in
    let turn = turn_of _ _ _ _ _ known.searching c.in-Some.next (opened c.loop-next.keys c.take_first.new.self) refl c.in-Some.ensures.some in
    record {
      searching = entry_dropped _ _ _ _ _ _ (opened c.loop-next.keys c.take_first.new.self) c.in-Some.next known.searching c.requires.space
          (c.loop-next.auto.keys ∙ length-set c.args.keys.now c.place.result 0) known.straight known.diagonal refl c.in-Some.ensures.some
          _ _ c.place-place.ensures c.width-in-Some.ensures.width
          c.if-keys-place.false;
      straight = turn.rooms.0 ∙ known.straight;
      diagonal = turn.rooms.1 ∙ known.diagonal;
    }
