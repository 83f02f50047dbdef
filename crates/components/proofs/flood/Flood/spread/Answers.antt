use Rattle.std.proofs.Common.{◌≡◌, ◌<◌, ◌≤◌, length, get_or, sym, ap, ◌∙◌, arith}
use Rattle.components.specs.Marks.{Marks}
use Rattle.components.proofs.Marking.{room_for}
use Rattle.components.proofs.Spreading.{count_within}
use Rattle.components.proofs.Flooding.{queued_passable, queued_class, spreading_start, spreading_more, flooded_more}
use Rattle.moves.specs.Maps.{IsPassable, terrain_of}
use Rattle.components.proofs.flood.Flood.spread.Goals as goal
use Rattle.components.proofs.flood.Flood.spread.Goals.{After-index-from}

pub mark-requires-clause-room : goal.mark-requires-clause-room
mark-requires-clause-room c = room_for _ _ _ c.requires.flooded.balanced c.requires.root

pub loop-next-init : goal.loop-next-init
loop-next-init c =
    let count : c.self.inside.count ≡ c.args.self.now.count = ap (λ (m : Marks). m.count) c.self.view_is in
    rw (count, c.mark.ensures) (spreading_start _ _ c.requires.label _ _ c.requires.root c.requires.flooded)

pub index-from-requires : goal.index-from-requires
index-from-requires c =
    let view = c.self-in-loop-next.view_is in
    let most = count_within _ _ c.loop-next.invariant.spread.balanced in
    omega (arith, ap (λ (m : Marks). m.count) view, ap (λ (m : Marks). length m.found) view, c.self-in-loop-next.inside.found.ok.0)

from_is_passable : (c : After-index-from) → IsPassable c.args.grid.now c.index-from.result.now
from_is_passable c =
    let view = c.self-in-loop-next.view_is in
    let less : c.loop-next.next < c.loop-next.self.count = omega (arith, ap (λ (m : Marks). m.count) view) in
    let at = c.index-from.ensures ∙ ap (λ (m : Marks). get_or m.found c.loop-next.next c.index-from.result.now) view in
    queued_passable _ _ _ _ _ _ _ c.requires.label c.loop-next.invariant less at

pub claim-requires-clause-from : goal.claim-requires-clause-from
claim-requires-clause-from c = from_is_passable (goal.at.claim-requires-clause-from c).After-index-from

pub claim-requires-in-loop-next-clause-from : goal.claim-requires-in-loop-next-clause-from
claim-requires-in-loop-next-clause-from c = from_is_passable (goal.at.claim-requires-in-loop-next-clause-from c).After-index-from

pub claim-requires-in-loop-next-2-clause-from : goal.claim-requires-in-loop-next-2-clause-from
claim-requires-in-loop-next-2-clause-from c = from_is_passable (goal.at.claim-requires-in-loop-next-2-clause-from c).After-index-from

pub claim-requires-in-loop-next-3-clause-from : goal.claim-requires-in-loop-next-3-clause-from
claim-requires-in-loop-next-3-clause-from c = from_is_passable (goal.at.claim-requires-in-loop-next-3-clause-from c).After-index-from

class_is : (c : After-index-from) → c.terrain-class.result ≡ terrain_of c.args.grid.now c.index-from.result.now
class_is c =
    let view = c.self-in-loop-next.view_is in
    let less : c.loop-next.next < c.loop-next.self.count = omega (arith, ap (λ (m : Marks). m.count) view) in
    let at = c.index-from.ensures ∙ ap (λ (m : Marks). get_or m.found c.loop-next.next c.index-from.result.now) view in
    c.terrain-class.ensures.inside c.requires.root.passable.inside
    ∙ sym (queued_class _ _ c.requires.label _ _ c.requires.root c.requires.flooded _ _ c.loop-next.invariant _ less at)

pub claim-requires-clause-class : goal.claim-requires-clause-class
claim-requires-clause-class c = class_is (goal.at.claim-requires-clause-class c).After-index-from

pub claim-requires-in-loop-next-clause-class : goal.claim-requires-in-loop-next-clause-class
claim-requires-in-loop-next-clause-class c =
    class_is (goal.at.claim-requires-in-loop-next-clause-class c).After-index-from

pub claim-requires-in-loop-next-2-clause-class : goal.claim-requires-in-loop-next-2-clause-class
claim-requires-in-loop-next-2-clause-class c =
    class_is (goal.at.claim-requires-in-loop-next-2-clause-class c).After-index-from

pub claim-requires-in-loop-next-3-clause-class : goal.claim-requires-in-loop-next-3-clause-class
claim-requires-in-loop-next-3-clause-class c =
    class_is (goal.at.claim-requires-in-loop-next-3-clause-class c).After-index-from

pub loop-next-smaller : goal.loop-next-smaller
loop-next-smaller c =
    let view = c.self-in-loop-next.view_is in
    let most = count_within _ _ c.loop-next.invariant.spread.balanced in
    omega (arith, ap (λ (m : Marks). m.count) view, c.loop-next.invariant.spread.balanced.room, c.claim-in-loop-next-3.ensures.balanced.room)

pub loop-next-preserved : goal.loop-next-preserved
loop-next-preserved c =
    let view = c.self-in-loop-next.view_is in
    let less : c.loop-next.next < c.loop-next.self.count = omega (arith, ap (λ (m : Marks). m.count) view) in
    let at = c.index-from.ensures ∙ ap (λ (m : Marks). get_or m.found c.loop-next.next c.index-from.result.now) view in
    spreading_more _ _ c.requires.label _ _ c.requires.root c.requires.flooded _ _ c.loop-next.invariant _ less at _ _ _ _
    c.claim.ensures.claimed c.claim.ensures.balanced c.claim-in-loop-next.ensures.claimed c.claim-in-loop-next.ensures.balanced
    c.claim-in-loop-next-2.ensures.claimed c.claim-in-loop-next-2.ensures.balanced c.claim-in-loop-next-3.ensures.claimed

pub returns-clause-flooded : goal.returns-clause-flooded
returns-clause-flooded c =
    let done : c.loop-next.self.count ≤ c.loop-next.next = omega (arith, ap (λ (m : Marks). m.count) c.self-in-loop-next.view_is) in
    flooded_more _ _ c.requires.label _ _ c.requires.root c.requires.flooded _ _ c.loop-next.invariant done
