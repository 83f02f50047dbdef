use Rattle.std.proofs.Common.{◌++◌, drop, take, sym, subst, arith}
use Rattle.std.proofs.lemmas.List.{length-take, take-append-le}
use Rattle.path_client.specs.Taking.{Takes}
use Rattle.follow_node.proofs.Messages.{piece_stops}
use Rattle.follow_node.proofs.links.take_piece.Goals as goal

pub returns-in-Ok-clause-none : goal.returns-in-Ok-clause-none
returns-in-Ok-clause-none g c =
    let count = c.in-Ok.count in
    let most = c.min-most.result in
    let room = c.take_some.new.room in
    let rest = drop most c.args.room.now in
    let lent = length-take most c.args.room.now in
    piece_stops c.args.wanted _ _ _ _ _ (take count (room ++ rest))
    (subst (λ l. Takes (g.L.Link.at c.args.link.now).talk (g.L.Link.at c.take_some.new.link).talk l)
    (sym (take-append-le count room rest (omega (arith, c.in-Ok.ensures.count, c.take_some.auto.room)))) c.in-Ok.ensures.taken)
    (omega (arith, length-take count (room ++ rest), c.in-Ok.ensures.count, lent, c.min-most.ensures)) c.give.result c.give.ensures.fault
