use Rattle.std.proofs.Common.{◌≡◌, ◌<◌, length, get_or, slice_index, ap, ◌∙◌, arith, rules}
use Rattle.std.proofs.lemmas.List.{get_or_default}
use Rattle.moves.specs.Rectangles.{IsWithin, place_in}
use Rattle.row_store.proofs.Numbers.{place_of_cell}
use Rattle.row_store.proofs.CompData.index.Goals as goal

pub returns-else-place-clause-some : goal.returns-else-place-clause-some
returns-else-place-clause-some c =
    let inside : IsWithin c.self.inside.bounds c.args.cell = search rules in
    let below : c.place.result < length c.self.inside.places.items = omega (arith, c.place.ensures.inside, c.self.invariant.1.whole) in
    let read = get_or_default c.self.inside.places.items c.place.result c.index-place.result.now 0 below in
    let number : c.from.result ≡ slice_index c.self.inside.places.items (place_in c.self.inside.bounds c.args.cell) =
    c.from.ensures ∙ c.index-place.ensures ∙ read ∙ ap (λ at. get_or c.self.inside.places.items at 0) c.place.ensures.place in
    rw (← c.self.view_is)
    (place_of_cell c.self.inside.cells.items c.self.inside.bounds c.self.inside.places.items c.args.cell c.from.result c.self.invariant.1 inside number
    (λ none. c.if-place.false (omega (arith, none, c.from.ensures))))
