use Rattle.std.proofs.Common.{◌≡◌, ◌<◌, Contains, length, get_or, slice_index, ap, sym, subst, ◌∙◌, arith}
use Rattle.std.proofs.lemmas.List.{get_or_default}
use Rattle.moves.specs.Rectangles.{place_in}
use Rattle.row_store.proofs.Numbers.{place_of_contained}
use Rattle.row_store.proofs.CompData.place_of.Goals as goal

pub returns : goal.returns
returns c =
    let below : c.place.result < length c.self.inside.places.items = omega (arith, c.place.ensures.inside, c.self.invariant.1.whole) in
    let read = get_or_default c.self.inside.places.items c.place.result c.index.result.now 0 below in
    let number : c.from.result ≡ slice_index c.self.inside.places.items (place_in c.self.inside.bounds c.args.cell) =
    c.from.ensures ∙ c.index.ensures ∙ read ∙ ap (λ at. get_or c.self.inside.places.items at 0) c.place.ensures.place in
    rw (← c.self.view_is)
    (place_of_contained c.self.inside.cells.items c.self.inside.bounds c.self.inside.places.items c.args.cell c.from.result c.self.invariant.1
    (subst (λ comp. Contains comp.cells c.args.cell) (sym c.self.view_is) c.requires) number)
