use Rattle.std.proofs.Common.{◌<◌, length, get_or, ap, ◌∙◌, arith, rules}
use Rattle.std.proofs.lemmas.List.{get_or_default}
use Rattle.moves.specs.Rectangles.{IsWithin}
use Rattle.row_store.specs.Comps.{IsPlaceOf}
use Rattle.row_store.proofs.Numbers.{place_of_cell}
use Rattle.row_check.proofs.near.Places.find.Goals as goal
use Rattle.row_check.proofs.near.Places.find.Goals.{Else-place}

found : (c : Else-place) → IsPlaceOf c.args.cells.now c.args.cell c.index-place.result.now
found c =
    let known = c.requires.known.places in
    let inside : IsWithin c.args.self.now.bounds c.args.cell = search rules in
    let below : c.place.result < length c.args.self.now.places.items = omega (arith, c.place.ensures.inside, known.whole) in
    let read = get_or_default c.args.self.now.places.items c.place.result c.index-place.result.now 0 below in
    place_of_cell _ _ _ _ _ known inside (c.index-place.ensures ∙ read ∙ ap (λ at. get_or c.args.self.now.places.items at 0) c.place.ensures.place) c.if-place.false

pub returns-else-place-clause-found : goal.returns-else-place-clause-found
returns-else-place-clause-found c = λ l. (found c).there

pub returns-else-place-clause-missing : goal.returns-else-place-clause-missing
returns-else-place-clause-missing c = λ same here. (let l = (found c).within in omega (arith, same, l))
