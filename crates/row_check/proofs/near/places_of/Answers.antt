use Rattle.std.proofs.Common.{◌≡◌, List, arith, refl, ap, ◌∙◌}
use Rattle.std.proofs.lemmas.List.{get_or_default}
use Rattle.moves.specs.declared.Cell.{Cell}
use Rattle.moves.specs.FirstSetLists.{cell_of}
use Rattle.moves.specs.Rectangles.{place_in}
use Rattle.row_store.proofs.Numbers.{numbered_more, numbered_all}
use Rattle.row_check.proofs.near.places_of.Goals as goal

pub loop-place-preserved : goal.loop-place-preserved
loop-place-preserved c =
    let cells : List Cell = c.args.cells.now in
    let less = c.loop-place-test.true in
    let cell = get_or_default cells c.loop-place.place _ (record { x = 0; y = 0 }) less in
    let at : c.place.result ≡ place_in c.args.bounds.now (cell_of cells c.loop-place.place) = c.place.ensures.place ∙ ap (place_in c.args.bounds.now) cell in
    rw at (numbered_more _ _ _ _ c.loop-place.invariant c.requires.within c.requires.cells.once less _ refl)

pub returns : goal.returns
returns c = numbered_all _ _ _ _ c.loop-place.invariant c.requires.within (omega arith)
