use Rattle.std.proofs.Common.{◌≡◌, ℕ, ◌+◌, List, subst, sym, ap, ◌∙◌, arith, ◌<◌, length, get_or, set, take, All, length-set}
use Rattle.std.proofs.lemmas.List.{get_or_default}
use Rattle.first_sets.specs.Memory.{AreEmptyBut}
use Rattle.moves.specs.declared.Cell.{Cell}
use Rattle.moves.specs.Maps.{Map, place_of}
use Rattle.first_sets.specs.Steps.{HaveFirstSets, IsPassed}
use Rattle.first_sets.proofs.Bridging.{can_join_at, made_at}
use Rattle.first_sets.proofs.Filling.{filled_first, filled_inside, filled_written, noted_more, ArePlaces}
use Rattle.first_sets.proofs.Passing.{passed_more}
use Rattle.first_sets.proofs.sparse_sets.pass_on.Goals as goal

-- the place that the code looks up is that of the next of the settled cells
place_of_next : (map : Map) (settled items : List Cell) (source : Cell) (i place width : ℕ) → items ≡ settled → width ≡ map.width
    → i < length settled → place ≡ place_of width (get_or items i (record { x = 0; y = 0 })) → place ≡ place_of map.width (get_or settled i source)
place_of_next map settled items source i place width same wide low at =
    let filler : Cell = record { x = 0; y = 0 } in
    let here = ap (λ cells. get_or cells i filler) same ∙ get_or_default settled i filler source low in
    at ∙ ap (λ w. place_of w (get_or items i filler)) wide ∙ ap (place_of map.width) here

-- the set of the source has all moves in the end
source_written : (map : Map) (source : Cell) (sets : List ℕ) (place mask width : ℕ) → place ≡ place_of width source → width ≡ map.width
    → mask ≡ 255 → set sets place mask ≡ set sets (place_of map.width source) 255
source_written map source sets place mask width at wide all =
    ap (λ p. set sets p mask) (at ∙ ap (λ w. place_of w source) wide) ∙ ap (set sets (place_of map.width source)) all

pub bounds-places-index : goal.bounds-places-index
bounds-places-index c =
    let long = ap length c.loop-index.invariant.order in
    omega arith

pub join_beside-requires : goal.join_beside-requires
join_beside-requires c =
    let map = c.args.grid.now in
    let search = c.args.search.now in
    let source = c.args.source in
    let known = c.loop-index.invariant in
    let i = c.loop-index.index in
    let long = ap length known.order in
    let low : i < length search.settled = omega arith in
    let at = place_of_next map search.settled c.settled-cell-items.result.now source i c.place-place.result _
    known.order known.wide low c.place-place.ensures in
    can_join_at map source search c.requires.searched c.move_masks-legal.result.now c.loop-index.sets c.move_masks-legal.ensures i low
    c.of-around.result.width c.place-place.result c.keys-keys.result.now (c.of-around.ensures ∙ known.wide) c.keys-keys.ensures at
    c.width-width.ensures.limits.cells (omega arith)

pub loop-index-preserved : goal.loop-index-preserved
loop-index-preserved c =
    let map = c.args.grid.now in
    let search = c.args.search.now in
    let source = c.args.source in
    let known = c.loop-index.invariant in
    let i = c.loop-index.index in
    let long = ap length known.order in
    let low : i < length search.settled = omega arith in
    let at = place_of_next map search.settled c.settled-cell-items.result.now source i c.place-place.result _
    known.order known.wide low c.place-place.ensures in
    let made = made_at map source search c.requires.searched c.move_masks-legal.result.now c.loop-index.sets c.move_masks-legal.ensures i low
    c.of-around.result.width c.place-place.result c.keys-keys.result.now
    (c.of-around.ensures ∙ known.wide) c.keys-keys.ensures at c.join_beside.result c.join_beside.ensures in
    let more = passed_more map source search c.requires.searched c.requires.source i c.loop-index.sets known.passed low
    (omega arith) c.join_beside.result made in
    record {
      order = known.order;
      wide = known.wide;
      passed = subst (λ p. IsPassed map source search (i + 1) (set c.loop-index.sets p c.join_beside.result)) (sym at) more;
      noted = noted_more map search.settled source i c.loop-index.places known.noted c.place-place.result at (omega arith);
    }

pub returns-clause-first : goal.returns-clause-first
returns-clause-first c =
    let map = c.args.grid.now in
    let source = c.args.source in
    let search = c.args.search.now in
    let sets = c.loop-index.sets in
    let known = c.loop-index.invariant in
    let long = ap length known.order in
    let last : c.loop-index.index ≡ length search.settled = omega arith in
    let passed = subst (λ n. IsPassed map source search n sets) last known.passed in
    let same = source_written map source sets c.place.result c.mask.result _ c.place.ensures known.wide c.mask.ensures in
    subst (HaveFirstSets map source) (sym same)
    (filled_first map source search c.requires.searched c.requires.source sets passed (omega arith))

pub returns-clause-noted : goal.returns-clause-noted
returns-clause-noted c =
    let map = c.args.grid.now in
    let source = c.args.source in
    let search = c.args.search.now in
    let sets = c.loop-index.sets in
    let places = c.loop-index.places in
    let known = c.loop-index.invariant in
    let long = ap length known.order in
    let last : c.loop-index.index ≡ length search.settled = omega arith in
    let passed = subst (λ n. IsPassed map source search n sets) last known.passed in
    let noted = subst (λ n. ArePlaces map search.settled source n places) last known.noted in
    let inside = filled_inside map source search c.requires.searched c.requires.source sets passed (omega arith) places (omega arith) noted in
    let same = source_written map source sets c.place.result c.mask.result _ c.place.ensures known.wide c.mask.ensures in
    record {
      counted = omega arith;
      noted = record {
        inside = subst (λ n. All (λ place. place < n) (take (length search.settled) places)) (sym (length-set sets c.place.result c.mask.result)) inside;
        written = subst (AreEmptyBut (take (length search.settled) places)) (sym same)
            (filled_written map source search c.requires.searched c.requires.source sets passed (omega arith) places (omega arith) noted);
      };
    }
