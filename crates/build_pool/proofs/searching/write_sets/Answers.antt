use Rattle.std.proofs.Common.{ℕ, ◌<◌, List, All, arith, rules}
use Rattle.std.proofs.lemmas.List.Elements.{All-from_get_or}
use Rattle.build_pool.proofs.Connecting.{passable_cell}
use Rattle.build_pool.proofs.Sourcing.{written_none, written_more}
use Rattle.build_pool.proofs.searching.write_sets.Goals as goal

pub from_source-requires-clause-source : goal.from_source-requires-clause-source
from_source-requires-clause-source c = passable_cell _ _ c.requires.component _ c.requires.place

pub fill-requires-clause-source : goal.fill-requires-clause-source
fill-requires-clause-source c = passable_cell _ _ c.requires.component _ c.requires.place

pub loop-place-init : goal.loop-place-init
loop-place-init c =
    let bytes : List ℕ = c.args.bytes.now in
    let small : All (λ s. s < 256) bytes = All-from_get_or (λ s. s < 256) bytes 0 (λ k within. search rules) in
    written_none _ _ _ _ c.requires.bytes small

pub set_of-requires-clause-column : goal.set_of-requires-clause-column
set_of-requires-clause-column c =
    let free = passable_cell _ _ c.requires.component c.loop-place.place c.loop-place-test.true in
    omega (arith, free.inside.column, c.fill.ensures.filled.width)

pub set_of-requires-clause-row : goal.set_of-requires-clause-row
set_of-requires-clause-row c =
    let free = passable_cell _ _ c.requires.component c.loop-place.place c.loop-place-test.true in
    omega (arith, free.inside.row, c.fill.ensures.filled.height)

pub loop-place-preserved : goal.loop-place-preserved
loop-place-preserved c =
    written_more _ _ _ _ _ _ c.loop-place.invariant c.loop-place-test.true (search rules)
    (rw c.mask.ensures (c.set_of.ensures.first _ _ c.fill.ensures.filled))
