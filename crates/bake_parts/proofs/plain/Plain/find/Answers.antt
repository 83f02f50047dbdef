use Rattle.build_pool.proofs.Connecting.{packable}
use Rattle.walk_rows.proofs.Keeping.{packed_words}
use Rattle.bake_parts.proofs.plain.Plain.find.Goals as goal

pub append_words-requires : goal.append_words-requires
append_words-requires c =
    let first = rw c.cells.ensures at c.in_ok-find.ensures.first in
    rw c.sets.ensures (packable _ _ c.requires.component _ _ c.requires.place c.requires.few first)

pub returns-clause-row : goal.returns-clause-row
returns-clause-row c =
    let first = rw c.cells.ensures at c.in_ok-find.ensures.first in
    packed_words _ _ c.requires.component c.args.place c.requires.place c.requires.few _ _ first (rw (c.sets.ensures, c.clear.ensures.items) at c.in_ok-append_words.ensures.ok)
