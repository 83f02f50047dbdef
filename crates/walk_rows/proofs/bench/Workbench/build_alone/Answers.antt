use Rattle.std.proofs.Common.{refl}
use Rattle.build_pool.proofs.Connecting.{packable}
use Rattle.walk_rows.proofs.Keeping.{packed_words}
use Rattle.walk_rows.proofs.bench.Workbench.build_alone.Goals as goal

pub append_words-requires : goal.append_words-requires
append_words-requires c =
    rw c.sets.ensures (packable _ _ c.requires.cells.component _ _ c.requires.place c.requires.cells.sources.few c.in_ok-find.ensures.first)

pub returns-clause-row : goal.returns-clause-row
returns-clause-row c = record {
  place = c.args.place;
  at = record { within = c.requires.place; there = refl };
  are =
      packed_words _ _ c.requires.cells.component c.args.place c.requires.place c.requires.cells.sources.few _ _ c.in_ok-find.ensures.first
      (rw (c.sets.ensures, c.clear.ensures.items) at c.in_ok-append_words.ensures.ok);
}
