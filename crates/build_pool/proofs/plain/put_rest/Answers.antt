use Rattle.build_pool.proofs.plain.put_rest.Goals as goal

pub put_blank-requires-clause-board : goal.put_blank-requires-clause-board
put_blank-requires-clause-board c = record {
  just = c.in_ok-board.ensures.just;
  component = c.requires.sources.component _ c.in_ok-board.ensures.just;
  searchable = c.in_ok-board.ensures.searchable;
  few = c.requires.sources.few;
}
