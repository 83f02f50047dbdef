use Rattle.kept_rows.proofs.Surveying.{moved_inside}
use Rattle.kept_rows.proofs.pair.Pair.search.Goals as goal

pub search-whole-requires-clause-inside : goal.search-whole-requires-clause-inside
search-whole-requires-clause-inside c = moved_inside _ _ _ c.requires.can.cells _ _ c.moved-places.ensures c.requires.inside
