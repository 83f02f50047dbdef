use Rattle.grid_search.proofs.Keeping.{keys_back}
use Rattle.grid_search.proofs.Search.keys.Goals as goal

pub returns : goal.returns
returns c = rw (c.deref.ensures.value, ← c.self.view_is) (keys_back _ _ c.self.invariant.fits c.self.invariant.proper)
