-- What a key stands for: the key of a cost gives that cost, and a cost that was read from a key has that key.
use Rattle.std.proofs.Common.{◌≡◌, ℕ, ◌<◌, ap, ◌∙◌}
use Rattle.root_cost.specs.declared.Cost.{Cost}
use Rattle.root_cost.specs.declared.TheConstants.{NO_KEY, KEYED_DIAGONALS}
use Rattle.root_cost.specs.Keys.{key_of, cost_if_key}
use Rattle.root_cost.proofs.Keys.{cost_if_of, cost_if_none}
use Rattle.grid_search.specs.Searches.{key_or_none}

pub proper_none : key_or_none (cost_if_key NO_KEY) ≡ NO_KEY
proper_none = ap key_or_none cost_if_none

pub proper_some : (key : ℕ) (cost : Cost) → key_of cost ≡ key → cost.diagonal < KEYED_DIAGONALS → key < NO_KEY → key_or_none (cost_if_key key) ≡ key
proper_some key cost e h k = ap key_or_none (cost_if_of key cost e h k) ∙ e
