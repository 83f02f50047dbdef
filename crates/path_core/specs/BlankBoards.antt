-- Boards of three blocked cells, on which edits that block cells change nothing. Only tests use them.
use Rattle.std.specs.Prelude.{ℕ, []}
use Rattle.moves.specs.Maps.{blocked_map}
use Rattle.cell_order.specs.declared.OrderKind.TheVariants.{Rows}
use Rattle.versions.specs.Databases.{Versioned, version_of}
use Rattle.path_core.specs.Boards.{Boarded}
use Rattle.path_core.specs.Histories.{IsVersionAt}

-- the version of three blocked cells after this number of edits
unfoldable pub blank_after : ℕ → Versioned
blank_after prefix = version_of (blocked_map 3 1) prefix Rows []

-- it is the version of the board at each prefix
pub record IsBlank (board : Boarded) : Type 0 where
  pub versions : (prefix : ℕ) → IsVersionAt board.start board.order board.history prefix (blank_after prefix)
