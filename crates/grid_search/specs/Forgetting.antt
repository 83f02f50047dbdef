-- Removing the keys at the places of some cells of maps with rows of the given width.
use Rattle.std.specs.Prelude.{◌≡◌, ℕ, ◌<◌, List, slice_index_or, All, Any}
use Rattle.moves.specs.declared.Cell.{Cell}
use Rattle.moves.specs.Maps.{place_of}
use Rattle.root_cost.specs.declared.TheConstants.{NO_KEY}

-- the places of all these cells are below the limit
abbrev pub HavePlaces : ℕ → List Cell → ℕ → Type 0
HavePlaces width cells limit = All (λ cell. place_of width cell < limit) cells

-- there is no key at the places of these cells, nor where there was none before
pub record AreForgotten (width : ℕ) (cells : List Cell) (before after : List ℕ) : Type 0 where
  pub gone : (place : ℕ) → Any (λ cell. place_of width cell ≡ place) cells → slice_index_or after place NO_KEY ≡ NO_KEY
  pub others : (place : ℕ) → slice_index_or before place NO_KEY ≡ NO_KEY → slice_index_or after place NO_KEY ≡ NO_KEY
