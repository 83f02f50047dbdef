-- How rows are laid out in blocks of words, and the places of cells in their bounds.
use Rattle.std.specs.Prelude.{◌≡◌, ℕ, ◌+◌, ◌-◌, ◌*◌, ◌^◌, ◌<◌, ◌≤◌, ◌⊎◌, List, [], ◌∷◌, ◌++◌, length, map, take, drop, slice_index, slice_index_or, All, sum_by}
use Rattle.run_pack.specs.declared.Run.{Run}
use Rattle.run_pack.specs.declared.TheConstants.{MAX_PLACES}
use Rattle.run_pack.specs.Runs.{run_of_word}
use Rattle.moves.specs.declared.Cell.{Cell}
use Rattle.moves.specs.declared.TheConstants.{MAX_PASSABLE}
use Rattle.moves.specs.FirstSetLists.{cell_of}
use Rattle.moves.specs.Rectangles.{Rectangle, IsWithin, place_in}
use Rattle.row_store.specs.declared.pool.Span.{Span}
use Rattle.row_store.specs.declared.TheConstants.{NO_PLACE}
use Rattle.row_store.specs.declared.pool.TheConstants.{MAX_BLOCKS}

-- the words of the block with that number
abbrev pub block_numbered : List (List ℕ) → ℕ → List ℕ
block_numbered blocks number = slice_index_or blocks number []

-- all blocks: the closed ones, and then the last one
abbrev pub blocks_of : List (List ℕ) → List ℕ → List (List ℕ)
blocks_of closed words = closed ++ words ∷ []

-- the limit on the words of a block: a span keeps its start in 32 bits
abbrev pub start_limit : ℕ
start_limit = 2 ^ 32

-- the words of the block with that number, from `start` up to but not including `end`, can be those of a row
pub record CanBeSpan (block start end : ℕ) : Type 0 where
  pub number : block < MAX_BLOCKS
  pub order : start ≤ end
  pub short : end - start ≤ MAX_PLACES
  pub limit : end < start_limit

-- the words of a row
abbrev pub words_at : List (List ℕ) → Span → List ℕ
words_at blocks span = take span.len (drop span.start (block_numbered blocks span.block))

-- the row with the words of this span
unfoldable pub row_in : List (List ℕ) → Span → List Run
row_in blocks span = map run_of_word (words_at blocks span)

-- the rows with the words of these spans
abbrev pub rows_in : List (List ℕ) → List Span → List (List Run)
rows_in blocks spans = map (row_in blocks) spans

-- the rows are in the blocks, none is longer than a row may be, and each word belongs to a row
pub record AreSpans (blocks : List (List ℕ)) (spans : List Span) : Type 0 where
  pub there : All (λ span. span.block < length blocks) spans
  pub inside : All (λ span. span.start + span.len ≤ length (block_numbered blocks span.block)) spans
  pub short : All (λ span. span.len ≤ MAX_PLACES) spans
  pub few : length spans ≤ MAX_PASSABLE
  pub numbered : length blocks ≤ MAX_BLOCKS
  pub all : sum_by (λ span. span.len) spans ≡ sum_by length blocks

-- the span with its block number raised by `blocks`
abbrev pub moved : ℕ → Span → Span
moved blocks span = record { start = span.start; len = span.len; block = blocks + span.block }

-- a span without words
abbrev pub nowhere : Span
nowhere = record { start = 0; len = 0; block = 0 }

-- the span at a place
abbrev pub span_at : List Span → ℕ → Span
span_at spans place = slice_index_or spans place nowhere

-- both rows have words
pub record HaveWords (own other : Span) : Type 0 where
  pub first : 0 < own.len
  pub second : 0 < other.len

-- at no place before `upto` do both lists have a row with words
pub record AreApart (own others : List Span) (upto : ℕ) : Type 0 where
  pub each : (place : ℕ) → place < upto → ((span_at own place).len ≡ 0) ⊎ ((span_at others place).len ≡ 0)

-- the row's own span if it has words, otherwise the other one with its block number raised by `blocks`
pub record IsFilled (blocks : ℕ) (own other now : Span) : Type 0 where
  pub blank : own.len ≡ 0 → now ≡ moved blocks other
  pub kept : (own.len ≡ 0 → ⊥) → now ≡ own

-- the spans of one list before that place are filled from those of another, and the rest are unchanged
pub record AreFilled (blocks : ℕ) (before others now : List Span) (upto : ℕ) : Type 0 where
  pub whole : length now ≡ length before
  pub each : (place : ℕ) → place < upto → IsFilled blocks (span_at before place) (span_at others place) (span_at now place)
  pub rest : (place : ℕ) → upto ≤ place → span_at now place ≡ span_at before place

-- all cells are in the area, and each place of the area has the number of its cell, or NO_PLACE if it has no cell
pub record ArePlaces (cells : List Cell) (area : Rectangle) (places : List ℕ) : Type 0 where
  pub whole : length places ≡ area.width * area.height
  pub within : All (IsWithin area) cells
  pub found : (place : ℕ) → place < length cells → slice_index places (place_in area (cell_of cells place)) ≡ place
  pub only : (at : ℕ) → at < length places → (slice_index places at ≡ NO_PLACE)
      ⊎ ((slice_index places at < length cells) × (place_in area (cell_of cells (slice_index places at)) ≡ at))
