-- Laws of histories.
use Rattle.std.specs.Prelude.{◌≡◌, ◌↔◌, ℕ, ◌≤◌, List, [], ◌∷◌, ◌++◌, length, count_by}
use Rattle.moves.specs.Maps.{Map}
use Rattle.moves.specs.declared.Cell.{Cell}
use Rattle.cell_order.specs.declared.OrderKind.{OrderKind}
use Rattle.versions.specs.Databases.{Versioned}
use Rattle.versions.specs.Answers.{Answer}
use Rattle.path_core.specs.declared.TheConstants.{MAX_ENTRIES}
use Rattle.path_core.specs.declared.entry.Entry.{Entry}
use Rattle.path_core.specs.Histories.{accepted_count, is_halt, map_at, published_prefix, IsAnswerAt, IsLegal, IsVersionAt, MayFollow}
use Rattle.path_core.specs.Boards.{MayBePublished}

-- a history is legal step by step: with one more entry exactly if it is legal and the entry may follow
pub record IsLegalByStep (start : Map) : Type 0 where
  pub none : IsLegal start []
  pub step : (history : List Entry) (entry : Entry)
      → IsLegal start (history ++ entry ∷ []) ↔ (IsLegal start history × MayFollow start history entry)

abbrev pub LegalStepByStep : Type 0
LegalStepByStep = (start : Map) → IsLegalByStep start

-- each beginning of a legal history is legal
abbrev pub BeginningsAreLegal : Type 0
BeginningsAreLegal = (start : Map) (history more : List Entry) → IsLegal start (history ++ more) → IsLegal start history

-- in a legal history the published version includes only accepted edits, at most one halt is entered, and there are at
-- most MAX_ENTRIES entries
pub record IsBounded (history : List Entry) : Type 0 where
  pub published : published_prefix history ≤ accepted_count history
  pub halts : count_by is_halt history ≤ 1
  pub entries : length history ≤ MAX_ENTRIES

abbrev pub LegalHistoriesAreBounded : Type 0
LegalHistoriesAreBounded = (start : Map) (history : List Entry) → IsLegal start history → IsBounded history

-- as a legal history grows, the published version is never replaced by an older one
abbrev pub PublishedPrefixesRise : Type 0
PublishedPrefixesRise = (start : Map) (history more : List Entry) → IsLegal start (history ++ more)
    → published_prefix history ≤ published_prefix (history ++ more)

-- Accepted edits stay as a history grows, and so do the map after any number of them, its version, whether that may be
-- published, and the answer to a query.
pub record IsLasting (start : Map) (order : OrderKind) (history more : List Entry) : Type 0 where
  pub accepted : accepted_count history ≤ accepted_count (history ++ more)
  pub maps : (prefix : ℕ) → prefix ≤ accepted_count history → map_at start (history ++ more) prefix ≡ map_at start history prefix
  pub versions : (prefix : ℕ) (version : Versioned) → prefix ≤ accepted_count history
      → IsVersionAt start order history prefix version → IsVersionAt start order (history ++ more) prefix version
  pub publications : (version : Versioned) → MayBePublished start order history version
      → MayBePublished start order (history ++ more) version
  pub answers : (prefix : ℕ) (from goal : Cell) (answer : Answer) → prefix ≤ accepted_count history
      → IsAnswerAt start order history prefix from goal answer → IsAnswerAt start order (history ++ more) prefix from goal answer

abbrev pub AcceptedEditsStay : Type 0
AcceptedEditsStay = (start : Map) (order : OrderKind) (history more : List Entry) → IsLasting start order history more
