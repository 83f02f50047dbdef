-- What a board's calls tell of the book's state.
use Rattle.std.specs.Prelude.{◌≡◌, ◌≢◌, ℕ, [], ◌∷◌, ◌++◌}
use Rattle.std.specs.Arc.{arc_value}
use Rattle.path_core.specs.declared.entry.Entry.{Entry}
use Rattle.path_core.specs.Boards.{Boarded}
use Rattle.path_core.specs.Histories.{published_prefix, IsLegal, IsVersionAt}
use Rattle.path_board.specs.declared.state.BoardState.{BoardState}
use Rattle.path_board.specs.declared.state.Copied.{Copied}
use Rattle.path_board.specs.declared.state.Copied.TheVariants.{Held, Copy, Refused}
use Rattle.path_board.specs.Foundations.{foundation_of}
use Rattle.path_board.specs.Listed.{listed}

-- the board's history is legal, and its version is the one that was published last
pub record IsSound (board : Boarded) : Type 0 where
  pub legal : IsLegal board.start board.history
  pub version : IsVersionAt board.start board.order board.history (published_prefix board.history) board.version

-- the state stands for its board's history
pub record IsState (state : BoardState) : Type 0 where
  pub sound : IsSound state.board
  pub list : listed state.board.history ≡ state.board.history

-- the one state stands for the history of the other with one entry more
pub record AddsEntry (old new : BoardState) (entry : Entry) : Type 0 where
  pub history : new.board.history ≡ old.board.history ++ entry ∷ []
  pub list : listed new.board.history ≡ listed old.board.history ++ entry ∷ []
  pub base : foundation_of new.board ≡ foundation_of old.board

-- what whoever holds a version of that prefix gets of the published one
abbrev pub IsCopied : Boarded → ℕ → Copied → Type 0
IsCopied board held Held = published_prefix board.history ≡ held
IsCopied board held (Copy copy) = arc_value copy ≡ board.version
IsCopied board held Refused = published_prefix board.history ≢ held
