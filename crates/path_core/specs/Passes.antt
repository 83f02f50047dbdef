-- What a pass has seen of a board's history, and how it grows while others use the board too.
use Rattle.std.specs.Prelude.{◌≡◌, ◌≢◌, ℕ, List, [], ◌∷◌, ◌++◌, All}
use Rattle.path_core.specs.declared.entry.Entry.{Entry}
use Rattle.path_core.specs.declared.entry.Entry.TheVariants.{Accept, Publish, Halt}

-- the pass that made an entry
abbrev pub pass_of : Entry → ℕ
pass_of (Accept pass edit) = pass
pass_of (Publish pass prefix) = pass
pass_of (Halt pass) = pass

-- one history begins with the other
pub record BeginsWith (history first : List Entry) : Type 0 where
  pub rest : List Entry
  pub is : history ≡ first ++ rest

-- others may have added entries, but the pass has added none
pub record OthersAdd (pass : ℕ) (old new : List Entry) : Type 0 where
  pub more : List Entry
  pub grown : new ≡ old ++ more
  pub none : All (λ entry. pass_of entry ≢ pass) more

-- others may have added entries, and then the pass added this one
pub record AddsOwn (pass : ℕ) (entry : Entry) (old new : List Entry) : Type 0 where
  pub between : List Entry
  pub others : OthersAdd pass old between
  pub own : new ≡ between ++ entry ∷ []
