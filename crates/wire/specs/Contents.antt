-- Claims about told bytes. `None` if they are not told.
use Rattle.std.specs.Prelude.{ℕ, ◌≡◌, ◌<◌, ◌≤◌, List, length, take, Option, IfSome}
use Rattle.std.specs.Io.KnownBytes.{Appends}
use Rattle.wire.specs.Causes.{NoneFell}

-- told bytes are these
abbrev pub Tells : Option (List ℕ) → List ℕ → Type 0
Tells told bytes = IfSome told (λ held. bytes ≡ held)

-- told bytes are at most this many
abbrev pub TellsAtMost : Option (List ℕ) → ℕ → Type 0
TellsAtMost told limit = IfSome told (λ held. length held ≤ limit)

-- told bytes are more than this
abbrev pub TellsMoreThan : Option (List ℕ) → ℕ → Type 0
TellsMoreThan told limit = IfSome told (λ held. limit < length held)

-- what is told of each name is unchanged
abbrev pub TellsTheSame : (List ℕ → Option (List ℕ)) → (List ℕ → Option (List ℕ)) → Type 0
TellsTheSame before now = (name : List ℕ) → now name ≡ before name

-- what is known of files: the bytes that a name holds, if they are told, and how often reading a
-- name has failed
pub record AtFiles : Type 0 where
  pub content : List ℕ → Option (List ℕ)
  pub faults : List ℕ → ℕ

-- files were read between the two: what they tell is unchanged, and no fault count has fallen
pub record AreRead (old new : AtFiles) : Type 0 where
  pub kept : TellsTheSame old.content new.content
  pub later : NoneFell old.faults new.faults

-- told bytes grew by a first part of the text, less than the whole: for `path` by nothing, `p`,
-- `pa` or `pat`
abbrev pub PutsPrefix : Option (List ℕ) → Option (List ℕ) → List ℕ → Type 0
PutsPrefix before after text =
    (count : ℕ) × (count < length text) × Appends before after (take count text)
