-- Images as bytes, and what a sink was given of them.
use Rattle.std.specs.Prelude.{◌≡◌, ℕ, ◌+◌, ◌/◌, ◌%◌, List, [], ◌∷◌, ◌++◌, length, map, Option}
use Rattle.std.specs.List.{flat_map, range_with_len}
use Rattle.std.specs.Io.KnownBytes.{Appends}
use Rattle.wire.specs.Contents.{PutsPrefix}
use Rattle.row_store.specs.Comps.{Comp}
use Rattle.path_image.specs.Images.{row_start}

-- a word as four bytes, the lowest first
abbrev pub word_bytes : ℕ → List ℕ
word_bytes word = word % 256 ∷ word / 256 % 256 ∷ word / 65536 % 256 ∷ word / 16777216 % 256 ∷ []

-- words as bytes
abbrev pub bytes_of : List ℕ → List ℕ
bytes_of words = flat_map word_bytes words

-- what was held and the bytes of these words are put, but for what is held then
pub record Puts (told : Option (List ℕ)) (held : List ℕ) (told_now : Option (List ℕ)) (held_now : List ℕ) (words : List ℕ) : Type 0 where
  pub out : List ℕ
  pub put : Appends told told_now out
  pub split : held ++ bytes_of words ≡ out ++ held_now

-- of what was held and the bytes of these words a first part is put, which is less than the whole
abbrev pub PutsSome : Option (List ℕ) → List ℕ → Option (List ℕ) → List ℕ → Type 0
PutsSome told held told_now words = PutsPrefix told told_now (held ++ bytes_of words)

-- where the rows of a component begin and the last ends
abbrev pub borders_of : Comp → List ℕ
borders_of comp = map (row_start comp.rows) (range_with_len 0 (length comp.cells + 1))
