-- Where a name is among files in memory, and what that says of their content.
use Rattle.std.proofs.Common.{◌≡◌, ◌≢◌, ℕ, ◌+◌, ◌<◌, ◌≤◌, List, [], ◌∷◌, length, get_or, set, Bool, false, cond, not, Some, None, unwrap_or, position, AllPairs, All, String, string_bytes, Vec, Global, bytes_eq, inl, inr, refl, sym, ap, ◌∙◌, arith}
use Rattle.std.specs.List.{position_or_len}
use Rattle.std.proofs.lemmas.Bool.{cases_eq}
use Rattle.std.proofs.lemmas.Bool.Decides.{nat_tests}
use Rattle.std.proofs.lemmas.List.{get_or_default, get_or-set_same, get_or-set_other}
use Rattle.std.proofs.lemmas.List.Elements.{All-head, All-tail}
use Rattle.std.proofs.lemmas.List.Sums.{position_or_len_is, prefix_len-le-length}
use Rattle.std.proofs.lemmas.Option.{slice_get_past, slice_get_read, slice_get-map}
use Rattle.std.proofs.lemmas.Slice.Eq.{bytes_eq-Decides}
use Rattle.wire.specs.FilesInMemory.{named_bytes, place_of, content_of}

-- whether a file has this name
abbrev is_named : List ℕ → String Global × Vec ℕ Global → Bool
is_named name file = bytes_eq (string_bytes file.0) name

-- the place that a search gives, or else the end
pub position_or_end : {X : Type 0} (p : X → Bool) (xs : List X) → unwrap_or (position p xs) (length xs) ≡ position_or_len p xs
position_or_end p xs =
    let within = prefix_len-le-length (λ x. not (p x)) xs in
    grind (arith, nat_tests)

-- the place is found over the files as the code holds them
pub place_named : (files : List (String Global × Vec ℕ Global)) (name : List ℕ)
    → position_or_len (is_named name) files ≡ place_of (named_bytes files) name
place_named [] name = refl
place_named (file ∷ files) name =
    ap (λ place. cond (not (is_named name file)) (1 + place) 0) (place_named files name)

module _ (files : List (String Global × Vec ℕ Global)) (name : List ℕ) (place : ℕ) (named : place ≡ place_of (named_bytes files) name) where
  -- at a place among the files stands the content
  pub content_at : (file : String Global × Vec ℕ Global) → place < length files → file ≡ get_or files place file → content_of (named_bytes files) name ≡ Some file.1.items
  content_at file within read =
      rw (← named) (rw slice_get-map (rw (slice_get_read files (length files) place file refl within read) refl))

-- texts that differ are not found equal
texts_differ : (one other : List ℕ) → one ≢ other → bytes_eq one other ≡ false
texts_differ one other differ = let decides = bytes_eq-Decides one other in grind arith

-- where all names differ, each file is told by its name
pub content_told : (files : List (String Global × Vec ℕ Global))
    → AllPairs (λ one other. string_bytes one.0 ≢ string_bytes other.0) files
    → (place : ℕ) (d : String Global × Vec ℕ Global) → place < length files
    → content_of (named_bytes files) (string_bytes (get_or files place d).0) ≡ Some (get_or files place d).1.items
content_told files differ place d within =
    let name : List ℕ = string_bytes (get_or files place d).0 in
    let found : position_or_len (is_named name) files ≡ place =
    position_or_len_is (is_named name) files place d (omega arith)
    (λ k before. texts_differ _ _ (differ k place d before within))
    (λ _. (bytes_eq-Decides name name).1 refl) in
    content_at files name place (sym found ∙ place_named files name) (get_or files place d) within
    (get_or_default files place d (get_or files place d) within)

-- where no file has the name, its place is behind them
none_found : (files : List (String Global × Vec ℕ Global)) (name : List ℕ)
    → All (λ file. string_bytes file.0 ≢ name) files → position_or_len (is_named name) files ≡ length files
none_found [] name absent = refl
none_found (file ∷ files) name absent =
    let apart : is_named name file ≡ false =
    texts_differ _ _ (All-head (λ other. string_bytes other.0 ≢ name) file files absent) in
    let rest = none_found files name (All-tail (λ other. string_bytes other.0 ≢ name) file files absent) in
    rw (apart, rest) (omega arith)

-- and it is told nothing
pub content_untold : (files : List (String Global × Vec ℕ Global)) (name : List ℕ)
    → All (λ file. string_bytes file.0 ≢ name) files → content_of (named_bytes files) name ≡ None
content_untold files name absent =
    rw (← place_named files name, none_found files name absent) (rw slice_get-map (rw (slice_get_past files (length files) (omega arith)) refl))

-- a count that rose at one place has fallen at none
pub later_at : (counts : List ℕ) (place count other : ℕ) → place < length counts → get_or counts place 0 ≤ count → get_or counts other 0 ≤ get_or (set counts place count) other 0
later_at counts place count other within rose =
    elim (cases_eq other place) [
      | inl same ↦ rw same (rw (get_or-set_same counts place count 0 within) rose)
      | inr apart ↦ rw (get_or-set_other counts place other count 0 apart) (omega arith)
    ]
