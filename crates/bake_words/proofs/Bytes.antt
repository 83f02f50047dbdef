-- Words that are read from their bytes.
use Rattle.std.proofs.Common.{◌≡◌, ℕ, zero, suc, ◌+◌, ◌*◌, ◌/◌, ◌%◌, ◌<◌, List, [], ◌∷◌, ◌++◌, length, get_or, set, refl, sym, ap, ◌∙◌, inl, inr, arith}
use Rattle.std.specs.List.{All, flat_map}
use Rattle.std.proofs.lemmas.Bool.{cases_lt}
use Rattle.std.proofs.lemmas.List.{get_or_append_left, get_or-append-add, get_or-set_other, get_or-set_same, length-append, length-set}
use Rattle.std.proofs.lemmas.Grind.{same_number_lists}
use Rattle.path_image.specs.Writing.{bytes_of, word_bytes}
use Rattle.bake_words.specs.Baking.{word_of_bytes}
use Rattle.bake_words.proofs.Fitting.{IsWord}

-- four bytes for each word
pub bytes_long : (words : List ℕ) → length (bytes_of words) ≡ 4 * length words
bytes_long [] = refl
bytes_long (word ∷ words) =
    let rest = bytes_long words in
    let all = length-append (word_bytes word) (flat_map word_bytes words) in
    omega arith

-- a byte of a word
byte_read : (words : List ℕ) (k j : ℕ) → k < length words → j < 4 → get_or (bytes_of words) (4 * k + j) 0 ≡ get_or (word_bytes (get_or words k 0)) j 0
byte_read [] k j within low = absurd (omega arith)
byte_read (word ∷ words) zero j within low =
    let first : 4 * zero + j ≡ j = omega arith in
    ap (λ n. get_or (word_bytes word ++ flat_map word_bytes words) n 0) first ∙ get_or_append_left (word_bytes word) (flat_map word_bytes words) 0 j (omega arith)
byte_read (word ∷ words) (suc k) j within low =
    let step : 4 * suc k + j ≡ 4 + (4 * k + j) = omega arith in
    ap (λ n. get_or (word_bytes word ++ flat_map word_bytes words) n 0) step
    ∙ get_or-append-add (word_bytes word) (flat_map word_bytes words) (4 * k + j) 0 ∙ byte_read words k j (omega arith) low

-- the four bytes of a word are that word
word_back : (word : ℕ) → IsWord word
    → word % 256 + 256 * (word / 256 % 256) + 65536 * (word / 65536 % 256) + 16777216 * (word / 16777216 % 256) ≡ word
word_back word fits = omega arith

-- words that are read from the bytes of others are these
pub words_back : (bytes words room : List ℕ) → bytes ≡ bytes_of words → All IsWord words → length room ≡ length words
    → ((k : ℕ) → k < length room → get_or room k 0 ≡ word_of_bytes bytes k) → room ≡ words
words_back bytes words room same fit long each =
    same_number_lists room words long (λ k within.
    (let inside : k < length words = omega arith in
    let first : 4 * k + 0 ≡ 4 * k = omega arith in
    let zeroth = ap (λ n. get_or bytes n 0) (sym first) ∙ ap (λ bs. get_or bs (4 * k + 0) 0) same ∙ byte_read words k 0 inside (omega arith) in
    let one = ap (λ bs. get_or bs (4 * k + 1) 0) same ∙ byte_read words k 1 inside (omega arith) in
    let two = ap (λ bs. get_or bs (4 * k + 2) 0) same ∙ byte_read words k 2 inside (omega arith) in
    let three = ap (λ bs. get_or bs (4 * k + 3) 0) same ∙ byte_read words k 3 inside (omega arith) in
    let read = each k within in
    let back = word_back (get_or words k 0) (fit k 0 inside) in
    omega arith))

-- so many words are put, of as many as the room has
pub record ArePut (bytes room : List ℕ) (place size : ℕ) : Type 0 where
  pub long : length room ≡ size
  pub each : (k : ℕ) → k < place → get_or room k 0 ≡ word_of_bytes bytes k

pub put_none : (bytes room : List ℕ) → ArePut bytes room 0 (length room)
put_none bytes room = record { long = refl; each = λ k less. absurd (omega arith) }

-- one more
pub put_more : (bytes room new : List ℕ) (place size word : ℕ) → ArePut bytes room place size → place < size → word ≡ word_of_bytes bytes place
    → new ≡ set room place word → ArePut bytes new (place + 1) size
put_more bytes room new place size word p within is same =
    let long = p.long in
    let stays = length-set room place word in
    record {
      long = ap length same ∙ stays ∙ long;
      each = λ k less. ap (λ xs. get_or xs k 0) same
          ∙ elim (cases_lt k place) [
            | inl early ↦ get_or-set_other room place k word 0 (omega arith) ∙ p.each k early
            | inr late ↦
                let here : place ≡ k = omega arith in
                ap (λ n. get_or (set room place word) n 0) (sym here) ∙ get_or-set_same room place word 0 (omega arith) ∙ is ∙ ap (word_of_bytes bytes) here
          ];
    }
