-- Numbers of four bytes.
use Rattle.std.proofs.Common.{◌≡◌, ℕ, ◌^◌, ◌<◌, List, ◌++◌, length, get_or, take, drop, refl, sym, ap, ◌∙◌}
use Rattle.std.specs.Int.{w32, from_be_bytes}
use Rattle.std.proofs.lemmas.Nat.{be_bytes_4, from_be_bytes-to_be_bytes_4}
use Rattle.std.proofs.lemmas.List.{take_at, drop_at}
use Rattle.path_file.specs.Files.{number_bytes}

pub length-number : (n : ℕ) → length (number_bytes n) ≡ 4
unfolding number_bytes
length-number n = refl

-- the number that four bytes spell has these bytes
pub bytes_of_number : (bytes : List ℕ) (n : ℕ) → length bytes ≡ 4 → ((i : ℕ) → get_or bytes i 0 < 256) → n ≡ from_be_bytes w32 bytes → number_bytes n ≡ bytes
unfolding number_bytes
bytes_of_number bytes n size fits is = be_bytes_4 bytes n size fits is

pub same_number : (m n : ℕ) → m < 2 ^ 32 → n < 2 ^ 32 → number_bytes m ≡ number_bytes n → m ≡ n
unfolding number_bytes
same_number m n small low same = sym (from_be_bytes-to_be_bytes_4 m small) ∙ ap (from_be_bytes w32) same ∙ from_be_bytes-to_be_bytes_4 n low

-- two lists that are one begin with one number
pub numbers_first : (m n : ℕ) (xs ys : List ℕ) → m < 2 ^ 32 → n < 2 ^ 32 → number_bytes m ++ xs ≡ number_bytes n ++ ys → (m ≡ n) × (xs ≡ ys)
numbers_first m n xs ys small low same = (
  same_number m n small low
      (sym (take_at (number_bytes m) xs 4 (length-number m)) ∙ ap (take 4) same ∙ take_at (number_bytes n) ys 4 (length-number n)),
  sym (drop_at (number_bytes m) xs 4 (length-number m)) ∙ ap (drop 4) same ∙ drop_at (number_bytes n) ys 4 (length-number n),
)
