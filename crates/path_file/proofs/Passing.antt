-- What is read of a file, field by field.
use Rattle.std.proofs.Common.{◌≡◌, ℕ, ◌+◌, ◌<◌, ◌≤◌, List, ◌++◌, length, get_or, take, drop, sym, ap, ◌∙◌, subst, inl, inr, append_assoc, arith}
use Rattle.std.proofs.Math.Seq.{take-add}
use Rattle.std.proofs.lemmas.List.{take-append-drop, append_cancel_left, get_or-take, get_or_past, length-take, length-take-le}
use Rattle.std.specs.Int.{w32, from_be_bytes}
use Rattle.std.proofs.lemmas.Bool.{cases_lt}
use Rattle.path_file.specs.Files.{number_bytes}
use Rattle.path_file.proofs.Numbers.{bytes_of_number}
use Rattle.path_file.specs.Readings.{Reading, Passes, front, rest}

-- the bytes from the place on, so many of them
pub passes_chunk : (old new : Reading) (n : ℕ) (field : List ℕ) → new.bytes ≡ old.bytes → new.at ≡ old.at + n → field ≡ take n (drop old.at old.bytes) → Passes old new field
passes_chunk old new n field same at is = record {
  same = same;
  front = ap (λ k. take k new.bytes) at ∙ ap (take (old.at + n)) same ∙ take-add old.at n old.bytes ∙ ap (λ l. take old.at old.bytes ++ l) (sym is);
}

pub length-chunk : (field bytes : List ℕ) (n : ℕ) → field ≡ take n bytes → n ≤ length bytes → length field ≡ n
length-chunk field bytes n is enough = ap length is ∙ length-take-le n bytes enough

bytes_of_chunk : (bytes : List ℕ) (n : ℕ) → ((i : ℕ) → get_or bytes i 0 < 256) → (i : ℕ) → get_or (take n bytes) i 0 < 256
bytes_of_chunk bytes n fits i =
    elim (cases_lt i n) [
      | inl inside ↦ subst (λ b. b < 256) (sym (get_or-take n bytes i 0 inside)) (fits i)
      | inr past ↦ subst (λ b. b < 256) (sym (get_or_past (take n bytes) i 0 (omega (arith, length-take n bytes)))) (omega arith)
    ]

-- the number that the first four bytes spell
pub number_of_chunk : (bytes field : List ℕ) (number : ℕ) → 4 ≤ length bytes → field ≡ take 4 bytes → ((i : ℕ) → get_or bytes i 0 < 256)
    → number ≡ from_be_bytes w32 field → number_bytes number ≡ take 4 bytes
number_of_chunk bytes field number enough chunk fits is =
    bytes_of_number (take 4 bytes) number (length-take-le 4 bytes enough) (bytes_of_chunk bytes 4 fits) (is ∙ ap (from_be_bytes w32) chunk)

-- the bytes are what is read and what is left
pub both : (r : Reading) → r.bytes ≡ front r ++ rest r
both r = sym (take-append-drop r.at r.bytes)

-- what was left began with what is passed
pub passed_rest : (old new : Reading) (field : List ℕ) → Passes old new field → rest old ≡ field ++ rest new
passed_rest old new field p =
    append_cancel_left (front old) (rest old) (field ++ rest new)
    (sym (both old) ∙ sym p.same ∙ both new ∙ ap (λ l. l ++ rest new) p.front ∙ append_assoc (front old) field (rest new))

-- one field after another
pub passes_both : (old mid new : Reading) (first second : List ℕ) → Passes old mid first → Passes mid new second → Passes old new (first ++ second)
passes_both old mid new first second p q = record {
  same = q.same ∙ p.same;
  front = q.front ∙ ap (λ l. l ++ second) p.front ∙ append_assoc (front old) first second;
}
