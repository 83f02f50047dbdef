-- Numbers and the bytes that spell them.
use Rattle.std.proofs.Common.{◌≡◌, ℕ, zero, suc, ◌+◌, ◌-◌, ◌^◌, ◌<◌, ◌≤◌, List, [], ◌∷◌, ◌++◌, length, take, drop, slice_index, refl, sym, subst, ap, ◌∙◌, arith}
use Rattle.std.proofs.Math.Nat.{mod-lt}
use Rattle.std.proofs.lemmas.Nat.{same_from_place}
use Rattle.std.proofs.lemmas.List.{append-nil, drop-drop, length-drop, take-append-drop, take_all}
use borrow.Rule.Slice.PartMut.{mid_of}
use Rattle.std.specs.Int.{byte_at, bytes_high_first}
use Rattle.byteorder.specs.Endian.{big_from, big_number, big_bytes}
use Rattle.byteorder.specs.Numbers.{big_from-cons, big_from-lt, big_number-reads_back, length-bytes_high_first}

-- each item of the list is a byte
abbrev pub AreBytes : List ℕ → Type 0
AreBytes xs = (i : ℕ) → slice_index xs i < 256

byte_at-lt : (k x : ℕ) → byte_at k x < 256
byte_at-lt zero x = mod-lt x (omega arith)
byte_at-lt (suc k) x = mod-lt _ (omega arith)

bytes_are_bytes : (n x : ℕ) → AreBytes (bytes_high_first n x)
bytes_are_bytes zero x i = omega arith
bytes_are_bytes (suc n) x zero = byte_at-lt n x
bytes_are_bytes (suc n) x (suc i) = bytes_are_bytes n x i

-- two lists whose first bytes read as one number begin with the same bytes
same_bytes : (n : ℕ) (xs ys : List ℕ) → AreBytes xs → AreBytes ys → n ≤ length xs → n ≤ length ys
    → big_from 0 n xs ≡ big_from 0 n ys → take n xs ≡ take n ys
same_bytes zero xs ys p q h k e = refl
same_bytes (suc n) [] ys p q h k e = absurd (omega arith)
same_bytes (suc n) (x ∷ xs) [] p q h k e = absurd (omega arith)
same_bytes (suc n) (x ∷ xs) (y ∷ ys) p q h k e =
    let px : AreBytes xs = λ i. p (suc i) in
    let qy : AreBytes ys = λ i. q (suc i) in
    let e' = rw (big_from-cons 0 n x xs, big_from-cons 0 n y ys) at e in
    let s = same_from_place x (big_from 0 n xs) y (big_from 0 n ys) (256 ^ n) (big_from-lt 0 n xs px) (big_from-lt 0 n ys qy) e' in
    let rest = same_bytes n xs ys px qy (omega arith) (omega arith) s.1 in
    rw (s.0, rest) refl

-- to read a number and to write it again gives the bytes
pub reads_back : (n : ℕ) (xs : List ℕ) → AreBytes xs → n ≤ length xs → big_bytes n (big_number n xs) ≡ take n xs
reads_back n xs p h =
    let x = big_number n xs in
    let len = length-bytes_high_first n x in
    let same : big_from 0 n (bytes_high_first n x ++ []) ≡ x = big_number-reads_back n x [] (big_from-lt 0 n xs p) in
    let alone : big_from 0 n (bytes_high_first n x) ≡ x = subst (λ l. big_from 0 n l ≡ x) (append-nil (bytes_high_first n x)) same in
    let whole : take n (bytes_high_first n x) ≡ bytes_high_first n x = take_all n (bytes_high_first n x) (omega arith) in
    sym whole ∙ same_bytes n (bytes_high_first n x) xs (bytes_are_bytes n x) p (omega arith) h alone

-- the bytes of the number that a list begins with, and the rest
pub number_read : (n : ℕ) (xs : List ℕ) → AreBytes xs → n ≤ length xs → xs ≡ big_bytes n (big_number n xs) ++ drop n xs
number_read n xs p h =
    sym (take-append-drop n xs) ∙ ap (λ l. l ++ drop n xs) (sym (reads_back n xs p h))

-- a place of what is left of a list
at_drop : (at i : ℕ) (xs : List ℕ) → slice_index (drop at xs) i ≡ slice_index xs (at + i)
at_drop zero i xs = let e : i ≡ 0 + i = omega arith in ap (slice_index xs) e
at_drop (suc at) i [] = refl
at_drop (suc at) i (x ∷ xs) = let e : suc (at + i) ≡ suc at + i = omega arith in at_drop at i xs ∙ ap (slice_index (x ∷ xs)) e

-- the same at a place of a list
pub read_at : (n at value : ℕ) (xs : List ℕ) → AreBytes xs → at + n ≤ length xs → value ≡ big_number n (mid_of at (length xs - at) xs)
    → drop at xs ≡ big_bytes n value ++ drop (at + n) xs
read_at n at value xs p h is =
    let size = length-drop at xs in
    let whole : mid_of at (length xs - at) xs ≡ drop at xs = take_all (length xs - at) (drop at xs) (omega arith) in
    let part : AreBytes (drop at xs) = λ i. subst (λ v. v < 256) (sym (at_drop at i xs)) (p (at + i)) in
    let few : n ≤ length (drop at xs) = omega arith in
    subst (λ v. drop at xs ≡ big_bytes n v ++ drop (at + n) xs) (sym (is ∙ ap (big_number n) whole))
    (number_read n (drop at xs) part few ∙ ap (λ l. big_bytes n (big_number n (drop at xs)) ++ l) (drop-drop n at xs))
