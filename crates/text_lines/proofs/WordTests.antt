-- Whether a line has exactly these words.
use Rattle.std.proofs.Common.{◌≡◌, true, false, Bool, not, List, [], ◌∷◌, ℕ, Option, Some, None, refl, ap}
use Rattle.std.specs.Prelude.{is_some, MatchOption}
use Rattle.std.specs.Str.{bytes_eq}
use Rattle.std.specs.Cmp.Lexicographic.{pointwise}
use Rattle.std.proofs.Math.Bool.{and-true}
use Rattle.std.proofs.lemmas.Bool.{and_right}
use Rattle.std.proofs.lemmas.Slice.Eq.{slice_eq-Decides, bytes_eq-Decides}
use Rattle.text_lines.specs.Words.{words_of, two_of, has_words}

two_words_yes : (words : List (List ℕ)) (a b x y : List ℕ) → two_of words ≡ Some (a, b) → bytes_eq a x ≡ true → pointwise bytes_eq words (x ∷ y ∷ []) ≡ bytes_eq b y
two_words_yes [] a b x y e first = absurd cc
two_words_yes (p ∷ []) a b x y e first = absurd cc
two_words_yes (p ∷ q ∷ []) a b x y e first =
    let same : (p, q) ≡ (a, b) = cc in
    let p-is : p ≡ a = ap (λ (t : List ℕ × List ℕ). t.0) same in
    let q-is : q ≡ b = ap (λ (t : List ℕ × List ℕ). t.1) same in
    rw (p-is, q-is, first) (and-true (bytes_eq b y))
two_words_yes (p ∷ q ∷ r ∷ others) a b x y e first = absurd cc

two_words_no : (words : List (List ℕ)) (a b x y : List ℕ) → two_of words ≡ Some (a, b) → bytes_eq a x ≡ false → pointwise bytes_eq words (x ∷ y ∷ []) ≡ false
two_words_no [] a b x y e first = absurd cc
two_words_no (p ∷ []) a b x y e first = absurd cc
two_words_no (p ∷ q ∷ []) a b x y e first =
    let same : (p, q) ≡ (a, b) = cc in
    let p-is : p ≡ a = ap (λ (t : List ℕ × List ℕ). t.0) same in
    rw (p-is, first) refl
two_words_no (p ∷ q ∷ r ∷ others) a b x y e first = absurd cc

not_two_words : (words : List (List ℕ)) (x y : List ℕ) → two_of words ≡ None → pointwise bytes_eq words (x ∷ y ∷ []) ≡ false
not_two_words [] x y e = refl
not_two_words (p ∷ []) x y e = and_right (bytes_eq p x) false refl
not_two_words (p ∷ q ∷ []) x y e = absurd cc
not_two_words (p ∷ q ∷ r ∷ others) x y e = and_right (bytes_eq p x) _ (and_right (bytes_eq q y) false refl)

pub has_two_yes : (line a b x y : List ℕ) → two_of (words_of line) ≡ Some (a, b) → bytes_eq a x ≡ true → has_words (x ∷ y ∷ []) line ≡ bytes_eq b y
unfolding has_words
has_two_yes line a b x y e first = two_words_yes (words_of line) a b x y e first

pub has_two_no : (line a b x y : List ℕ) → two_of (words_of line) ≡ Some (a, b) → bytes_eq a x ≡ false → has_words (x ∷ y ∷ []) line ≡ false
unfolding has_words
has_two_no line a b x y e first = two_words_no (words_of line) a b x y e first

pub has_not_two : (line x y : List ℕ) → two_of (words_of line) ≡ None → has_words (x ∷ y ∷ []) line ≡ false
unfolding has_words
has_not_two line x y e = not_two_words (words_of line) x y e

pub has_one_yes : {A : Type 0} (line word x : List ℕ) (rest : List (List ℕ)) (after : Option A) (n : Bool) (first second : A → List ℕ)
    → words_of line ≡ word ∷ rest → bytes_eq word x ≡ true
    → MatchOption after (rest ≡ []) (λ cut. rest ≡ first cut ∷ words_of (second cut)) → is_some after ≡ not n
    → has_words (x ∷ []) line ≡ n
unfolding has_words
has_one_yes line word x rest None true first second e yes' end is = rw (e, yes', end) refl
has_one_yes line word x rest None false first second e yes' end is = absurd cc
has_one_yes line word x rest (Some cut) true first second e yes' end is = absurd cc
has_one_yes line word x rest (Some cut) false first second e yes' end is = rw (e, yes', end) refl

pub has_one_no : (line word x : List ℕ) (rest : List (List ℕ)) → words_of line ≡ word ∷ rest → bytes_eq word x ≡ false → has_words (x ∷ []) line ≡ false
unfolding has_words
has_one_no line word x rest e no' = rw (e, no') refl

pub has_none : (line x : List ℕ) → words_of line ≡ [] → has_words (x ∷ []) line ≡ false
unfolding has_words
has_none line x e = rw e refl

pub words_from_test : (words : List (List ℕ)) (line : List ℕ) → has_words words line ≡ true → words_of line ≡ words
unfolding has_words
words_from_test words line e = (slice_eq-Decides bytes_eq-Decides (words_of line) words (pointwise bytes_eq (words_of line) words) refl).0 e

pub test_from_words : (words : List (List ℕ)) (line : List ℕ) → words_of line ≡ words → has_words words line ≡ true
unfolding has_words
test_from_words words line e = (slice_eq-Decides bytes_eq-Decides (words_of line) words (pointwise bytes_eq (words_of line) words) refl).1 e
