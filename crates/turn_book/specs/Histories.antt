-- Lists of entries, of which each reader has seen a beginning.
use Rattle.std.specs.List.{AllByRecursion}
use Rattle.std.specs.Prelude.{◌≡◌, ◌≢◌, ℕ, ◌+◌, ◌<◌, List, [], ◌∷◌, ◌++◌, length, cond, nat_lt}

-- f of each place of a list, added up
abbrev pub total : {A : Type 0} → (A → ℕ) → List A → ℕ
total f [] = 0
total f (x ∷ xs) = f x + total f xs

-- the history begins with what was seen
pub record StartsWith {E : Type 0} (history seen : List E) : Type 0 where
  pub more : List E
  pub is : history ≡ seen ++ more

-- the history begins with what was seen, and no entry past that names n
pub record AddsNoneOf {E : Type 0} (names : E → ℕ) (n : ℕ) (seen history : List E) : Type 0 where
  pub more : List E
  pub is : history ≡ seen ++ more
  pub others : AllByRecursion (λ e. names e ≢ n) more

-- all entries of the history name numbers below the count
abbrev pub NamesBelow : {E : Type 0} → (E → ℕ) → ℕ → List E → Type 0
NamesBelow names count history = AllByRecursion (λ entry. names entry < count) history

-- of two beginnings of one history the one that the other begins
abbrev pub longer_of : {E : Type 0} → List E → List E → List E
longer_of xs ys = cond (nat_lt (length xs) (length ys)) ys xs

-- the first of a list, or another where it has none
abbrev pub first_or : {A : Type 0} → A → List A → A
first_or x [] = x
first_or x (y ∷ ys) = y
