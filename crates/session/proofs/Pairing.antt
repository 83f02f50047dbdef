-- Two passes that share a board, taken out of their list and put back. Only a test has them.
use Rattle.std.proofs.Common.{◌≡◌, ℕ, zero, suc, ◌+◌, ◌<◌, List, [], ◌∷◌, ◌++◌, length, get_or, refl, sym, subst, ap, ◌∙◌, arith}
use Rattle.std.proofs.lemmas.List.{length_push}
use Rattle.atomic_table.specs.Seated.{TableId}
use Rattle.path_core.specs.Boards.{Boarded}
use Rattle.path_board.specs.declared.pass.Pass.{Pass}
use Rattle.path_board.specs.Passes.{SamePass}
use Rattle.path_board.specs.SharedBoards.{AreAllPasses, AreNewPasses}
use Rattle.path_board.proofs.Same.{same_all}

none_of : {X : Type 0} (xs : List X) → length xs ≡ 0 → xs ≡ []
none_of [] none = refl
none_of (x ∷ xs) none = absurd (omega (arith, none))

same_both : (a b later_a later_b : Pass) → SamePass a later_a → SamePass b later_b → (place : ℕ) (default : Pass) → place < 2
    → SamePass (get_or (a ∷ b ∷ []) place default) (get_or (later_a ∷ later_b ∷ []) place default)
same_both a b later_a later_b one two zero default early = one
same_both a b later_a later_b one two (suc zero) default early = two
same_both a b later_a later_b one two (suc (suc place)) default early = absurd (omega (arith, early))

-- when both are put back after whatever calls, the list has all passes of the board
pub both_back : (id : TableId) (board : Boarded) (a b later_a later_b : Pass) (passes rest left all : List Pass)
    → AreNewPasses id board 2 passes → passes ≡ rest ++ b ∷ [] → rest ≡ left ++ a ∷ [] → SamePass a later_a → SamePass b later_b
    → all ≡ (left ++ later_a ∷ []) ++ later_b ∷ [] → AreAllPasses id all
both_back id board a b later_a later_b passes rest left all news off off_next one two is =
    let count = news.count_is in
    let long : length passes ≡ length rest + 1 = ap length off ∙ length_push rest b in
    let long_next : length rest ≡ length left + 1 = ap length off_next ∙ length_push left a in
    let none : left ≡ [] = none_of left (omega (arith, count, long, long_next)) in
    let were : passes ≡ a ∷ b ∷ [] = off ∙ ap (λ l. l ++ b ∷ []) (off_next ∙ ap (λ l. l ++ a ∷ []) none) in
    let are : all ≡ later_a ∷ later_b ∷ [] = is ∙ ap (λ l. (l ++ later_a ∷ []) ++ later_b ∷ []) none in
    subst (AreAllPasses id) (sym are) (same_all id board 2 (a ∷ b ∷ []) (later_a ∷ later_b ∷ [])
    (subst (AreNewPasses id board 2) were news) (omega arith) refl (same_both a b later_a later_b one two))
