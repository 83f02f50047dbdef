-- The passes that a board gives are passes of it.
use Rattle.std.proofs.Common.{◌≡◌, ◌+◌, List, All, [], ◌∷◌, ◌++◌, ℕ, length, get_or, arith, subst, ap, ◌∙◌, refl}
use Rattle.std.proofs.lemmas.List.{length_push}
use Rattle.atomic_table.specs.Seated.{TableId}
use Rattle.path_core.specs.Boards.{Boarded}
use Rattle.path_board.specs.declared.pass.Pass.{Pass}
use Rattle.path_board.specs.Passes.{IsPassOf}
use Rattle.path_board.specs.SharedBoards.{AreNewPasses}

pub passes_of : (id : TableId) (board : Boarded) (count : ℕ) (passes : List Pass) → AreNewPasses id board count passes
    → All (λ pass. IsPassOf id pass) passes
passes_of id board count passes news = λ place default within. (news.each place default within).of

none_of : {X : Type 0} (xs : List X) → length xs ≡ 0 → xs ≡ []
none_of [] none = refl
none_of (x ∷ xs) none = absurd (omega (arith, none))

-- the two passes of a board that two share, taken off one after the other
pub pair_of : (id : TableId) (board : Boarded) (a b : Pass) (passes rest left : List Pass) → AreNewPasses id board 2 passes
    → passes ≡ rest ++ b ∷ [] → rest ≡ left ++ a ∷ [] → IsPassOf id a × IsPassOf id b
pair_of id board a b passes rest left news off off_next =
    let count = news.count_is in
    let long : length passes ≡ length rest + 1 = ap length off ∙ length_push rest b in
    let long_next : length rest ≡ length left + 1 = ap length off_next ∙ length_push left a in
    let is : passes ≡ a ∷ b ∷ [] = off ∙ ap (λ l. l ++ b ∷ []) (off_next ∙ ap (λ l. l ++ a ∷ []) (none_of left (omega arith))) in
    let one : IsPassOf id a = subst (λ l. IsPassOf id (get_or l 0 a)) is (news.each 0 a (omega arith)).of in
    let two : IsPassOf id b = subst (λ l. IsPassOf id (get_or l 1 b)) is (news.each 1 b (omega arith)).of in
    (one, two)
