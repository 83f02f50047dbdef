-- The one pass of a board that is shared.
use Rattle.std.proofs.Common.{◌≡◌, ◌+◌, List, [], ◌∷◌, ◌++◌, length, get_or, arith, subst, ap, ◌∙◌}
use Rattle.std.proofs.lemmas.List.{length_push, nil_from_length}
use Rattle.atomic_table.specs.Seated.{TableId}
use Rattle.path_core.specs.Boards.{Boarded}
use Rattle.path_board.specs.declared.pass.Pass.{Pass}
use Rattle.path_board.specs.SharedBoards.{AreNewPasses, IsNewPass}

-- the last pass of a list of one
pub pass_shared : (id : TableId) (board : Boarded) (pass : Pass) (passes left : List Pass) → AreNewPasses id board 1 passes
    → passes ≡ left ++ pass ∷ [] → IsNewPass id board 1 0 pass
pass_shared id board pass passes left news off =
    let count = news.count_is in
    let long : length passes ≡ length left + 1 = ap length off ∙ length_push left pass in
    let is : passes ≡ pass ∷ [] = off ∙ ap (λ l. l ++ pass ∷ []) (nil_from_length left (omega arith)) in
    subst (λ l. IsNewPass id board 1 0 (get_or l 0 pass)) is (news.each 0 pass (omega arith))
