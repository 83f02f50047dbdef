-- The pieces of what is printed of a path and of the size of a database.
use Rattle.std.proofs.Common.{◌≡◌, ℕ, ◌++◌, List, codes, ap, ◌∙◌}
use Rattle.std.proofs.lemmas.List.{append_assoc}
use Rattle.moves.specs.declared.Move.{Move}
use Rattle.root_cost.specs.declared.Cost.{Cost}
use Rattle.path_commands.specs.Texts.{line, names_text, numbers_text}
use Rattle.std.specs.Fmt.{decimal}
use Rattle.path_commands.specs.Queries.{TellsHead, TellsPath}

-- what is told up to the moves, the moves, and the end of the line
pub tells_path : (cost : Cost) (moves : List Move) (head named text : List ℕ) → TellsHead cost head → named ≡ head ++ names_text moves
    → text ≡ named ++ codes "\n" → TellsPath cost moves text
tells_path cost moves head named text told names feed = record {
  micro = told.micro;
  floor = told.floor;
  is = feed ∙ ap (λ t. t ++ codes "\n") names ∙ append_assoc head (names_text moves) (codes "\n") ∙ ap (λ t. t ++ line (names_text moves)) told.is;
}

-- the lines of three numbers, written one after the other
pub numbers_written : (old mid far new : List ℕ) (cells comps runs a b : ℕ) → a ≡ cells → b ≡ comps → mid ≡ old ++ line (codes "cells " ++ decimal a)
    → far ≡ mid ++ line (codes "components " ++ decimal b) → new ≡ far ++ line (codes "runs " ++ decimal runs) → new ≡ old ++ numbers_text cells comps runs
numbers_written old mid far new cells comps runs a b ea eb first second third =
    let x : List ℕ = line (codes "cells " ++ decimal cells) in
    let y : List ℕ = line (codes "components " ++ decimal comps) in
    let z : List ℕ = line (codes "runs " ++ decimal runs) in
    let one : mid ≡ old ++ x = first ∙ ap (λ n. old ++ line (codes "cells " ++ decimal n)) ea in
    let two : far ≡ mid ++ y = second ∙ ap (λ n. mid ++ line (codes "components " ++ decimal n)) eb in
    third ∙ ap (λ t. t ++ z) (two ∙ ap (λ t. t ++ y) one ∙ append_assoc old x y) ∙ append_assoc old (x ++ y) z
