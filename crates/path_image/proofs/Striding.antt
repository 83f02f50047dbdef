-- What is known of a walk that its caller follows.
use Rattle.std.proofs.Common.{◌≡◌, ℕ, List, sym, subst, ◌∙◌}
use Rattle.moves.specs.declared.Cell.{Cell}
use Rattle.moves.specs.declared.Move.{Move}
use Rattle.moves.specs.Moves.{IsTarget}
use Rattle.path_image.specs.declared.walking.Walk.{Walk}
use Rattle.path_image.specs.declared.walking.Step.{Step}
use Rattle.path_image.specs.declared.walking.Step.TheVariants.{Arrived, Go, Lost}
use Rattle.path_image.specs.Walks.{Enters}
use Rattle.path_image.specs.Strides.{GoesTo}

-- a step to a cell leads there
pub goes_to : (words : List ℕ) (old new : Walk) (move : Move) (to : Cell) (step : Step) → IsTarget old.at move to → Enters words old new move to step
    → GoesTo old new step
goes_to words old new move to Arrived target enters = tt
goes_to words old new move to Lost target enters = tt
goes_to words old new move to (Go by) target enters =
    (subst (λ m. IsTarget old.at m new.at) (sym enters.0) (subst (IsTarget old.at move) (sym enters.1) target), enters.2)
