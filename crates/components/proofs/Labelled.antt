-- The cells with labels are the passable ones.
use Rattle.std.proofs.Common.{◌≡◌, ℕ, List, [], get_or, sym, ◌∙◌, subst}
use Rattle.std.specs.List.{Contains}
use Rattle.std.proofs.lemmas.List.{get_or_default}
use Rattle.moves.specs.declared.Cell.{Cell}
use Rattle.moves.specs.Maps.{Map, IsPassable}
use Rattle.moves.specs.Components.{IsComponentList}
use Rattle.moves.proofs.ComponentLaws.{member_is_passable}
use Rattle.components.specs.Groups.{IsLabelOf, LabelsAreWherePassable}

-- the component of a passable cell
pub its_component : (map : Map) (components : List (List Cell)) → IsComponentList map components → (c : Cell) → IsPassable map c → (label : ℕ) × IsLabelOf components c label
its_component map components list c free =
    let a = list.every_cell c free in
    let e : a.1 ≡ get_or components a.0 [] = sym (get_or_default components a.0 [] a.1 a.2 ∙ a.3) in
    (a.0, record { below = a.2; has = subst (λ cells. Contains cells c) e a.4 })

pub labels_where_passable : LabelsAreWherePassable
labels_where_passable map components list c = (
  its_component map components list c,
  λ is. member_is_passable map (get_or components is.0 []) (list.each is.0 [] is.1.below) c is.1.has,
)
