-- Places of cells in a rectangle.
use Rattle.std.proofs.Common.{◌≡◌, ℕ, ◌-◌, ◌*◌, ◌<◌, List, get_or, arith}
use Rattle.std.proofs.lemmas.Nat.{same_from_place, mul-add-lt}
use Rattle.moves.specs.declared.Cell.{Cell}
use Rattle.moves.specs.Rectangles.{Rectangle, IsWithin, place_in, AreEdges, IsBetween}
use Rattle.moves.proofs.MoveLaws.{same_cell}

-- the cells before a place lie between the edges so far
pub record HasEdges (cells : List Cell) (place left right top bottom : ℕ) : Type 0 where
  pub limits : AreEdges left right top bottom
  pub all : (k : ℕ) (d : Cell) → k < place → IsBetween left right top bottom (get_or cells k d)

-- two cells of the rectangle at one place are one
pub same_place : (area : Rectangle) (a b : Cell) → IsWithin area a → IsWithin area b → place_in area a ≡ place_in area b → a ≡ b
same_place area a b p q same =
    let from_a = p.from_left in
    let to_a = p.to_right in
    let up_a = p.from_top in
    let from_b = q.from_left in
    let to_b = q.to_right in
    let up_b = q.from_top in
    let parts = same_from_place (a.y - area.top) (a.x - area.left) (b.y - area.top) (b.x - area.left) area.width (omega arith) (omega arith) same in
    let row = parts.0 in
    let column = parts.1 in
    same_cell a b (omega arith) (omega arith)

-- the place of a cell of the rectangle
pub place_below : (area : Rectangle) (c : Cell) → IsWithin area c → place_in area c < area.width * area.height
place_below area c p =
    let to_right = p.to_right in
    let from_left = p.from_left in
    let to_bottom = p.to_bottom in
    let from_top = p.from_top in
    mul-add-lt (c.y - area.top) area.width (c.x - area.left) area.height (omega arith) (omega arith)
