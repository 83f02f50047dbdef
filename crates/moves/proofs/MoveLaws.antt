-- Laws of single moves.
use Rattle.std.proofs.Common.{◌≡◌, ◌+◌, ◌<◌, ◌≤◌, refl, sym, ◌∙◌, arith}
use Rattle.moves.specs.declared.Cell.{Cell}
use Rattle.moves.specs.declared.Move.{Move}
use Rattle.moves.specs.declared.Move.TheVariants.{N, NE, E, SE, S, SW, W, NW}
use Rattle.moves.specs.Maps.{Map, IsPassable, IsLike}
use Rattle.moves.specs.Moves.{number_of, is_diagonal, opposite, corner, IsTarget, IsLegal}

-- cells are equal where their columns and rows are
pub same_cell : (a b : Cell) → a.x ≡ b.x → a.y ≡ b.y → a ≡ b
same_cell a b p q = λ i. record { x = p i; y = q i }

-- one move from one cell has one target
pub same_target : (a : Cell) (move : Move) (b c : Cell) → IsTarget a move b → IsTarget a move c → b ≡ c
same_target a N b c p q = same_cell b c (omega arith) (omega arith)
same_target a NE b c p q = same_cell b c (omega arith) (omega arith)
same_target a E b c p q = same_cell b c (omega arith) (omega arith)
same_target a SE b c p q = same_cell b c (omega arith) (omega arith)
same_target a S b c p q = same_cell b c (omega arith) (omega arith)
same_target a SW b c p q = same_cell b c (omega arith) (omega arith)
same_target a W b c p q = same_cell b c (omega arith) (omega arith)
same_target a NW b c p q = same_cell b c (omega arith) (omega arith)

-- a move and the way back are both straight or both diagonal
pub is_diagonal-opposite : (move : Move) → is_diagonal (opposite move) ≡ is_diagonal move
is_diagonal-opposite N = refl
is_diagonal-opposite NE = refl
is_diagonal-opposite E = refl
is_diagonal-opposite SE = refl
is_diagonal-opposite S = refl
is_diagonal-opposite SW = refl
is_diagonal-opposite W = refl
is_diagonal-opposite NW = refl

-- the way back of the way back
pub opposite-opposite : (move : Move) → opposite (opposite move) ≡ move
opposite-opposite N = refl
opposite-opposite NE = refl
opposite-opposite E = refl
opposite-opposite SE = refl
opposite-opposite S = refl
opposite-opposite SW = refl
opposite-opposite W = refl
opposite-opposite NW = refl

-- the way back ends where the move began
pub target_back : (a : Cell) (move : Move) (b : Cell) → IsTarget a move b → IsTarget b (opposite move) a
target_back a N b p = (omega arith, omega arith)
target_back a NE b p = (omega arith, omega arith)
target_back a E b p = (omega arith, omega arith)
target_back a SE b p = (omega arith, omega arith)
target_back a S b p = (omega arith, omega arith)
target_back a SW b p = (omega arith, omega arith)
target_back a W b p = (omega arith, omega arith)
target_back a NW b p = (omega arith, omega arith)

-- a passable cell is like itself
pub like_itself : (map : Map) (a : Cell) → IsPassable map a → IsLike map a a
like_itself map a free = record { passable = free; same = refl }

-- two cells that are like a third are like each other
pub like_both : (map : Map) (a b c : Cell) → IsLike map a b → IsLike map a c → IsLike map b c
like_both map a b c p q = record { passable = q.passable; same = q.same ∙ sym p.same }

-- and what is like a cell that is like a third
pub like_through : (map : Map) (a b c : Cell) → IsLike map a b → IsLike map b c → IsLike map a c
like_through map a b c p q = record { passable = q.passable; same = q.same ∙ p.same }

-- a passable cell is like one that is like it
pub like_back : (map : Map) (a b : Cell) → IsPassable map a → IsLike map a b → IsLike map b a
like_back map a b free p = record { passable = free; same = sym p.same }

-- the way back of a legal move is legal
pub legal_back : (map : Map) (a : Cell) (move : Move) (b : Cell) → IsLegal map a move b → IsLegal map b (opposite move) a
legal_back map a move b legal = record {
  target = target_back a move b legal.target;
  leaves = legal.enters.passable;
  enters = like_back map a b legal.leaves legal.enters;
  corners = λ diagonal.
      let free = legal.corners (rw (is_diagonal-opposite move) at diagonal) in
      (like_both map a b (corner b a) legal.enters free.1, like_both map a b (corner a b) legal.enters free.0);
}

-- the cells are at most one column and one row apart
pub record IsNear (a b : Cell) : Type 0 where
  pub left : a.x ≤ b.x + 1
  pub right : b.x ≤ a.x + 1
  pub above : a.y ≤ b.y + 1
  pub below : b.y ≤ a.y + 1

-- a move leads to a near cell
pub target_near : (a : Cell) (move : Move) (b : Cell) → IsTarget a move b → IsNear a b
target_near a N b p = record { left = omega arith; right = omega arith; above = omega arith; below = omega arith }
target_near a NE b p = record { left = omega arith; right = omega arith; above = omega arith; below = omega arith }
target_near a E b p = record { left = omega arith; right = omega arith; above = omega arith; below = omega arith }
target_near a SE b p = record { left = omega arith; right = omega arith; above = omega arith; below = omega arith }
target_near a S b p = record { left = omega arith; right = omega arith; above = omega arith; below = omega arith }
target_near a SW b p = record { left = omega arith; right = omega arith; above = omega arith; below = omega arith }
target_near a W b p = record { left = omega arith; right = omega arith; above = omega arith; below = omega arith }
target_near a NW b p = record { left = omega arith; right = omega arith; above = omega arith; below = omega arith }

-- a legal move is legal in each map where the cells near it that are of its class are so as well
pub legal_near : (a b : Map) (from : Cell) (move : Move) (to : Cell)
    → ((c : Cell) → IsNear from c → IsLike a from c → IsLike b from c) → IsLegal a from move to → IsLegal b from move to
legal_near a b from move to keep legal =
    let near = target_near from move to legal.target in
    let here : IsNear from from = record { left = omega arith; right = omega arith; above = omega arith; below = omega arith } in
    let up : IsNear from (corner from to) =
    record { left = omega arith; right = omega arith; above = near.above; below = near.below } in
    let aside : IsNear from (corner to from) =
    record { left = near.left; right = near.right; above = omega arith; below = omega arith } in
    record {
      target = legal.target;
      leaves = (keep from here (like_itself a from legal.leaves)).passable;
      enters = keep to near legal.enters;
      corners = λ d. (keep (corner from to) up (legal.corners d).0, keep (corner to from) aside (legal.corners d).1);
    }

-- equal numbers, equal moves
pub same_move : (a b : Move) → number_of a ≡ number_of b → a ≡ b
same_move a b e = grind arith

-- a move's number is below eight
pub number_below : (move : Move) → number_of move < 8
number_below move = grind arith
