-- Legal moves: eight directions, without cutting corners, and never between land and water. (MovingAI scenario format
-- page; MovingAI map format page: water can be crossed, but not entered from land)
use Rattle.std.specs.Prelude.{◌≡◌, ℕ, ◌+◌, Bool, false, true, IsTrue, List, codes}
use Rattle.moves.specs.declared.Cell.{Cell}
use Rattle.moves.specs.declared.Move.{Move}
use Rattle.moves.specs.declared.Move.TheVariants.{N, NE, E, SE, S, SW, W, NW}
use Rattle.moves.specs.Maps.{Map, IsInside, IsPassable, IsLike}

-- the number of a move: clockwise from north
abbrev pub number_of : Move → ℕ
number_of N = 0
number_of NE = 1
number_of E = 2
number_of SE = 3
number_of S = 4
number_of SW = 5
number_of W = 6
number_of NW = 7

-- the name of a move
abbrev pub move_name : Move → List ℕ
move_name N = codes "N"
move_name NE = codes "NE"
move_name E = codes "E"
move_name SE = codes "SE"
move_name S = codes "S"
move_name SW = codes "SW"
move_name W = codes "W"
move_name NW = codes "NW"

-- odd moves are diagonal
abbrev pub is_diagonal : Move → Bool
is_diagonal N = false
is_diagonal NE = true
is_diagonal E = false
is_diagonal SE = true
is_diagonal S = false
is_diagonal SW = true
is_diagonal W = false
is_diagonal NW = true

-- the move back
abbrev pub opposite : Move → Move
opposite N = S
opposite NE = SW
opposite E = W
opposite SE = NW
opposite S = N
opposite SW = NE
opposite W = E
opposite NW = SE

-- the move from `a` ends at `b`: north is one row up, east one column to the right
abbrev pub IsTarget : Cell → Move → Cell → Type 0
IsTarget a N b = (b.x ≡ a.x) × (b.y + 1 ≡ a.y)
IsTarget a NE b = (b.x ≡ a.x + 1) × (b.y + 1 ≡ a.y)
IsTarget a E b = (b.x ≡ a.x + 1) × (b.y ≡ a.y)
IsTarget a SE b = (b.x ≡ a.x + 1) × (b.y ≡ a.y + 1)
IsTarget a S b = (b.x ≡ a.x) × (b.y ≡ a.y + 1)
IsTarget a SW b = (b.x + 1 ≡ a.x) × (b.y ≡ a.y + 1)
IsTarget a W b = (b.x + 1 ≡ a.x) × (b.y ≡ a.y)
IsTarget a NW b = (b.x + 1 ≡ a.x) × (b.y + 1 ≡ a.y)

-- the cell in the column of `a` and the row of `b`
abbrev pub corner : Cell → Cell → Cell
corner a b = record { x = a.x; y = b.y }

-- the move ends at no cell inside
abbrev pub LeadsOutside : Map → Cell → Move → Type 0
LeadsOutside map from move = (to : Cell) → IsTarget from move to → IsInside map to → ⊥

-- the two cells that share a column with one cell and a row with the other are passable, and of the class of `a`
abbrev pub HasFreeCorners : Map → Cell → Cell → Type 0
HasFreeCorners map a b = IsLike map a (corner a b) × IsLike map a (corner b a)

-- The move from `from` to `to` is legal: both cells are land or both are water and, for a diagonal move, so are the two
-- cells orthogonally adjacent to both.
pub record IsLegal (map : Map) (from : Cell) (move : Move) (to : Cell) : Type 0 where
  pub target : IsTarget from move to
  pub leaves : IsPassable map from
  pub enters : IsLike map from to
  pub corners : IsTrue (is_diagonal move) → HasFreeCorners map from to

-- the move is legal from that cell
abbrev pub HasLegal : Map → Cell → Move → Type 0
HasLegal map from move = (to : Cell) × IsLegal map from move to
