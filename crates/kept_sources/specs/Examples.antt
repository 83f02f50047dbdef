-- Worked examples: a ball, gates, a pocket and a split on small maps.
use Rattle.std.specs.Prelude.{◌≡◌, ℕ, ◌+◌, ◌*◌, ◌↔◌, ◌⊎◌, Bool, ◌==◌, ◌&&◌, not, nat_lt, nat_le, List, [], ◌∷◌, ◌++◌, replicate}
use Rattle.moves.specs.declared.Cell.{Cell}
use Rattle.moves.specs.declared.Move.{Move}
use Rattle.moves.specs.declared.Move.TheVariants.{N, E, S}
use Rattle.moves.specs.declared.Terrain.TheVariants.{Land, Blocked}
use Rattle.moves.specs.Maps.{Map, map_of, is_cell}
use Rattle.moves.specs.FirstSets.{IsFirstMove}

-- the cell in that column and row
abbrev pub at : ℕ → ℕ → Cell
at x y = record { x = x; y = y }

-- a map of those sides where all is land
abbrev pub all_land : ℕ → ℕ → Map
all_land width height = map_of width height (replicate (width * height) Land)

-- ---- a ball: two cells are taken out, `@`, and `o` are those of the ball
--
--     ......
--     .oooo.
--     .o@@o.
--     .oooo.
--     ......

-- six columns and five rows of land
abbrev pub field : Map
field = all_land 6 5

-- the two in the middle
abbrev pub two_cells : List Cell
two_cells = at 2 2 ∷ at 3 2 ∷ []

-- the columns 1 to 4 of the rows 1 to 3
abbrev pub round_both : Cell → Bool
round_both cell = nat_le 1 cell.x && (nat_le cell.x 4 && (nat_le 1 cell.y && nat_le cell.y 3))

-- the same ball without its upper left cell
abbrev pub round_less_one : Cell → Bool
round_less_one cell = round_both cell && not (is_cell (at 1 1) cell)

-- ---- gates: of the ring round three blocked cells, `s` are the side and `g` its gates, and the cell `x` is taken out
--
--     ssg..
--     s@@@x
--     ssg..

-- five columns and three rows, and three cells in the middle are blocked
abbrev pub ring : Map
ring =
    let way = Land ∷ Land ∷ Land ∷ Land ∷ Land ∷ [] in
    let wall = Land ∷ Blocked ∷ Blocked ∷ Blocked ∷ Land ∷ [] in
    map_of 5 3 (way ++ (wall ++ way))

-- the first two columns
abbrev pub west : Cell → Bool
west cell = nat_lt cell.x 2

-- the gates between them and the others
abbrev pub third_column : Cell → Bool
third_column cell = cell.x == 2

-- ---- best gates: on a ring of eight cells the way from `a` to `b` costs as much by either gate
--
--     .g.
--     a@b
--     .g.

-- three columns and three rows, and the cell in the middle is blocked
abbrev pub small_ring : Map
small_ring =
    let way = Land ∷ Land ∷ Land ∷ [] in
    map_of 3 3 (way ++ ((Land ∷ Blocked ∷ Land ∷ []) ++ way))

-- the side of `a`
abbrev pub first_column : Cell → Bool
first_column cell = cell.x == 0

-- its gates
abbrev pub second_column : Cell → Bool
second_column cell = cell.x == 1

-- the first set from `a` to `b`
abbrev pub NorthAndSouth : Type 0
NorthAndSouth = (move : Move) → IsFirstMove small_ring (at 0 1) (at 2 1) move ↔ ((move ≡ N) ⊎ (move ≡ S))

-- ---- no gates

-- On a map of two columns and two rows a diagonal move leads from the upper left cell past both its neighbours: these
-- two are no gates of that cell.
abbrev pub both_beside : Cell → Bool
both_beside cell = (cell.x + cell.y) == 1

-- ---- a pocket: on a row of five cells the third is the gate of the first two where the last is taken out
--
--     ssg.x

-- ---- a split: the middle one of three cells is blocked
--
--     .@.

-- a row of three cells of land
abbrev pub three : Map
three = all_land 3 1

-- the first set from the left cell to the right one
abbrev pub OnlyEast : Type 0
OnlyEast = (move : Move) → IsFirstMove three (at 0 0) (at 2 0) move ↔ (move ≡ E)
