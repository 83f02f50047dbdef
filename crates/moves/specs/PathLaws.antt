-- Laws of paths that every search and every path database relies on.
use Rattle.std.specs.Prelude.{◌≡◌, List, [], ◌∷◌, ◌++◌, map, reverse, length}
use Rattle.root_cost.specs.Costs.{sum_of}
use Rattle.moves.specs.declared.Cell.{Cell}
use Rattle.moves.specs.declared.Move.{Move}
use Rattle.moves.specs.Maps.{Map}
use Rattle.moves.specs.Moves.{opposite, IsLegal}
use Rattle.moves.specs.Paths.{IsPath, Leads, cost_of, IsBest, Reaches}

-- the moves that lead back along a path
abbrev pub back_along : List Move → List Move
back_along moves = reverse (map opposite moves)

-- the last of `from` and the cells after it is `to`
abbrev pub EndsAt : Cell → List Cell → Cell → Type 0
EndsAt from [] to = from ≡ to
EndsAt from (next ∷ rest) to = EndsAt next rest to

pub record LawsOfPaths : Type 0 where
  -- two paths that meet make one path, whose cost is the sum
  pub joined : (map : Map) (a b c : Cell) (first rest : List Move)
      → Leads map a first b → Leads map b rest c → Leads map a (first ++ rest) c
  pub sum : (first rest : List Move) → cost_of (first ++ rest) ≡ sum_of (cost_of first) (cost_of rest)
  -- each piece of a best path is best
  pub pieces : (map : Map) (a d : Cell) (front middle back : List Move) → IsBest map a (front ++ middle ++ back) d
      → (b : Cell) × (c : Cell) × IsBest map a front b × IsBest map b middle c × IsBest map c back d
  -- a path of at least one move begins with a legal move to a neighbour, and the rest is a path from there
  pub begins : (map : Map) (a c : Cell) (move : Move) (rest : List Move) → Leads map a (move ∷ rest) c
      → (b : Cell) × IsLegal map a move b × Leads map b rest c
  -- the way back along a path is a path of the same cost
  pub back : (map : Map) (a b : Cell) (moves : List Move) → Leads map a moves b → Leads map b (back_along moves) a
  pub same_back : (moves : List Move) → cost_of (back_along moves) ≡ cost_of moves
  -- the moves of a path spell its cells, and the cells of a path have moves
  pub spelled : (map : Map) (from to : Cell) (rest : List Cell) → IsPath map (from ∷ rest) → EndsAt from rest to
      → (moves : List Move) × Leads map from moves to × (length moves ≡ length rest)
  pub walked : (map : Map) (from to : Cell) (moves : List Move) → Leads map from moves to
      → (rest : List Cell) × IsPath map (from ∷ rest) × EndsAt from rest to × (length rest ≡ length moves)

-- if a path exists, a best path exists
abbrev pub BestPathsExist : Type 0
BestPathsExist = (map : Map) (from to : Cell) → Reaches map from to → (best : List Move) × IsBest map from best to
