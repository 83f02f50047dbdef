-- What is printed of a near version.
use Rattle.std.specs.Prelude.{◌≡◌, ◌++◌, ℕ, List}
use Rattle.root_cost.specs.declared.Cost.{Cost}
use Rattle.moves.specs.declared.Cell.{Cell}
use Rattle.moves.specs.declared.Move.{Move}
use Rattle.moves.specs.Paths.{Reaches, cost_of}
use Rattle.versions.specs.Databases.{Versioned}
use Rattle.versions.specs.Queries.{AreEnds}
use Rattle.near_rows.specs.NearVersions.{NearVersioned, IsNearVersion, IsWidest, near_runs_of}
use Rattle.near_rows.specs.NearPaths.{IsNearWalk}
use Rattle.near_rows.specs.NearWalks.{NearWalking, IsAhead}
use Rattle.path_commands.specs.Texts.{check_text, names_text, near_text, unreachable_text}
use Rattle.path_commands.specs.Queries.{TellsPath}

-- the near version of a version
pub record IsNearOf (version : Versioned) (near : NearVersioned) : Type 0 where
  pub same : near.version ≡ version
  pub is : IsNearVersion near

-- the text tells how large the version is, how many runs its near rows have, and its greatest near radius
pub record TellsNear (version : Versioned) (text : List ℕ) : Type 0 where
  pub near : NearVersioned
  pub of : IsNearOf version near
  pub widest : ℕ
  pub greatest : IsWidest near.nearby widest
  pub is : text ≡ check_text version ++ near_text (near_runs_of near.nearby) widest

-- the text grew by the number of runs of all near rows, and by the greatest near radius
pub record AppendsSizes (near : NearVersioned) (old new : List ℕ) : Type 0 where
  pub widest : ℕ
  pub greatest : IsWidest near.nearby widest
  pub is : new ≡ old ++ near_text (near_runs_of near.nearby) widest

-- an answer to a query for a near path: that no path exists, or the moves of the near walk
pub data NearAnswer : Type 0 where
  unreachable : NearAnswer
  path : List Move → NearAnswer

-- the answer of a near version to a query of two passable cells
abbrev pub IsNearAnswer : NearVersioned → Cell → Cell → NearAnswer → Type 0
IsNearAnswer near start goal unreachable = Reaches near.version.map start goal → ⊥
IsNearAnswer near start goal (path moves) = IsNearWalk near start goal moves

-- the text tells the answer, as `path` tells that of a version
abbrev pub Tells : NearAnswer → List ℕ → Type 0
Tells unreachable text = text ≡ unreachable_text
Tells (path moves) text = TellsPath (cost_of moves) moves text

-- the text tells what the near version of a version answers
pub record TellsNearAnswer (version : Versioned) (start goal : Cell) (text : List ℕ) : Type 0 where
  pub near : NearVersioned
  pub of : IsNearOf version near
  pub ends : AreEnds version.map start goal
  pub answer : NearAnswer
  pub is : IsNearAnswer near start goal answer
  pub told : Tells answer text

-- ---- while a near walk is read

-- the text grew by the moves that are ahead of the walk
abbrev pub AppendsNear : NearWalking → List ℕ → List ℕ → Type 0
AppendsNear walk old new = (moves : List Move) → IsAhead walk moves → new ≡ old ++ names_text moves

-- the text tells the cost and the moves that are ahead of the walk
abbrev pub TellsNearAhead : NearWalking → Cost → List ℕ → Type 0
TellsNearAhead walk cost text = (moves : List Move) → IsAhead walk moves → TellsPath cost moves text
