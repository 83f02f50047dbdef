-- What the calls tell: of each status, what holds of the words and of what was written.
use Rattle.std.specs.Prelude.{◌≡◌, ℕ, List, length, Some, None, MatchOption}
use Rattle.root_cost.specs.declared.Cost.{Cost}
use Rattle.moves.specs.declared.Cell.{Cell}
use Rattle.moves.specs.declared.Move.{Move}
use Rattle.moves.specs.Maps.{passable_count}
use Rattle.moves.specs.Moves.{number_of}
use Rattle.versions.specs.declared.query.End.{End}
use Rattle.versions.specs.declared.query.QueryRefusal.{QueryRefusal}
use Rattle.versions.specs.declared.version.Next.{Next}
use Rattle.versions.specs.Databases.{Versioned}
use Rattle.path_image.specs.declared.walking.WalkFault.{WalkFault}
use Rattle.path_image.specs.declared.walking.PathFault.{PathFault}
use Rattle.path_image.specs.Reading.{LeadsInside}
use Rattle.path_image.specs.Faults.{IsFaultOf}
use Rattle.path_image.specs.declared.reading.Home.{Home}
use Rattle.path_image.specs.Answers.{AreEndsIn, IsEndRefusalIn, IsHomeIn, IsLeastCostIn, IsNextIn, IsPathFaultIn, IsPathIn, IsRefusalIn, IsWalkFaultIn}
use Rattle.pathdb.specs.declared.status.Status.{Status}
use Rattle.pathdb.specs.declared.status.Status.TheVariants.{Done, Arrived, Unreachable, TooSmall, Broken}
use Rattle.pathdb.specs.declared.checks.PathdbFacts.{PathdbFacts}
use Rattle.pathdb.specs.declared.queries.PathdbCell.{PathdbCell}
use Rattle.pathdb.specs.declared.queries.PathdbCost.{PathdbCost}
use Rattle.pathdb.specs.Statuses.{status_number, refusal_of, fault_of}

-- the number is that of a status of which this holds; no two statuses have one number
pub record Tells (number : ℕ) (Holds : Status → Type 0) : Type 0 where
  pub status : Status
  pub is : number ≡ status_number status
  pub holds : Holds status

-- a cell of C
abbrev pub cell_of : PathdbCell → Cell
cell_of cell = record { x = cell.x; y = cell.y }

-- a cost of C
abbrev pub cost_of : PathdbCost → Cost
cost_of cost = record { straight = cost.straight; diagonal = cost.diagonal }

-- what an image says of its map
abbrev pub facts_of : Versioned → PathdbFacts
facts_of version = record {
  width = version.map.width;
  height = version.map.height;
  cells = passable_count version.map;
  components = length version.comps;
  prefix = version.prefix;
}

-- done: the words passed the look
abbrev pub HasPassed : List ℕ → Status → Type 0
HasPassed words Done = LeadsInside words
HasPassed words _ = ⊥

-- of the look at words: they passed, or that part is wrong
abbrev pub SaysCheck : List ℕ → ℕ → Status → Type 0
SaysCheck words part status = MatchOption (fault_of status part) (HasPassed words status) (IsFaultOf words)

-- the cell is passable, and lies in the component with that number
pub record IsInComponent (words : List ℕ) (cell : Cell) (component : ℕ) : Type 0 where
  pub home : Home
  pub is : component ≡ home.label
  pub stands : IsHomeIn words cell home

-- in which component a cell lies that is passable
abbrev pub SaysWhere : List ℕ → Cell → ℕ → ℕ → Status → Type 0
SaysWhere words cell old new Done = IsInComponent words cell new
SaysWhere words cell old new _ = ⊥

-- of a cell: the component in which it lies, or why it lies in none, and then nothing is written
abbrev pub SaysComponent : List ℕ → Cell → ℕ → ℕ → Status → Type 0
SaysComponent words cell old new status =
    MatchOption (refusal_of status) (SaysWhere words cell old new status) (λ why. IsEndRefusalIn words cell End.Start why × (new ≡ old))

-- the path goes on by the move with that number
pub record GoesBy (words : List ℕ) (at goal : Cell) (number : ℕ) : Type 0 where
  pub move : Move
  pub is : number ≡ number_of move
  pub ends : AreEndsIn words at goal
  pub goes : IsNextIn words at goal (Next.Go move)

-- where the path of two ends that may be asked for goes on
abbrev pub SaysOnward : List ℕ → Cell → Cell → ℕ → ℕ → Status → Type 0
SaysOnward words at goal old new Done = GoesBy words at goal new
SaysOnward words at goal old new Arrived = AreEndsIn words at goal × IsNextIn words at goal Next.Arrived × (new ≡ old)
SaysOnward words at goal old new Unreachable = AreEndsIn words at goal × IsNextIn words at goal Next.Unreachable × (new ≡ old)
SaysOnward words at goal old new _ = ⊥

-- of where a path goes on: so, or the ends are refused, and then no move is written
abbrev pub SaysNext : List ℕ → Cell → Cell → ℕ → ℕ → Status → Type 0
SaysNext words at goal old new status =
    MatchOption (refusal_of status) (SaysOnward words at goal old new status) (λ why. IsRefusalIn words at goal why × (new ≡ old))

-- what the path of two ends that may be asked for costs
abbrev pub SaysLeast : List ℕ → Cell → Cell → PathdbCost → PathdbCost → Status → Type 0
SaysLeast words start goal old new Done = AreEndsIn words start goal × IsLeastCostIn words start goal (Some (cost_of new))
SaysLeast words start goal old new Unreachable = AreEndsIn words start goal × IsLeastCostIn words start goal None × (new ≡ old)
SaysLeast words start goal old new Broken = IsWalkFaultIn words start goal WalkFault.Broken × (new ≡ old)
SaysLeast words start goal old new _ = ⊥

-- of what a path costs: so much, or the ends are refused, and then no cost is written
abbrev pub SaysCost : List ℕ → Cell → Cell → PathdbCost → PathdbCost → Status → Type 0
SaysCost words start goal old new status =
    MatchOption (refusal_of status) (SaysLeast words start goal old new status) (λ why. IsRefusalIn words start goal why × (new ≡ old))

-- what is written of the path of two ends that may be asked for
abbrev pub SaysMoves : List ℕ → Cell → Cell → List ℕ → List ℕ → ℕ → Status → Type 0
SaysMoves words start goal old new count Done = AreEndsIn words start goal × IsPathIn words start goal old new (Some count)
SaysMoves words start goal old new count Unreachable =
    AreEndsIn words start goal × IsPathIn words start goal old new None × (count ≡ 0)
SaysMoves words start goal old new count TooSmall = IsPathFaultIn words start goal old new (PathFault.TooSmall count)
SaysMoves words start goal old new count Broken =
    IsPathFaultIn words start goal old new (PathFault.Unanswered WalkFault.Broken) × (count ≡ 0)
SaysMoves words start goal old new count _ = ⊥

-- why no move is written
abbrev pub IsRefusedIn : List ℕ → Cell → Cell → List ℕ → List ℕ → ℕ → QueryRefusal → Type 0
IsRefusedIn words start goal old new count why =
    IsPathFaultIn words start goal old new (PathFault.Unanswered (WalkFault.Refused why)) × (count ≡ 0)

-- of the moves of a path: they are written, or the ends are refused
abbrev pub SaysPath : List ℕ → Cell → Cell → List ℕ → List ℕ → ℕ → Status → Type 0
SaysPath words start goal old new count status =
    MatchOption (refusal_of status) (SaysMoves words start goal old new count status) (IsRefusedIn words start goal old new count)
