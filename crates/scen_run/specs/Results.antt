-- What a version says of the lines of a scenario file. (MovingAI scenario format page: each line is a query on a map, with
-- the length that is stated for its answer.)
use Rattle.std.specs.Prelude.{◌≡◌, ◌^◌, ◌<◌, List, All}
use Rattle.std.specs.List.{AllZip}
use Rattle.root_cost.specs.declared.Cost.{Cost}
use Rattle.root_cost.specs.Costs.{IsNear}
use Rattle.moves.specs.declared.Cell.{Cell}
use Rattle.moves.specs.declared.Move.{Move}
use Rattle.moves.specs.Maps.{Map}
use Rattle.moves.specs.Paths.{cost_of}
use Rattle.scen_read.specs.declared.scenario.ScenLine.{ScenLine}
use Rattle.versions.specs.Databases.{Versioned}
use Rattle.versions.specs.Answers.{Answer, refused, unreachable, path, IsAnswer}
use Rattle.scen_run.specs.declared.results.LineResult.{LineResult}
use Rattle.scen_run.specs.declared.results.LineResult.TheVariants.{Match, Differs, Unreachable, Refused, Scaled}

-- the line is for a map of these sides
pub record IsForSides (map : Map) (line : ScenLine) : Type 0 where
  pub columns : line.width ≡ map.width
  pub rows : line.height ≡ map.height

-- this is the answer to the line's query
abbrev pub IsAnswerTo : Versioned → ScenLine → Answer → Type 0
IsAnswerTo version line answer = IsAnswer version line.start line.goal answer

-- the answer to a query is a path of that cost
pub record IsCostOfAnswer (version : Versioned) (start goal : Cell) (cost : Cost) : Type 0 where
  pub moves : List Move
  pub answer : IsAnswer version start goal (path moves)
  pub costs : cost ≡ cost_of moves

-- the answer to the line's query is a path of that cost
abbrev pub IsCostOf : Versioned → ScenLine → Cost → Type 0
IsCostOf version line cost = IsCostOfAnswer version line.start line.goal cost

-- The result of a line, by cases: a side that it names is not the map's; or it is the answer to its query, and where that is a
-- path, whether its cost is within a hundredth of the stated length. The name of the map and the bucket are not compared.
abbrev pub IsLineResult : Versioned → ScenLine → LineResult → Type 0
IsLineResult version line Scaled = IsForSides version.map line → ⊥
IsLineResult version line (Refused why) = IsForSides version.map line × IsAnswerTo version line (refused why)
IsLineResult version line Unreachable = IsForSides version.map line × IsAnswerTo version line unreachable
IsLineResult version line (Match cost) =
    IsForSides version.map line × IsCostOf version line cost × IsNear cost line.nano
IsLineResult version line (Differs cost) =
    IsForSides version.map line × IsCostOf version line cost × (IsNear cost line.nano → ⊥)

-- the results of lines, in their order
abbrev pub AreLineResults : Versioned → List ScenLine → List LineResult → Type 0
AreLineResults version lines results = AllZip (IsLineResult version) lines results

-- the stated lengths are such as a cost is compared with: below 10^16 billionths
abbrev pub HaveLengths : List ScenLine → Type 0
HaveLengths lines = All (λ line. line.nano < 10 ^ 16) lines

-- each line has one result of one version, and so lines have one list of results, in however many threads it is made
pub record LinesHaveOneResult : Type 0 where
  pub of_line : (version : Versioned) (line : ScenLine) (a b : LineResult)
      → IsLineResult version line a → IsLineResult version line b → a ≡ b
  pub of_lines : (version : Versioned) (lines : List ScenLine) (a b : List LineResult)
      → AreLineResults version lines a → AreLineResults version lines b → a ≡ b
