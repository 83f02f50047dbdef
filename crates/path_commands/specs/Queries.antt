-- What is printed of the answers of a version.
use Rattle.std.specs.Prelude.{◌≡◌, ℕ, List}
use Rattle.root_cost.specs.declared.Cost.{Cost}
use Rattle.root_cost.specs.Costs.{IsMicro}
use Rattle.moves.specs.declared.Cell.{Cell}
use Rattle.moves.specs.declared.Move.{Move}
use Rattle.moves.specs.Paths.{cost_of}
use Rattle.versions.specs.Databases.{Versioned}
use Rattle.versions.specs.Answers.{Answer, refused, unreachable, path, IsAnswer}
use Rattle.scen_read.specs.declared.scenario.ScenLine.{ScenLine}
use Rattle.scen_run.specs.declared.queries.QueryTotals.{QueryTotals}
use Rattle.scen_run.specs.declared.results.LineResult.{LineResult}
use Rattle.scen_run.specs.MadeQueries.{AreQueryTotals}
use Rattle.scen_run.specs.Reports.{IsReport}
use Rattle.scen_run.specs.Results.{AreLineResults}
use Rattle.path_core.specs.Boards.{Boarded, new_board}
use Rattle.path_replay.specs.declared.event.Event.{Event}
use Rattle.path_replay.specs.Replays.{IsReplay}
use Rattle.path_commands.specs.Texts.{head_text, made_text, path_text, unreachable_text}

-- the text tells the cost and the floor of the exact length, and goes up to the moves
pub record TellsHead (cost : Cost) (text : List ℕ) : Type 0 where
  pub micro : ℕ
  pub floor : IsMicro cost micro
  pub is : text ≡ head_text cost micro

-- the text tells a path: its cost, the floor of its exact length to six digits, its moves
pub record TellsPath (cost : Cost) (moves : List Move) (text : List ℕ) : Type 0 where
  pub micro : ℕ
  pub floor : IsMicro cost micro
  pub is : text ≡ path_text cost micro moves

-- the text tells the answer; a refusal has a status of its own and no such text
abbrev pub Tells : Answer → List ℕ → Type 0
Tells (refused why) text = ⊥
Tells unreachable text = text ≡ unreachable_text
Tells (path moves) text = TellsPath (cost_of moves) moves text

-- the text tells what the version answers
pub record TellsAnswer (version : Versioned) (start goal : Cell) (text : List ℕ) : Type 0 where
  pub answer : Answer
  pub is : IsAnswer version start goal answer
  pub told : Tells answer text

-- the text is the report on what the version says of scenarios
pub record TellsResults (version : Versioned) (scenarios : List ScenLine) (text : List ℕ) : Type 0 where
  pub results : List LineResult
  pub are : AreLineResults version scenarios results
  pub report : IsReport results text

-- the text tells how large the version is, and what its answers to the queries of the seed come to
pub record TellsTotals (version : Versioned) (seed : ℕ) (text : List ℕ) : Type 0 where
  pub totals : QueryTotals
  pub are : AreQueryTotals version seed totals
  pub is : text ≡ made_text version totals

-- the text has the lines that events print on a board with no entries, whose first version this is
pub record TellsReplay (version : Versioned) (events : List Event) (text : List ℕ) : Type 0 where
  pub board : Boarded
  pub is : IsReplay (new_board version.map version 0) events text board
