-- The answer to a query, from the least cost.
use Rattle.std.proofs.Common.{◌≡◌, ℕ, ◌+◌, ◌<◌, List, [], ◌∷◌, Option, Some, None, sym, ap, subst, ◌∙◌, arith}
use Rattle.root_cost.specs.declared.Cost.{Cost}
use Rattle.moves.specs.declared.Cell.{Cell}
use Rattle.moves.specs.declared.TheConstants.{MAX_PASSABLE}
use Rattle.moves.specs.Maps.{Map}
use Rattle.moves.specs.Paths.{IsLeastCost}
use Rattle.moves.proofs.CostsOfPaths.{moves_of_cost}
use Rattle.moves.proofs.LawsOfPaths.{same_cost_of_best}
use Rattle.versions.specs.Databases.{Versioned, IsVersion}
use Rattle.versions.specs.Queries.{AreEnds}
use Rattle.versions.proofs.BestWalks.{walks_are_best}
use Rattle.versions.proofs.Homes.{few_moves}
use Rattle.scen_run.specs.Inside.{IsWalkCost, IsFewSteps}
use Rattle.std.proofs.lemmas.List.Elements.{All-nil, All-cons}
use Rattle.scen_read.specs.declared.scenario.ScenLine.{ScenLine}
use Rattle.scen_run.specs.declared.results.LineResult.{LineResult}
use Rattle.scen_run.specs.declared.results.LineResult.TheVariants.{Match, Differs, Unreachable, Refused, Scaled}
use Rattle.scen_run.specs.Reports.{HasLength, IsShort, AreShort}
use Rattle.scen_run.specs.Results.{IsForSides, IsCostOfAnswer, IsLineResult, AreLineResults}

-- the least cost is what the walk costs, and where there is none no path exists
pub cost_answers : (version : Versioned) → IsVersion version → (start goal : Cell) → AreEnds version.map start goal
    → (cost : Option Cost) → IsLeastCost version.map start goal cost → IsWalkCost version start goal cost
cost_answers version is start goal ends None least = (ends, least)
cost_answers version is start goal ends (Some cost) least =
    let walk = walks_are_best version.map version.order version.comps is.database start goal (least.0, least.1.leads) in
    record {
      moves = walk.0;
      answer = (ends, walk.1);
      costs = sym least.2 ∙ same_cost_of_best version.map start goal least.0 walk.0 least.1 walk.1.best;
    }

-- a walk has few steps
pub few_steps : (version : Versioned) → IsVersion version → (start goal : Cell) (cost : Cost) → IsCostOfAnswer version start goal cost
    → cost.straight + cost.diagonal < MAX_PASSABLE
few_steps version is start goal cost of =
    let few = few_moves version.map version.order version.comps is.database start goal of.moves of.answer.1 in
    let count = moves_of_cost of.moves in
    let same = ap (λ (c : Cost). c.straight + c.diagonal) of.costs in
    omega (arith, few, count, same)

-- what is found is the cost of the answer
pub cost_is : (version : Versioned) → IsVersion version → (start goal : Cell) → AreEnds version.map start goal
    → (found : Option Cost) (cost : Cost) → found ≡ Some cost → IsLeastCost version.map start goal found → IsCostOfAnswer version start goal cost
cost_is version is start goal ends found cost same least =
    cost_answers version is start goal ends (Some cost) (subst (IsLeastCost version.map start goal) same least)

-- and it has a length
pub has_length : (version : Versioned) → IsVersion version → (start goal : Cell) (cost : Cost) → IsCostOfAnswer version start goal cost → HasLength cost
has_length version is start goal cost of =
    let few = few_steps version is start goal cost of in
    record { straight = omega arith; diagonal = omega arith }

-- the sides that a line names are the map's
pub same_sides : (map grid : Map) (line : ScenLine) (width height : ℕ) → grid ≡ map → width ≡ grid.width → height ≡ grid.height
    → line.width ≡ width → line.height ≡ height → IsForSides map line
same_sides map grid line width height same columns rows across down = record {
  columns = across ∙ columns ∙ ap (λ m. m.width) same;
  rows = down ∙ rows ∙ ap (λ m. m.height) same;
}

-- a walk that there is has few steps
pub few_if_some : (version : Versioned) → IsVersion version → (start goal : Cell) (cost : Option Cost) → IsWalkCost version start goal cost → IsFewSteps cost
few_if_some version is start goal None of = tt
few_if_some version is start goal (Some cost) of = few_steps version is start goal cost of

-- the cost of a result has a length
result_short : (version : Versioned) → IsVersion version → (line : ScenLine) (result : LineResult) → IsLineResult version line result → IsShort result
result_short version is line (Match cost) of = has_length version is line.start line.goal cost of.1
result_short version is line (Differs cost) of = has_length version is line.start line.goal cost of.1
result_short version is line Unreachable of = tt
result_short version is line (Refused why) of = tt
result_short version is line Scaled of = tt

pub results_short : (version : Versioned) → IsVersion version → (lines : List ScenLine) (results : List LineResult) → AreLineResults version lines results
    → AreShort results
results_short version is [] [] are = All-nil IsShort
results_short version is [] (result ∷ results) are = absurd are
results_short version is (line ∷ lines) [] are = absurd are
results_short version is (line ∷ lines) (result ∷ results) are =
    All-cons IsShort result results (result_short version is line result are.0) (results_short version is lines results are.1)
