-- Words of the contracts inside this crate. The report does not need them.
use Rattle.std.specs.Prelude.{◌≡◌, ℕ, ◌+◌, ◌*◌, ◌<◌, ◌≤◌, Bool, List, ◌++◌, Option, Some, None, MatchOption, IfSome}
use Rattle.moves.specs.declared.Cell.{Cell}
use Rattle.moves.specs.declared.TheConstants.{MAX_PASSABLE}
use Rattle.versions.specs.Databases.{Versioned}
use Rattle.versions.specs.Answers.{unreachable, IsAnswer}
use Rattle.scen_run.specs.declared.queries.TheConstants.{QUERIES}
use Rattle.scen_run.specs.declared.queries.QueryTotals.{QueryTotals}
use Rattle.scen_run.specs.Results.{IsCostOfAnswer}
pub use Rattle.scen_run.specs.MadeQueries.{numbered_in}
use Rattle.root_cost.specs.declared.Cost.{Cost}
use Rattle.scen_run.specs.declared.results.LineResult.{LineResult}
use Rattle.scen_run.specs.declared.reports.Kind.{Kind}
use Rattle.scen_run.specs.declared.reports.Kind.TheVariants.{Match, Differs, Unreachable, Refused, Scaled}
use Rattle.scen_run.specs.Reports.{IsCostText, IsSaidOf, numbered_line, is_match, is_differs, is_unreachable, is_refused, is_scaled}

-- a text gets what is said of a cost after a word
abbrev pub AddsCost : List ℕ → Cost → List ℕ → List ℕ → Type 0
AddsCost word cost old new = (said : List ℕ) × IsCostText word cost said × (new ≡ old ++ said)

-- a text gets what is said of a result
pub record AddsSaid (result : LineResult) (old new : List ℕ) : Type 0 where
  pub said : List ℕ
  pub is : IsSaidOf result said
  pub added : new ≡ old ++ said

-- a text gets the line of a result
pub record AddsLine (number : ℕ) (result : LineResult) (old new : List ℕ) : Type 0 where
  pub said : List ℕ
  pub is : IsSaidOf result said
  pub added : new ≡ old ++ numbered_line number said

-- whether a result is of that kind
abbrev pub is_of : Kind → LineResult → Bool
is_of Match = is_match
is_of Differs = is_differs
is_of Unreachable = is_unreachable
is_of Refused = is_refused
is_of Scaled = is_scaled

-- what the walk that answers a query costs, and none where no path exists
abbrev pub IsWalkCost : Versioned → Cell → Cell → Option Cost → Type 0
IsWalkCost version start goal cost = MatchOption cost (IsAnswer version start goal unreachable) (IsCostOfAnswer version start goal)

-- fewer steps than a map may have passable cells
abbrev pub IsFewSteps : Option Cost → Type 0
IsFewSteps cost = IfSome cost (λ cost. cost.straight + cost.diagonal < MAX_PASSABLE)

-- the totals of some queries fit
pub record IsWithinQueries (totals : QueryTotals) : Type 0 where
  pub queries : totals.queries ≤ QUERIES
  pub unreachable : totals.unreachable ≤ totals.queries
  pub steps : totals.straight + totals.diagonal ≤ totals.queries * MAX_PASSABLE

-- the totals with one query more, and the cost of its walk if it has one
abbrev pub totals_with : QueryTotals → Option Cost → QueryTotals
totals_with totals None = record totals { queries = totals.queries + 1; unreachable = totals.unreachable + 1 }
totals_with totals (Some cost) = record totals {
  queries = totals.queries + 1;
  straight = totals.straight + cost.straight;
  diagonal = totals.diagonal + cost.diagonal;
}
