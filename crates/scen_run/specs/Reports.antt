-- The report on scenarios: a line for each of them, with its number from 1, and a last line that counts them.
use Rattle.std.specs.Prelude.{◌≡◌, ℕ, ◌+◌, ◌≤◌, Bool, true, false, List, [], ◌∷◌, ◌++◌, length, count_by, codes, All}
use Rattle.std.specs.Fmt.{decimal}
use Rattle.root_cost.specs.declared.Cost.{Cost}
use Rattle.root_cost.specs.declared.TheConstants.{MAX_STEPS}
use Rattle.root_cost.specs.Costs.{IsMicro}
use Rattle.root_cost.specs.Lengths.{length_text}
use Rattle.versions.specs.Queries.{refusal_text}
use Rattle.scen_run.specs.declared.results.LineResult.{LineResult}
use Rattle.scen_run.specs.declared.results.LineResult.TheVariants.{Match, Differs, Unreachable, Refused, Scaled}

-- a word, a cost and its length in millionths: `match 2 0 2.000000`
abbrev pub cost_text : List ℕ → Cost → ℕ → List ℕ
cost_text word cost micro =
    word ++ decimal cost.straight ++ codes " " ++ decimal cost.diagonal ++ codes " " ++ length_text micro

-- the text has the cost with its exact length, rounded down to millionths
abbrev pub IsCostText : List ℕ → Cost → List ℕ → Type 0
IsCostText word cost text = (micro : ℕ) × IsMicro cost micro × (text ≡ cost_text word cost micro)

-- what is said of a result
abbrev pub IsSaidOf : LineResult → List ℕ → Type 0
IsSaidOf (Match cost) text = IsCostText (codes "match ") cost text
IsSaidOf (Differs cost) text = IsCostText (codes "differs ") cost text
IsSaidOf Unreachable text = text ≡ codes "unreachable"
IsSaidOf (Refused why) text = text ≡ refusal_text why
IsSaidOf Scaled text = text ≡ codes "scaled"

-- a line with its number: `4 scaled`
abbrev pub numbered_line : ℕ → List ℕ → List ℕ
numbered_line number said = decimal number ++ codes " " ++ said ++ codes "\n"

-- the line of the first result, which has that number, and then those of the others
abbrev pub AreResultLines : ℕ → List LineResult → List ℕ → Type 0
AreResultLines number [] text = text ≡ []
AreResultLines number (result ∷ results) text =
    (said : List ℕ) × (rest : List ℕ) × IsSaidOf result said × AreResultLines (number + 1) results rest
    × (text ≡ numbered_line number said ++ rest)

-- which results are counted as one kind
abbrev pub is_match : LineResult → Bool
is_match (Match cost) = true
is_match _ = false

abbrev pub is_differs : LineResult → Bool
is_differs (Differs cost) = true
is_differs _ = false

abbrev pub is_unreachable : LineResult → Bool
is_unreachable Unreachable = true
is_unreachable _ = false

abbrev pub is_refused : LineResult → Bool
is_refused (Refused why) = true
is_refused _ = false

abbrev pub is_scaled : LineResult → Bool
is_scaled Scaled = true
is_scaled _ = false

-- the last line: how many results there are, and how many of each kind
abbrev pub totals_line : List LineResult → List ℕ
totals_line results =
    codes "scenarios " ++ decimal (length results)
    ++ codes " match " ++ decimal (count_by is_match results)
    ++ codes " differs " ++ decimal (count_by is_differs results)
    ++ codes " unreachable " ++ decimal (count_by is_unreachable results)
    ++ codes " refused " ++ decimal (count_by is_refused results)
    ++ codes " scaled " ++ decimal (count_by is_scaled results)
    ++ codes "\n"

-- the report: the lines of the results in their order, numbered from 1, and the last line
pub record IsReport (results : List LineResult) (text : List ℕ) : Type 0 where
  pub lines : List ℕ
  pub are : AreResultLines 1 results lines
  pub is : text ≡ lines ++ totals_line results

-- the cost has a length
pub record HasLength (cost : Cost) : Type 0 where
  pub straight : cost.straight ≤ MAX_STEPS
  pub diagonal : cost.diagonal ≤ MAX_STEPS

-- the cost of a result, if it has one, has a length
abbrev pub IsShort : LineResult → Type 0
IsShort (Match cost) = HasLength cost
IsShort (Differs cost) = HasLength cost
IsShort _ = Unit {0}

abbrev pub AreShort : List LineResult → Type 0
AreShort results = All IsShort results

-- results have one report
abbrev pub ResultsHaveOneReport : Type 0
ResultsHaveOneReport = (results : List LineResult) (a b : List ℕ) → IsReport results a → IsReport results b → a ≡ b
