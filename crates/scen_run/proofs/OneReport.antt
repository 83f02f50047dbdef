-- Results have one report.
use Rattle.std.proofs.Common.{◌≡◌, ℕ, ◌+◌, ◌<◌, ◌++◌, List, [], ◌∷◌, sym, ap, ◌∙◌, inl, inr, arith}
use Rattle.std.specs.Prelude.{codes}
use Rattle.std.proofs.lemmas.Bool.{cases_lt}
use Rattle.root_cost.specs.declared.Cost.{Cost}
use Rattle.root_cost.specs.Costs.{IsMicro, million_of, whole}
use Rattle.root_cost.proofs.Order.{at_most_trans}
use Rattle.root_cost.proofs.Adding.{at_most_more}
use Rattle.scen_run.specs.declared.results.LineResult.{LineResult}
use Rattle.scen_run.specs.declared.results.LineResult.TheVariants.{Match, Differs, Unreachable, Refused, Scaled}
use Rattle.scen_run.specs.Reports.{cost_text, numbered_line, totals_line, IsCostText, IsSaidOf, AreResultLines, ResultsHaveOneReport}

-- no greater number of millionths is reached
not_greater : (cost : Cost) (m n : ℕ) → IsMicro cost m → IsMicro cost n → m < n → ⊥
not_greater cost m n p q less =
    p.not_passed (at_most_trans (whole (m + 1)) (whole n) (million_of cost) (at_most_more (whole (m + 1)) (whole n) (omega arith) (omega arith)) q.reached)

one_length : (cost : Cost) (m n : ℕ) → IsMicro cost m → IsMicro cost n → m ≡ n
one_length cost m n p q =
    elim (cases_lt m n) [
      | inl less ↦ absurd (not_greater cost m n p q less)
      | inr from ↦ elim (cases_lt n m) [ inl less ↦ absurd (not_greater cost n m q p less) | inr upto ↦ omega arith ]
    ]

one_cost_text : (word : List ℕ) (cost : Cost) (a b : List ℕ) → IsCostText word cost a → IsCostText word cost b → a ≡ b
one_cost_text word cost a b p q = p.2 ∙ ap (cost_text word cost) (one_length cost p.0 q.0 p.1 q.1) ∙ sym q.2

one_said : (result : LineResult) (a b : List ℕ) → IsSaidOf result a → IsSaidOf result b → a ≡ b
one_said (Match cost) a b p q = one_cost_text (codes "match ") cost a b p q
one_said (Differs cost) a b p q = one_cost_text (codes "differs ") cost a b p q
one_said Unreachable a b p q = p ∙ sym q
one_said (Refused why) a b p q = p ∙ sym q
one_said Scaled a b p q = p ∙ sym q

one_text : (number : ℕ) (results : List LineResult) (a b : List ℕ) → AreResultLines number results a → AreResultLines number results b → a ≡ b
one_text number [] a b p q = p ∙ sym q
one_text number (result ∷ results) a b p q =
    p.4 ∙ ap (λ said. numbered_line number said ++ p.1) (one_said result p.0 q.0 p.2 q.2)
    ∙ ap (λ rest. numbered_line number q.0 ++ rest) (one_text (number + 1) results p.1 q.1 p.3 q.3) ∙ sym q.4

pub have_one : ResultsHaveOneReport
have_one results a b p q = p.is ∙ ap (λ lines. lines ++ totals_line results) (one_text 1 results p.lines q.lines p.are q.are) ∙ sym q.is
