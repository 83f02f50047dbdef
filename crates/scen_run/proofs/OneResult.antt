-- Each line has one result.
use Rattle.std.proofs.Common.{◌≡◌, List, [], ◌∷◌, refl, sym, ap, ◌∙◌, subst}
use Rattle.root_cost.specs.declared.Cost.{Cost}
use Rattle.root_cost.specs.Costs.{IsNear}
use Rattle.moves.specs.declared.Cell.{Cell}
use Rattle.moves.specs.Maps.{Map}
use Rattle.moves.specs.Paths.{cost_of}
use Rattle.scen_read.specs.declared.scenario.ScenLine.{ScenLine}
use Rattle.versions.specs.Databases.{Versioned}
use Rattle.versions.specs.Queries.{IsRefusal}
use Rattle.versions.specs.declared.query.End.TheVariants.{Start, Goal}
use Rattle.versions.specs.declared.query.QueryRefusal.{QueryRefusal}
use Rattle.versions.specs.declared.query.QueryRefusal.TheVariants.{Outside, Blocked}
use Rattle.scen_run.specs.declared.results.LineResult.{LineResult}
use Rattle.scen_run.specs.declared.results.LineResult.TheVariants.{Match, Differs, Unreachable, Refused, Scaled}
use Rattle.scen_run.specs.Results.{IsCostOf, IsLineResult, AreLineResults, LinesHaveOneResult}
use Rattle.versions.proofs.Refusals.{ends_not_refused}

-- a query is refused for one cause
one_refusal : (map : Map) (start goal : Cell) (a b : QueryRefusal) → IsRefusal map start goal a → IsRefusal map start goal b → a ≡ b
one_refusal map start goal (Outside Start) (Outside Start) p q = refl
one_refusal map start goal (Outside Start) (Blocked Start) p q = absurd (p q.0)
one_refusal map start goal (Outside Start) (Outside Goal) p q = absurd (p q.0.inside)
one_refusal map start goal (Outside Start) (Blocked Goal) p q = absurd (p q.0.inside)
one_refusal map start goal (Blocked Start) (Outside Start) p q = absurd (q p.0)
one_refusal map start goal (Blocked Start) (Blocked Start) p q = refl
one_refusal map start goal (Blocked Start) (Outside Goal) p q = absurd (p.1 q.0)
one_refusal map start goal (Blocked Start) (Blocked Goal) p q = absurd (p.1 q.0)
one_refusal map start goal (Outside Goal) (Outside Start) p q = absurd (q p.0.inside)
one_refusal map start goal (Outside Goal) (Blocked Start) p q = absurd (q.1 p.0)
one_refusal map start goal (Outside Goal) (Outside Goal) p q = refl
one_refusal map start goal (Outside Goal) (Blocked Goal) p q = absurd (p.1 q.1)
one_refusal map start goal (Blocked Goal) (Outside Start) p q = absurd (q p.0.inside)
one_refusal map start goal (Blocked Goal) (Blocked Start) p q = absurd (q.1 p.0)
one_refusal map start goal (Blocked Goal) (Outside Goal) p q = absurd (q.1 p.1)
one_refusal map start goal (Blocked Goal) (Blocked Goal) p q = refl

-- a walk has one cost
one_cost : (version : Versioned) (line : ScenLine) (a b : Cost) → IsCostOf version line a → IsCostOf version line b → a ≡ b
one_cost version line a b p q =
    p.costs ∙ ap cost_of (q.answer.1.only p.moves p.answer.1.spelled) ∙ sym q.costs

module _ (version : Versioned) (line : ScenLine) where
  one_result : (a b : LineResult) → IsLineResult version line a → IsLineResult version line b → a ≡ b
  one_result Scaled Scaled p q = refl
  one_result Scaled (Refused v) p q = absurd (p q.0)
  one_result Scaled Unreachable p q = absurd (p q.0)
  one_result Scaled (Match b) p q = absurd (p q.0)
  one_result Scaled (Differs b) p q = absurd (p q.0)
  one_result (Refused w) Scaled p q = absurd (q p.0)
  one_result (Refused w) (Refused v) p q = ap Refused (one_refusal version.map line.start line.goal w v p.1 q.1)
  one_result (Refused w) Unreachable p q = absurd (ends_not_refused version.map line.start line.goal w p.1 q.1.0)
  one_result (Refused w) (Match b) p q = absurd (ends_not_refused version.map line.start line.goal w p.1 q.1.answer.0)
  one_result (Refused w) (Differs b) p q = absurd (ends_not_refused version.map line.start line.goal w p.1 q.1.answer.0)
  one_result Unreachable Scaled p q = absurd (q p.0)
  one_result Unreachable (Refused v) p q = absurd (ends_not_refused version.map line.start line.goal v q.1 p.1.0)
  one_result Unreachable Unreachable p q = refl
  one_result Unreachable (Match b) p q = absurd (p.1.1 (q.1.moves, q.1.answer.1.best.leads))
  one_result Unreachable (Differs b) p q = absurd (p.1.1 (q.1.moves, q.1.answer.1.best.leads))
  one_result (Match a) Scaled p q = absurd (q p.0)
  one_result (Match a) (Refused v) p q = absurd (ends_not_refused version.map line.start line.goal v q.1 p.1.answer.0)
  one_result (Match a) Unreachable p q = absurd (q.1.1 (p.1.moves, p.1.answer.1.best.leads))
  one_result (Match a) (Match b) p q = ap Match (one_cost version line a b p.1 q.1)
  one_result (Match a) (Differs b) p q = absurd (q.2 (subst (λ c. IsNear c line.nano) (one_cost version line a b p.1 q.1) p.2))
  one_result (Differs a) Scaled p q = absurd (q p.0)
  one_result (Differs a) (Refused v) p q = absurd (ends_not_refused version.map line.start line.goal v q.1 p.1.answer.0)
  one_result (Differs a) Unreachable p q = absurd (q.1.1 (p.1.moves, p.1.answer.1.best.leads))
  one_result (Differs a) (Match b) p q = absurd (p.2 (subst (λ c. IsNear c line.nano) (one_cost version line b a q.1 p.1) q.2))
  one_result (Differs a) (Differs b) p q = ap Differs (one_cost version line a b p.1 q.1)

one_list : (version : Versioned) (lines : List ScenLine) (a b : List LineResult) → AreLineResults version lines a → AreLineResults version lines b → a ≡ b
one_list version [] [] [] p q = refl
one_list version [] [] (y ∷ ys) p q = absurd q
one_list version [] (x ∷ xs) ys p q = absurd p
one_list version (line ∷ lines) [] ys p q = absurd p
one_list version (line ∷ lines) (x ∷ xs) [] p q = absurd q
one_list version (line ∷ lines) (x ∷ xs) (y ∷ ys) p q =
    ap (λ r. r ∷ xs) (one_result version line x y p.0 q.0) ∙ ap (λ rs. y ∷ rs) (one_list version lines xs ys p.1 q.1)

pub have_one : LinesHaveOneResult
have_one = record { of_line = one_result; of_lines = one_list }
