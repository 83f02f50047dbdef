use Rattle.std.proofs.Common.{sym, true≢false, ◌∙◌}
use Rattle.scen_run.proofs.Answering.{cost_is, has_length, same_sides}
use Rattle.scen_run.proofs.results.result_of.Goals as goal

pub near-requires-clause-straight : goal.near-requires-clause-straight
near-requires-clause-straight c =
    let is = c.grid-grid.ensures.version in
    (has_length _ is _ _ c.in-Ok-Some.cost (cost_is _ is _ _ c.in-Ok-Some.ensures.ends _ _ c.in-Ok-Some.field-0-is c.in-Ok-Some.ensures.cost)).straight

pub near-requires-clause-diagonal : goal.near-requires-clause-diagonal
near-requires-clause-diagonal c =
    let is = c.grid-grid.ensures.version in
    (has_length _ is _ _ c.in-Ok-Some.cost (cost_is _ is _ _ c.in-Ok-Some.ensures.ends _ _ c.in-Ok-Some.field-0-is c.in-Ok-Some.ensures.cost)).diagonal

pub returns-in-Ok-Some : goal.returns-in-Ok-Some
returns-in-Ok-Some c = (
  same_sides _ _ c.args.line.now _ _ c.grid-grid.ensures.map c.width.ensures.width c.height.ensures.height c.if-line-width.false c.if-line-height.false,
  cost_is _ c.grid-grid.ensures.version _ _ c.in-Ok-Some.ensures.ends _ _ c.in-Ok-Some.field-0-is c.in-Ok-Some.ensures.cost,
  c.near.ensures.0 c.if-near.true,
)

pub returns-in-Ok-Some-2 : goal.returns-in-Ok-Some-2
returns-in-Ok-Some-2 c = (
  same_sides _ _ c.args.line.now _ _ c.grid-grid.ensures.map c.width.ensures.width c.height.ensures.height c.if-line-width.false c.if-line-height.false,
  cost_is _ c.grid-grid.ensures.version _ _ c.in-Ok-Some.ensures.ends _ _ c.in-Ok-Some.field-0-is c.in-Ok-Some.ensures.cost,
  λ near. absurd (true≢false (sym (c.near.ensures.1 near) ∙ c.if-near.false)),
)
