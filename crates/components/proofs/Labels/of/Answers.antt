use Rattle.std.proofs.Common.{◌≡◌, get_or, Some, ap, ◌∙◌, arith}
use Rattle.std.proofs.lemmas.List.{get_or_read}
use Rattle.moves.specs.Maps.{place_of}
use Rattle.components.proofs.Lookups.{label_found, label_finds, place_is_inside}
use Rattle.components.proofs.Labels.of.Goals as goal
use Rattle.components.proofs.Labels.of.Goals.{then-x-self-via-then-x-self, then-x-self-via-else-x-self+then-y-self, After-index-label}

pub returns-then-x-self-clause-none : goal.returns-then-x-self-clause-none
returns-then-x-self-clause-none c = λ label is.
    let found = label_found _ _ _ _ _ c.self.invariant _ c.self.view_is _ label is in
    elim c.then-x-self.branch [ then-x-self-via-then-x-self w ↦ omega arith | then-x-self-via-else-x-self+then-y-self w ↦ omega arith ]

pub returns-then-x-self-clause-alone : goal.returns-then-x-self-clause-alone
returns-then-x-self-clause-alone c = λ label is.
    let found = label_found _ _ _ _ _ c.self.invariant _ c.self.view_is _ label is in
    absurd (elim c.then-x-self.branch [ then-x-self-via-then-x-self w ↦ omega arith | then-x-self-via-else-x-self+then-y-self w ↦ omega arith ])

-- what was read is the label of the cell
label_read : (c : After-index-label) → c.index-label.result.now ≡ get_or c.self.inside.labels.items (place_of c.self.inside.width c.args.cell) 0
label_read c =
    let read = rw (c.from-y.ensures, c.from-x.ensures) at c.index-label.ensures in
    let within = place_is_inside _ _ _ _ _ c.self.invariant _ c.self.view_is c.args.cell (omega arith) (omega arith) in
    get_or_read _ _ _ within read 0

pub returns-then-label-clause-none : goal.returns-then-label-clause-none
returns-then-label-clause-none c = λ label is.
    let found = label_found _ _ _ _ _ c.self.invariant _ c.self.view_is _ label is in
    omega (arith, label_read (goal.at.returns-then-label-clause-none c).After-index-label)

pub returns-then-label-clause-alone : goal.returns-then-label-clause-alone
returns-then-label-clause-alone c = λ label is.
    let found = label_found _ _ _ _ _ c.self.invariant _ c.self.view_is _ label is in
    absurd (omega (arith, label_read (goal.at.returns-then-label-clause-alone c).After-index-label))

pub returns-else-label-clause-some : goal.returns-else-label-clause-some
returns-else-label-clause-some c =
    let read = label_read (goal.at.returns-else-label-clause-some c).After-index-label in
    rw read (label_finds _ _ _ _ _ c.self.invariant _ c.self.view_is c.args.cell (omega arith) (omega arith) (λ none. c.if-label.false (read ∙ none)))

pub returns-else-label-clause-alone : goal.returns-else-label-clause-alone
returns-else-label-clause-alone c = λ label is.
    let found = label_found _ _ _ _ _ c.self.invariant _ c.self.view_is _ label is in
    ap Some (label_read (goal.at.returns-else-label-clause-alone c).After-index-label ∙ found.2)
