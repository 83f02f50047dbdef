use Rattle.std.proofs.Common.{◌≡◌, [], length, refl, ap, count_by, arith}
use Rattle.std.proofs.lemmas.Bool.{iff_false}
use Rattle.std.proofs.lemmas.List.{nil_from_length}
use Rattle.std.proofs.lemmas.List.Elements.{Contains-get_or}
use Rattle.moves.specs.Components.{first_of}
use Rattle.cell_order.specs.Boxes.{Box}
use Rattle.cell_order.proofs.Walking.{walk_start, walk_skip, walk_enter}
use Rattle.cell_order.proofs.Ending.{length_pushed, count_fewer, walk_permutes, walk_orders}
use Rattle.cell_order.proofs.depth_first.Goals as goal
use Rattle.cell_order.proofs.depth_first.Goals.{In_default}

pub loop-cell-init : goal.loop-cell-init
loop-cell-init c =
    rw (c.in_ok-order.ensures.items, c.in_ok-push.ensures.items, c.in_ok-pending.ensures.items)
    (walk_start c.args.cells.now c.in_ok-unseen.unseen (first_of c.args.cells.now) c.in_ok-unseen.ensures.size c.in_ok-unseen.ensures.marked refl)

pub loop-cell-preserved : goal.loop-cell-preserved
loop-cell-preserved c =
    walk_skip _ _ _ _ _ _ c.loop-cell.invariant c.in-Some.ensures.items
    (Contains-get_or c.args.cells.now 0 (record { x = 0; y = 0 }) c.requires.some) (iff_false c.has.ensures c.if-has.false)

pub loop-cell-preserved-in-Continue-branch-6 : goal.loop-cell-preserved-in-Continue-branch-6
loop-cell-preserved-in-Continue-branch-6 c =
    rw (c.remove.ensures, c.in_ok-push-2.ensures.items, c.in_ok-push_beside.ensures)
    (walk_enter _ _ _ _ _ _ c.loop-cell.invariant c.in-Some.ensures.items
    (Contains-get_or c.args.cells.now 0 (record { x = 0; y = 0 }) c.requires.some) (c.has.ensures.0 c.if-has.true))

pub loop-cell-smaller-in-Continue-branch-6 : goal.loop-cell-smaller-in-Continue-branch-6
loop-cell-smaller-in-Continue-branch-6 c =
    let fewer = count_fewer c.loop-cell.unseen c.in-Some.cell c.loop-cell.invariant.size (c.has.ensures.0 c.if-has.true) in
    let marks = ap (λ (b : Box). count_by (λ mark. mark) b.marks) c.remove.ensures in
    let long = ap length c.in_ok-push_beside.ensures in
    let most = length_pushed c.pop.new.self.items c.in-Some.cell in
    omega (arith, c.push_beside.new.pending.ok.0, c.pop.new.self.ok.0, c.in-Some.ensures.cases)

nothing_waits : (c : In_default) → c.loop-cell.pending.items ≡ []
nothing_waits c = nil_from_length c.loop-cell.pending.items (omega (arith, c.loop-cell.pending.ok.0, c.in_default.ensures.cases))

pub returns-clause-order : goal.returns-clause-order
returns-clause-order c =
    let none = nothing_waits (goal.at.returns-clause-order c).In_default in
    walk_orders c.args.cells.now c.loop-cell.unseen c.loop-cell.order.items (rw none at c.loop-cell.invariant)
    c.requires.connected c.requires.some c.requires.rows

pub returns-clause-same : goal.returns-clause-same
returns-clause-same c =
    let none = nothing_waits (goal.at.returns-clause-same c).In_default in
    walk_permutes c.args.cells.now c.loop-cell.unseen c.loop-cell.order.items (rw none at c.loop-cell.invariant)
    c.requires.connected c.requires.some c.requires.rows
