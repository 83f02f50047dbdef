use Rattle.std.proofs.Common.{All, subst, sym}
use Rattle.std.proofs.lemmas.List.Elements.{All-head, All-tail}
use Rattle.path_board.specs.SharedBoards.{board_id}
use Rattle.path_board.specs.Passes.{IsPassOf}
use Rattle.board_cases.proofs.shared.members_of.Goals as goal

pub loop-pass-init : goal.loop-pass-init
loop-pass-init c =
    subst (All (λ pass. IsPassOf (board_id c.args.board.now) pass)) (sym c.into_iter-pass-iterator.ensures.into_iter_gives.0) c.requires

pub invariant_of-push : goal.invariant_of-push
invariant_of-push c =
    let left = subst (All (λ pass. IsPassOf (board_id c.args.board.now) pass)) c.in-Some.ensures.steps.0 c.loop-pass.invariant in
    record { of = All-head (λ pass. IsPassOf (board_id c.args.board.now) pass) c.in-Some.pass c.next.new.self.rest.items left }

pub loop-pass-preserved : goal.loop-pass-preserved
loop-pass-preserved c =
    let left = subst (All (λ pass. IsPassOf (board_id c.args.board.now) pass)) c.in-Some.ensures.steps.0 c.loop-pass.invariant in
    All-tail (λ pass. IsPassOf (board_id c.args.board.now) pass) c.in-Some.pass c.next.new.self.rest.items left
