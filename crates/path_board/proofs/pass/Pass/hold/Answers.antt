use Rattle.std.proofs.Common.{refl, subst}
use Rattle.std.specs.Arc.{arc_value}
use Rattle.path_board.specs.Passes.{Hands}
use Rattle.path_board.proofs.Keeping.{hold_copy, hold_older, hold_same}
use Rattle.path_board.proofs.pass.Pass.hold.Goals as goal

pub invariant_of-self-clause-holds : goal.invariant_of-self-clause-holds
invariant_of-self-clause-holds c = hold_same c.args.self.now c.args.count (subst (Hands c.args.self.now c.args.count) c.in-Held.is c.requires)

pub invariant_of-self-in-Copy-clause-holds : goal.invariant_of-self-in-Copy-clause-holds
invariant_of-self-in-Copy-clause-holds c = let h = subst (Hands c.args.self.now c.args.count) c.in-Copy.is c.requires in
    hold_copy c.args.self.now c.args.count h.board (arc_value c.in-Copy.version) h.at h.copied_is h.count_is

pub returns-in-Refused-clause-older : goal.returns-in-Refused-clause-older
returns-in-Refused-clause-older c = λ _. record {
  kept = record { held = refl; count = refl };
  older = hold_older c.args.self.now c.args.count (subst (Hands c.args.self.now c.args.count) c.in-Refused.is c.requires);
}
