use Rattle.std.proofs.Common.{◌+◌, ◌-◌, ◌≤◌, ◌∙◌, ap, drop, length, subst, sym, take, arith}
use Rattle.std.proofs.lemmas.List.{length-take}
use Rattle.session.proofs.Cutting.{moved_front}
use Rattle.session.proofs.frames.Held.pass.Goals as goal

pub returns : goal.returns
returns c =
    let room = c.self.inside.room in
    let have = c.self.inside.have in
    let few = subst (λ held. 2 + c.args.size ≤ length held) (sym c.self.view_is) c.requires.whole in
    let long = c.self.told in
    let inside = c.self.invariant in
    ap (take (have - (2 + c.args.size))) c.copy_within.ensures.after
    ∙ moved_front room have (2 + c.args.size) (omega (arith, length-take have room, few)) (omega (arith, long, inside))
    ∙ ap (drop (2 + c.args.size)) c.self.view_is
