use Rattle.std.proofs.Common.{◌≡◌, length, subst, sym, take, ◌≤◌, arith}
use Rattle.byteorder.specs.Endian.{big_bytes}
use Rattle.session.proofs.Cutting.{size_held}
use Rattle.std.proofs.lemmas.List.{length-take}
use Rattle.session.proofs.frames.Held.size.Goals as goal

pub returns : goal.returns
returns c =
    subst (λ held. take 2 held ≡ big_bytes 2 c.short_in.result) c.self.view_is
    (size_held c.self.inside.room c.self.inside.have c.short_in.result
    (let few = subst (λ held. 2 ≤ length held) (sym c.self.view_is) c.requires in omega (arith, length-take c.self.inside.have c.self.inside.room, few)) c.short_in.ensures)
