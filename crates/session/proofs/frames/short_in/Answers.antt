use Rattle.std.proofs.Common.{◌≡◌, sym, subst, take}
use Rattle.byteorder.specs.Endian.{big_bytes}
use Rattle.query_proto.proofs.Numbers.{reads_back}
use Rattle.session.proofs.frames.short_in.Goals as goal

pub returns : goal.returns
returns c =
    subst (λ v. take 2 c.args.bytes.now ≡ big_bytes 2 v) (sym c.read_u16.ensures)
    (sym (reads_back 2 c.args.bytes.now (λ k. (c.type_inv.bytes k).fits) c.requires))
