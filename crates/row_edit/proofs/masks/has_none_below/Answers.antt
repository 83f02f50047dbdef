use Rattle.std.proofs.Common.{rules, ◌<◌, ◌^◌, ◌≡◌}
use Rattle.std.proofs.lemmas.Bool.{leb-true}
use Rattle.row_edit.proofs.Bits.{HasNoneBelow-zeros}
use Rattle.row_edit.proofs.masks.has_none_below.Goals as goal

pub returns : goal.returns
returns c low =
    let byte : c.args.set < 2 ^ 8 = search rules in
    let same : c.from.result ≡ c.args.mv = search rules in
    HasNoneBelow-zeros c.args.set c.args.mv byte (rw same at (leb-true _ _ low))
