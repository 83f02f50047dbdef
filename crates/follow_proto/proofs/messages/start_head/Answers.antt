use Rattle.std.proofs.Common.{[], ◌∷◌, ◌++◌, ◌+◌, ◌*◌, refl, replicate, arith}
use Rattle.byteorder.specs.Endian.{big_bytes}
use Rattle.follow_proto.specs.declared.kinds.TheConstants.{START}
use Rattle.follow_proto.proofs.Wholes.{all_of, head_of, start_whole}
use Rattle.follow_proto.proofs.messages.start_head.Goals as goal

pub returns : goal.returns
returns c = λ m width height cells.
    let w = c.args.width in
    let h = c.args.height in
    let size = big_bytes 4 (9 + w * h) in
    start_whole m w h _
    (all_of (head_of (9 + w * h) START w h) (replicate 13 0) _ _ (omega arith)
    (c.put_number.ensures.grows ((size ++ START ∷ []) ++ big_bytes 4 w) (replicate 13 0)
    (c.put_number-second.ensures.grows (size ++ START ∷ []) (replicate 13 0)
    (c.put_byte-sides.ensures.grows size (replicate 13 0) (c.put_number-kind.ensures.grows [] (replicate 13 0) (refl, refl))))))
    width height cells
