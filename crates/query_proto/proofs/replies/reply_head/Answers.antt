use Rattle.std.proofs.Common.{refl, sym, subst, ap₂, ◌+◌, ◌++◌}
use Rattle.byteorder.specs.Endian.{big_bytes}
use Rattle.query_proto.proofs.Fronts.{behind}
use Rattle.query_proto.specs.Frames.{StandsAtFront, head_bytes}
use Rattle.query_proto.proofs.replies.reply_head.Goals as goal

pub returns : goal.returns
returns c =
    let size = c.put_reply-size.result in
    let head = head_bytes c.args.reply.now in
    subst (λ n. StandsAtFront (big_bytes 4 n ++ head) c.args.room.now c.write_u32.new.buf (size + 4))
    (ap₂ (λ a b. a + b) c.put_reply-size.ensures.head.0 c.moves_behind.ensures)
    (behind 4 60 (big_bytes 4 (size + c.moves_behind.result)) head c.args.room.now c.put_reply-size.new.out c.as_mut_slice.result.now c.write_u32.new.buf size
    (sym c.told-room) refl c.put_reply-size.ensures.head c.as_mut_slice.ensures.value c.write_u32.ensures)
