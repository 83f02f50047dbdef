use Rattle.std.proofs.Common.{refl, sym, subst, ◌+◌, ◌++◌}
use Rattle.byteorder.specs.Endian.{big_bytes}
use Rattle.query_proto.proofs.Fronts.{behind}
use Rattle.query_proto.specs.Frames.{StandsAtFront, request_bytes}
use Rattle.query_proto.proofs.requests.encode_request.Goals as goal

pub returns : goal.returns
returns c =
    let size = c.put_request-size.result in
    let frame = request_bytes c.args.request.now in
    let put = c.put_request-size.ensures.frame in
    subst (λ n. StandsAtFront (big_bytes 2 n ++ frame) c.args.room.now c.write_u16.new.buf (size + 2)) put.0
    (behind 2 322 (big_bytes 2 size) frame c.args.room.now c.put_request-size.new.out c.as_mut_slice.result.now c.write_u16.new.buf size
    (sym c.told-room) refl put c.as_mut_slice.ensures.value c.write_u16.ensures)
