use Rattle.std.proofs.Common.{◌∙◌, length, min, ap, arith}
use Rattle.pathdb.proofs.Rooms.{text_put}
use Rattle.pathdb.proofs.texts.put_text.Goals as goal

pub returns : goal.returns
returns c =
    let last = c.in-Some.ensures in
    text_put c.args.text.now c.args.room.now c.copy_from_slice.new.self c.min-count.result (omega (arith, last.0))
    (c.min-count.ensures ∙ ap (min (length c.args.text.now)) last.1) c.copy_from_slice.ensures.after
