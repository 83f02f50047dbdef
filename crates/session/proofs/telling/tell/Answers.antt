use Rattle.std.proofs.Common.{map, sym, ap, ◌∙◌}
use Rattle.moves.specs.Moves.{number_of}
use Rattle.session.proofs.Replying.{served_alone}
use Rattle.session.proofs.telling.tell.Goals as goal

pub returns-in_default-clause-tells : goal.returns-in_default-clause-tells
returns-in_default-clause-tells g c =
    let a = c.answer-answered.ensures.answers in
    record {
      moves = a.moves;
      bytes_are = c.requires.none ∙ sym (ap (map number_of) (served_alone _ c.args.request _ _ a.moves _ c.in_default.not-Query a.serves.served));
      serves = a.serves;
    }
