use Rattle.std.proofs.Common.{inl, inr, refl, []}
use Rattle.query_proto.specs.declared.requests.Request.TheVariants as request
use Rattle.session.proofs.Protocols.{ends_behind_asked}
use Rattle.session.proofs.sessions.answer_frame.Goals as goal

pub returns-in-Ok-clause-answers : goal.returns-in-Ok-clause-answers
returns-in-Ok-clause-answers g c =
    let t = c.tell-reply.ensures.tells in
    record {
      moves = t.moves;
      bytes_are = t.bytes_are;
      serves = inl (record { asked = c.in-Ok.request; spells = c.in-Ok.ensures.request; serves = t.serves });
      ends = ends_behind_asked c.args.proto c.in-Ok.request (record { frame = c.args.frame.now; told = c.tell-reply.result; moves = t.moves })
          c.end_of.result c.in-Ok.ensures.request c.end_of.ensures;
    }

pub returns-in-Err-clause-answers : goal.returns-in-Err-clause-answers
returns-in-Err-clause-answers g c =
    let none = c.in-Err.ensures.malformed.none in
    record {
      moves = [];
      bytes_are = c.requires.none;
      serves = inr (record { what = c.in-Err.what; none = c.in-Err.ensures.malformed; told_is = refl; moves_are = refl; same = refl });
      ends = record { no_bye = λ bye. none request.Bye (tt, bye); no_stop = λ stop. none request.Stop (tt, stop.0) };
    }
