use Rattle.std.proofs.Common.{[], ◌∷◌, refl, arith}
use Rattle.path_core.proofs.Passing.{begins_itself}
use Rattle.follow_proto.specs.Examples.{first_blocked}
use Rattle.follow_proto.specs.Feeds.Message.{Ahead, Edits}
use Rattle.feed_node.specs.Examples.{one_accepted}
use Rattle.feed_node.proofs.laws.feeds_are_these.Goals as goal

pub returns-clause-behind : goal.returns-clause-behind
returns-clause-behind c = record {
  tolds = record { known = 0; message = Edits 0 (first_blocked ∷ []) } ∷ [];
  answers = (
    one_accepted,
    record {
      low = omega arith;
      point = one_accepted;
      goes = record { rest = one_accepted; is = refl };
      on = begins_itself one_accepted;
      says = (omega arith, refl, refl);
    },
    begins_itself one_accepted,
  );
  asked_is = refl;
  sent_is = refl;
}

pub returns-clause-ahead : goal.returns-clause-ahead
returns-clause-ahead c = record {
  tolds = record { known = 2; message = Ahead 1 } ∷ [];
  answers = (
    one_accepted,
    record {
      low = omega arith;
      point = one_accepted;
      goes = record { rest = one_accepted; is = refl };
      on = begins_itself one_accepted;
      says = (refl, omega arith);
    },
    begins_itself one_accepted,
  );
  asked_is = refl;
  sent_is = refl;
}
