-- A follower that was fed over a link has a board.
use Rattle.std.proofs.Common.{◌≡◌, inl, inr, ℕ, None, Ok, Option, Some, IsSome, List, [], ◌∷◌, drop, refl, sym, subst, ◌∙◌}
use Rattle.cell_order.specs.declared.OrderKind.{OrderKind}
use Rattle.follow_proto.specs.Feeds.{Message}
use Rattle.follow_proto.specs.Feeds.Message.{Start, Edits, Ahead, NoMemory}
use Rattle.follow_node.specs.declared.faults.FollowFault.{FollowFault}
use Rattle.follow_node.specs.declared.faults.FollowFault.TheVariants as fault
use Rattle.follow_node.specs.Following.{Followed, IsNext, Judges, board_after, fault_after}
use Rattle.follow_node.specs.Links.{HasFollowed, Heeds, Rounds}
use Rattle.follow_node.specs.Streams.{Following, new_following}
use Rattle.follow_node.proofs.WholeMessages.{whole_judged}
use Rattle.path_commands.specs.Asks.{RunHouse}
use Rattle.path_commands.specs.declared.request.FollowAsked.{FollowAsked}
use Rattle.node_commands.specs.Followings.{CallsLeader}

-- there is a board behind each message that may come next and says no fault
some_after : (order : OrderKind) (before : Option Followed) (message : Message) → IsNext before message → fault_after message ≡ None
    → IsSome (board_after order before message)
some_after order None (Start map) next none = refl
some_after order None (Edits known edits) next none = absurd next
some_after order None (Ahead accepted) next none = absurd next
some_after order None NoMemory next none = absurd next
some_after order (Some board) (Start map) next none = absurd next
some_after order (Some board) (Edits known edits) next none = refl
some_after order (Some board) (Ahead accepted) next none = cc
some_after order (Some board) NoMemory next none = cc

judged_some : (order : OrderKind) (before after : Option Followed) (frame : List ℕ) (at : ℕ) (why : Option FollowFault)
    → Judges order before frame at why after → why ≡ None → IsSome after
judged_some order before after frame at why (inl hears) none =
    subst IsSome (sym hears.board) (some_after order before hears.message hears.continues.next (sym hears.fault_is ∙ none))
judged_some order before after frame at why (inr refuses) none =
    let never : Some (fault.Bad at) ≡ None = sym refuses.fault_is ∙ none in cc

-- there is one behind each whole message, and nothing is held of a next one
record HasBoard (at : Following) : Type 0 where
  board : IsSome at.board
  even : at.held ≡ []
  unfaulted : at.fault ≡ None

heeds_some : (at after : Following) (message : List ℕ) → at.held ≡ [] → at.fault ≡ None → Heeds at message after → HasBoard after
heeds_some at after message even unfaulted heeds =
    let ends = whole_judged at after message even unfaulted heeds.one heeds.took in
    record {
      board = judged_some at.order at.board after.board (drop 4 message) at.at after.fault ends.judged heeds.unfaulted;
      even = ends.held_is;
      unfaulted = heeds.unfaulted;
    }

rounds_some : (before after : Following) (messages : List (List ℕ)) (sent : List ℕ) → HasBoard before → Rounds before messages sent after
    → IsSome after.board
rounds_some before after [] sent has (none, same) = subst (λ (f : Following). IsSome f.board) (sym same) has.board
rounds_some before after (message ∷ messages) sent has (rest, mid, e, heeds, goes) =
    rounds_some mid after messages rest (heeds_some before mid message has.even has.unfaulted heeds) goes

pub followed_some : (rounds : ℕ) (order : OrderKind) (after : Following) (taken sent : List ℕ)
    → HasFollowed rounds (new_following order) taken sent after → IsSome after.board
followed_some rounds order after taken sent has =
    rounds_some has.began after has.messages sent (heeds_some (new_following order) has.began has.start refl refl has.begins) has.goes_on

-- a new follower that was fed over a link has one
pub called_some : {D C : Type 0} (house : RunHouse D C) (asked : FollowAsked) (after : Following) → CallsLeader house asked (Ok tt) after
    → IsSome after.board
called_some house asked after calls =
    let follows = calls.talked in followed_some asked.rounds asked.order after follows.taken follows.sent follows.ends
