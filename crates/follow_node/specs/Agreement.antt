-- A follower beside the history that it follows.
use Rattle.std.specs.Prelude.{◌≡◌, ℕ, ◌≤◌, Some, None, IfSome, All, List, take}
use Rattle.moves.specs.Maps.{Map}
use Rattle.cell_order.specs.declared.OrderKind.{OrderKind}
use Rattle.versions.specs.Databases.{Versioned}
use Rattle.path_core.specs.declared.entry.Entry.{Entry}
use Rattle.path_core.specs.Histories.{accepted_count, edits_of, published_prefix, IsLegal, IsVersionAt}
use Rattle.follow_proto.specs.Feeds.{IsSent, IsStartMap}
use Rattle.feed_node.specs.Feeds.{BeginsFollowing}
use Rattle.follow_node.specs.declared.faults.FollowFault.TheVariants as fault
use Rattle.follow_node.specs.Following.{Followed}
use Rattle.follow_node.specs.Streams.{Following, new_following, StopsShort, Took}

-- the history of a leader's board, which begins with that map: each of its edits has 1 to 64 changes
pub record IsLeading (start : Map) (history : List Entry) : Type 0 where
  pub map : IsStartMap start
  pub legal : IsLegal start history
  pub edits : All IsSent (edits_of history)

-- The board of a follower agrees with a history: it began with the same map, its history is legal, its accepted edits are
-- the first of that history's, and so each of its versions is the version of that history after as many edits.
pub record Agrees (start : Map) (order : OrderKind) (history : List Entry) (board : Followed) : Type 0 where
  pub start_is : board.start ≡ start
  pub order_is : board.order ≡ order
  pub legal : IsLegal start board.history
  pub fewer : accepted_count board.history ≤ accepted_count history
  pub first : edits_of board.history ≡ take (accepted_count board.history) (edits_of history)
  pub versions : (prefix : ℕ) (version : Versioned) → prefix ≤ accepted_count board.history
      → IsVersionAt start order board.history prefix version → IsVersionAt start order history prefix version

-- and a version after all of its accepted edits is published, or none was accepted
pub record AgreesWhole (start : Map) (order : OrderKind) (history : List Entry) (board : Followed) : Type 0 where
  pub agrees : Agrees start order history board
  pub published : published_prefix board.history ≡ accepted_count board.history

-- A FOLLOWER AGREES WITH ITS LEADER. Whatever front of a following feed of a leader's history it took, it follows on, and
-- its board, once there is one, agrees with that history.
abbrev pub FollowersAgree : Type 0
FollowersAgree = (order : OrderKind) (start : Map) (history : List Entry) (bytes : List ℕ) (after : Following)
    → IsLeading start history → BeginsFollowing start history bytes → Took (new_following order) bytes after
    → (after.fault ≡ None) × IfSome after.board (AgreesWhole start order history)

-- so it does where its memory ran out at one of the bytes
abbrev pub FollowersAgreeShort : Type 0
FollowersAgreeShort = (order : OrderKind) (start : Map) (history : List Entry) (bytes : List ℕ) (after : Following)
    → IsLeading start history → BeginsFollowing start history bytes → StopsShort (new_following order) bytes after
    → (after.fault ≡ Some fault.NoMemory) × IfSome after.board (Agrees start order history)
