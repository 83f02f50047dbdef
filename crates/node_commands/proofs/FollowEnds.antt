-- Why `follow` ends as it does.
use Rattle.std.proofs.Common.{◌≡◌, ◌≢◌, ◌⊎◌, inl, inr, ℕ, Err, IsErrOf, List, Option, refl, sym, subst, ◌∙◌}
use Rattle.wire.specs.Causes.{Rose}
use Rattle.path_core.specs.Boards.{Boarded}
use Rattle.follow_node.specs.declared.faults.FollowFault.TheVariants as fault
use Rattle.follow_node.specs.declared.links.LinkFault.{LinkFault}
use Rattle.follow_node.specs.declared.links.LinkFault.TheVariants as link
use Rattle.path_commands.specs.declared.status.Status.{Status}
use Rattle.path_commands.specs.declared.status.Status.TheVariants as status
use Rattle.path_commands.specs.Asks.{RunHouse}
use Rattle.path_commands.specs.Serving.{FailsToBegin, PutsCause}
use Rattle.path_commands.specs.Talks.{HoldsSession, IsUnheard, RunInput}
use Rattle.path_commands.specs.declared.request.FollowAsked.{FollowAsked}
use Rattle.node_commands.specs.Followings.{EndsByLink, EndsOn, ReadFails, WriteFails, Follows, FollowsBoard, HasHouseCause}
use Rattle.node_commands.specs.Followings.{IsBadFeed, IsFollowCause, IsLeaderMemory, TellsCause, status_followed}

-- ---- faults of a link

-- a fault of the link has its cause in the count of its direction
pub house_cause : {D C : Type 0} (house : RunHouse D C) (why : LinkFault)
    → (IsErrOf {T = Unit {0}} (Err why) link.ReadFault → Rose house.before.read_faults house.after.read_faults)
    → (IsErrOf {T = Unit {0}} (Err why) link.WriteFault → Rose house.before.write_faults house.after.write_faults) → HasHouseCause house why
house_cause house (link.Follow why) read write = tt
house_cause house (link.Closed have) read write = tt
house_cause house link.ReadFault read write = read refl
house_cause house link.WriteFault read write = write refl

bad_feed : (why : LinkFault) → status_followed why ≡ status.BadAnswer → IsBadFeed why
bad_feed (link.Follow (fault.Bad at)) is = tt
bad_feed (link.Follow (fault.Ahead accepted)) is = tt
bad_feed (link.Follow fault.LeaderMemory) is = cc
bad_feed (link.Follow fault.NoMemory) is = cc
bad_feed (link.Closed have) is = tt
bad_feed link.ReadFault is = cc
bad_feed link.WriteFault is = cc

of_memory : (why : LinkFault) → status_followed why ≡ status.LeaderMemory → IsLeaderMemory why
of_memory (link.Follow (fault.Bad at)) is = cc
of_memory (link.Follow (fault.Ahead accepted)) is = cc
of_memory (link.Follow fault.LeaderMemory) is = refl
of_memory (link.Follow fault.NoMemory) is = cc
of_memory (link.Closed have) is = cc
of_memory link.ReadFault is = cc
of_memory link.WriteFault is = cc

module _ {D C : Type 0} (house : RunHouse D C) where
  of_read : (why : LinkFault) → HasHouseCause house why → status_followed why ≡ status.ReadFault → Rose house.before.read_faults house.after.read_faults
  of_read (link.Follow (fault.Bad at)) rose is = cc
  of_read (link.Follow (fault.Ahead accepted)) rose is = cc
  of_read (link.Follow fault.LeaderMemory) rose is = cc
  of_read (link.Follow fault.NoMemory) rose is = cc
  of_read (link.Closed have) rose is = cc
  of_read link.ReadFault rose is = rose
  of_read link.WriteFault rose is = cc

  of_write : (why : LinkFault) → HasHouseCause house why → status_followed why ≡ status.WriteFault → Rose house.before.write_faults house.after.write_faults
  of_write (link.Follow (fault.Bad at)) rose is = cc
  of_write (link.Follow (fault.Ahead accepted)) rose is = cc
  of_write (link.Follow fault.LeaderMemory) rose is = cc
  of_write (link.Follow fault.NoMemory) rose is = cc
  of_write (link.Closed have) rose is = cc
  of_write link.ReadFault rose is = cc
  of_write link.WriteFault rose is = rose

module _ {D C : Type 0} (house : RunHouse D C) (asked : FollowAsked) where
  -- why a read or a write of the link failed
  cause_read : (cause : Status) → IsFollowCause house asked cause → cause ≡ status.ReadFault → Rose house.before.read_faults house.after.read_faults
  cause_read cause (inl nobody) is = nobody.rose
  cause_read cause (inr lost) is = of_read house lost.why lost.rose (sym lost.is ∙ is)

  cause_write : (cause : Status) → IsFollowCause house asked cause → cause ≡ status.WriteFault → Rose house.before.write_faults house.after.write_faults
  cause_write cause (inl nobody) is = (let never : status.ReadFault ≡ status.WriteFault = sym nobody.is ∙ is in cc)
  cause_write cause (inr lost) is = of_write house lost.why lost.rose (sym lost.is ∙ is)

  -- why a run without a board failed to write
  pub none_writes : (input : RunInput) (cause : Status) (outs_before outs_after : ℕ) → IsFollowCause house asked cause
      → ((cause ≡ status.WriteFault) ⊎ Rose outs_before outs_after) → WriteFails outs_before outs_after house input
  none_writes input cause outs_before outs_after is (inl same) = inr (inl (cause_write cause is same))
  none_writes input cause outs_before outs_after is (inr out) = inl out

-- ---- what was put

-- behind a status that is neither of want of memory nor of a failed write the cause itself was told
told_cause : (before after : Option (List ℕ)) (cause ended : Status) → TellsCause before after cause ended → ended ≢ status.WriteFault
    → ended ≢ status.NoMemory → cause ≡ ended
told_cause before after cause ended (inl silent) no_write no_memory = absurd (no_write silent.is)
told_cause before after cause ended (inr tells) no_write no_memory = of_line tells.put
  where
    of_line : PutsCause before after cause ended → cause ≡ ended
    of_line (inl (inl whole)) = sym whole.is
    of_line (inl (inr part)) = absurd (no_write part.is)
    of_line (inr (inl whole)) = absurd (no_memory whole.is)
    of_line (inr (inr part)) = absurd (no_write part.is)

-- a line that was not put ends so
not_begun : (before after : Option (List ℕ)) (text : List ℕ) (ended : Status) → FailsToBegin before after text ended
    → (ended ≡ status.WriteFault) ⊎ (ended ≡ status.NoMemory)
not_begun before after text ended (inl part) = inl part.is
not_begun before after text ended (inr (inl whole)) = inr whole.is
not_begun before after text ended (inr (inr part)) = inl part.is

module _ {D C : Type 0} (house : RunHouse D C) (asked : FollowAsked) (input : RunInput) (before after : Option (List ℕ)) where
  -- a session never ends with a status of the link
  no_session : (board : Boarded) (ended : Status) → EndsOn board input before after ended → (HoldsSession board input ended → ⊥)
      → ended ≢ status.WriteFault → ended ≢ status.NoMemory → ⊥
  no_session board ended (inl holds) none no_write no_memory = none holds.session
  no_session board ended (inr fails) none no_write no_memory = elim (not_begun before after _ ended fails.put) [
    | inl write ↦ no_write write
    | inr memory ↦ no_memory memory
  ]

  by_link : (such : LinkFault → Type 0) (wanted : Status) → ((board : Boarded) → HoldsSession board input wanted → ⊥) → wanted ≢ status.WriteFault
      → wanted ≢ status.NoMemory → wanted ≢ status.ReadFault → ((why : LinkFault) → status_followed why ≡ wanted → such why)
      → Follows house asked input before after wanted → EndsByLink house asked input such
  by_link such wanted none no_write no_memory no_read by (inl one) =
      absurd (no_session one.board wanted one.ends (none one.board) no_write no_memory)
  by_link such wanted none no_write no_memory no_read by (inr lacks) =
      elim lacks.is [
        | inl nobody ↦ absurd (no_read (sym same ∙ nobody.is))
        | inr lost ↦ record {
          why = lost.why;
          is = by lost.why (sym lost.is ∙ same);
          follower = lost.follower;
          calls = lost.calls;
          unheard = lacks.unheard;
        }
      ]
    where
      same : lacks.cause ≡ wanted
      same = told_cause before after lacks.cause wanted lacks.put no_write no_memory

  module _ (ended : Status) (ends : Follows house asked input before after ended) where
    pub by_bad_feed : ended ≡ status.BadAnswer → EndsByLink house asked input IsBadFeed
    by_bad_feed is = by_link IsBadFeed status.BadAnswer (λ board session. session) (λ e. cc) (λ e. cc) (λ e. cc) bad_feed
        (subst (Follows house asked input before after) is ends)

    pub by_leader_memory : ended ≡ status.LeaderMemory → EndsByLink house asked input IsLeaderMemory
    by_leader_memory is = by_link IsLeaderMemory status.LeaderMemory (λ board session. session) (λ e. cc) (λ e. cc) (λ e. cc) of_memory
        (subst (Follows house asked input before after) is ends)

  read_failed : Follows house asked input before after status.ReadFault → ReadFails house input
  read_failed (inl one) = of_board one.board one.ends
    where
      of_board : (board : Boarded) → EndsOn board input before after status.ReadFault → ReadFails house input
      of_board board (inl holds) = inr holds.session.0
      of_board board (inr fails) = elim (not_begun before after _ status.ReadFault fails.put) [
        | inl write ↦ cc
        | inr memory ↦ cc
      ]
  read_failed (inr lacks) =
      inl (cause_read house asked lacks.cause lacks.is (told_cause before after lacks.cause status.ReadFault lacks.put (λ e. cc) (λ e. cc)))

  pub by_read : (ended : Status) → Follows house asked input before after ended → ended ≡ status.ReadFault → ReadFails house input
  by_read ended ends is = read_failed (subst (Follows house asked input before after) is ends)

-- ---- how it ends, by its parts

module _ {D C : Type 0} (house : RunHouse D C) (asked : FollowAsked) (input : RunInput) (before after : Option (List ℕ)) (ended : Status) where
  pub one_followed : (board : Boarded) → FollowsBoard house asked board → EndsOn board input before after ended
      → Follows house asked input before after ended
  one_followed board followed ends = inl (record { board = board; followed = followed; ends = ends })

  pub none_followed : (cause : Status) → IsFollowCause house asked cause → IsUnheard input → TellsCause before after cause ended
      → Follows house asked input before after ended
  none_followed cause is unheard put = inr (record { cause = cause; is = is; unheard = unheard; put = put })
