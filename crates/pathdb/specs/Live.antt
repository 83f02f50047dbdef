-- What the calls on a live map tell: of each status, what holds of the map as it is now and of what was written.
use Rattle.std.specs.Prelude.{◌≡◌, ℕ, List, MatchOption}
use Rattle.moves.specs.declared.Cell.{Cell}
use Rattle.moves.specs.declared.Move.{Move}
use Rattle.moves.specs.Moves.{number_of}
use Rattle.versions.specs.declared.query.QueryRefusal.{QueryRefusal}
use Rattle.path_image.specs.declared.walking.WalkFault.{WalkFault}
use Rattle.live_maps.specs.declared.answers.LivePath.{LivePath}
use Rattle.live_maps.specs.declared.answers.LiveNext.{LiveNext}
use Rattle.live_maps.specs.declared.answers.LiveFault.{LiveFault}
use Rattle.live_maps.specs.Told.{Living, AreLiveEndsIn, HasBitsIn, IsLiveFaultIn, IsLiveNextIn, IsLivePathIn, IsLiveWalkFaultIn}
use Rattle.live_search.specs.declared.searching.LiveSearch.{LiveSearch}
use Rattle.live_search.specs.declared.searching.SearchFault.{SearchFault}
use Rattle.live_search.specs.Answers.{IsSearchedIn, IsSearchFaultIn, IsWaiting}
use Rattle.pathdb.specs.declared.live.PathdbSearch.{PathdbSearch}
use Rattle.pathdb.specs.declared.status.Status.{Status}
use Rattle.pathdb.specs.declared.status.Status.TheVariants.{Done, Arrived, Unreachable, TooSmall, Broken, Stale, More, WrongBits, FewWords}
use Rattle.pathdb.specs.Calls.{cell_of}
use Rattle.pathdb.specs.Statuses.{refusal_of}

-- the live map of the words of an image and of bits
abbrev pub living : List ℕ → List ℕ → Living
living words bits = record { words = words; bits = bits }

-- the two ends of a search
abbrev pub start_of : PathdbSearch → Cell
start_of search = cell_of search.start

abbrev pub goal_of : PathdbSearch → Cell
goal_of search = cell_of search.goal

-- there is not a bit for each cell, or there are words more
abbrev pub HasWrongBits : Living → Type 0
HasWrongBits live = HasBitsIn live.words live.bits → ⊥

-- the path that the image tells goes on by the move with that number; whether that is free now is told too
pub record GoesOnBy (live : Living) (at goal : Cell) (next : Move → LiveNext) (number : ℕ) : Type 0 where
  pub move : Move
  pub is : number ≡ number_of move
  pub ends : AreLiveEndsIn live at goal
  pub goes : IsLiveNextIn live at goal (next move)

-- where the path of two ends goes on that are passable now
abbrev pub SaysLiveOnward : Living → Cell → Cell → ℕ → ℕ → Status → Type 0
SaysLiveOnward live at goal old new Done = GoesOnBy live at goal LiveNext.Go new
SaysLiveOnward live at goal old new Stale = GoesOnBy live at goal LiveNext.Stale new
SaysLiveOnward live at goal old new Arrived = AreLiveEndsIn live at goal × IsLiveNextIn live at goal LiveNext.Arrived × (new ≡ old)
SaysLiveOnward live at goal old new Unreachable = AreLiveEndsIn live at goal × IsLiveNextIn live at goal LiveNext.Unreachable × (new ≡ old)
SaysLiveOnward live at goal old new Broken = IsLiveWalkFaultIn live at goal WalkFault.Broken × (new ≡ old)
SaysLiveOnward live at goal old new WrongBits = HasWrongBits live × (new ≡ old)
SaysLiveOnward live at goal old new _ = ⊥

-- of where a path goes on now: so, or the ends are refused, and then no move is written
abbrev pub SaysLiveNext : Living → Cell → Cell → ℕ → ℕ → Status → Type 0
SaysLiveNext live at goal old new status =
    MatchOption (refusal_of status) (SaysLiveOnward live at goal old new status)
    (λ why. IsLiveWalkFaultIn live at goal (WalkFault.Refused why) × (new ≡ old))

-- what is written of the path that the image tells of two ends that are passable now
abbrev pub SaysLiveMoves : Living → Cell → Cell → List ℕ → List ℕ → ℕ → Status → Type 0
SaysLiveMoves live start goal old new count Done =
    AreLiveEndsIn live start goal × IsLivePathIn live start goal old new (LivePath.Free count)
SaysLiveMoves live start goal old new count Stale =
    AreLiveEndsIn live start goal × IsLivePathIn live start goal old new (LivePath.Stale count)
SaysLiveMoves live start goal old new count Unreachable =
    AreLiveEndsIn live start goal × IsLivePathIn live start goal old new LivePath.Unreachable × (count ≡ 0)
SaysLiveMoves live start goal old new count TooSmall = IsLiveFaultIn live start goal old new (LiveFault.TooSmall count)
SaysLiveMoves live start goal old new count Broken = IsLiveFaultIn live start goal old new LiveFault.Broken × (count ≡ 0)
SaysLiveMoves live start goal old new count WrongBits = HasWrongBits live × (new ≡ old) × (count ≡ 0)
SaysLiveMoves live start goal old new count _ = ⊥

-- why no move is written
abbrev pub IsLiveRefused : Living → Cell → Cell → List ℕ → List ℕ → ℕ → QueryRefusal → Type 0
IsLiveRefused live start goal old new count why = IsLiveFaultIn live start goal old new (LiveFault.Refused why) × (count ≡ 0)

-- of the moves of a path now: they are written, as far as they are free, or the ends are refused
abbrev pub SaysLivePath : Living → Cell → Cell → List ℕ → List ℕ → ℕ → Status → Type 0
SaysLivePath live start goal old new count status =
    MatchOption (refusal_of status) (SaysLiveMoves live start goal old new count status) (IsLiveRefused live start goal old new count)

-- what a search writes of two ends that are passable now, and leaves in its scratch
abbrev pub SaysFound : Living → PathdbSearch → List ℕ → List ℕ → List ℕ → List ℕ → ℕ → Status → Type 0
SaysFound live search before after old new count Done =
    AreLiveEndsIn live (start_of search) (goal_of search) × IsSearchedIn live (start_of search) (goal_of search) old new (LiveSearch.Found count)
SaysFound live search before after old new count Unreachable =
    AreLiveEndsIn live (start_of search) (goal_of search) × IsSearchedIn live (start_of search) (goal_of search) old new LiveSearch.Unreachable
    × (count ≡ 0)
SaysFound live search before after old new count More =
    AreLiveEndsIn live (start_of search) (goal_of search) × IsSearchedIn live (start_of search) (goal_of search) old new LiveSearch.More
    × IsWaiting live (start_of search) (goal_of search) after × (count ≡ 0)
SaysFound live search before after old new count TooSmall =
    IsSearchFaultIn live (start_of search) (goal_of search) before old new (SearchFault.TooSmall count)
SaysFound live search before after old new count FewWords =
    IsSearchFaultIn live (start_of search) (goal_of search) before old new SearchFault.FewWords × (count ≡ 0)
SaysFound live search before after old new count Broken =
    IsSearchFaultIn live (start_of search) (goal_of search) before old new SearchFault.Broken × (count ≡ 0)
SaysFound live search before after old new count WrongBits = HasWrongBits live × (new ≡ old) × (count ≡ 0)
SaysFound live search before after old new count _ = ⊥

-- why a search writes no move
abbrev pub IsSearchRefused : Living → PathdbSearch → List ℕ → List ℕ → List ℕ → ℕ → QueryRefusal → Type 0
IsSearchRefused live search before old new count why =
    IsSearchFaultIn live (start_of search) (goal_of search) before old new (SearchFault.Refused why) × (count ≡ 0)

-- of a search: the moves of a best path now are written, or the ends are refused
abbrev pub SaysSearched : Living → PathdbSearch → List ℕ → List ℕ → List ℕ → List ℕ → ℕ → Status → Type 0
SaysSearched live search before after old new count status =
    MatchOption (refusal_of status) (SaysFound live search before after old new count status) (IsSearchRefused live search before old new count)
