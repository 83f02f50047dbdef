-- What a database tells of a path on a live map, by look-ups alone.
use Rattle.std.specs.Prelude.{◌≡◌, ℕ, ◌<◌, ◌≤◌, ◌++◌, false, IsTrue, List, ◌∷◌, codes, length, map}
use Rattle.std.specs.Fmt.{decimal}
use Rattle.moves.specs.declared.Cell.{Cell}
use Rattle.moves.specs.declared.Move.{Move}
use Rattle.moves.specs.Maps.{place_of}
use Rattle.moves.specs.Moves.{HasLegal, corner, is_diagonal, number_of}
use Rattle.moves.specs.Paths.{IsBest, Leads, Reaches}
use Rattle.versions.specs.declared.query.End.{End}
use Rattle.versions.specs.declared.query.QueryRefusal.{QueryRefusal}
use Rattle.versions.specs.Databases.{Versioned}
use Rattle.versions.specs.Queries.{AreEnds, IsEndRefusal, IsRefusal, refusal_text}
use Rattle.versions.specs.Answers.{IsWalk}
use Rattle.path_image.specs.declared.walking.WalkFault.{WalkFault}
use Rattle.path_image.specs.Answers.{overwritten}
use Rattle.path_image.specs.Images.{IsImageOf}
use Rattle.path_image.specs.Reading.{LeadsInside, height_in, width_in}
use Rattle.live_maps.specs.declared.answers.LivePath.{LivePath}
use Rattle.live_maps.specs.declared.answers.LivePath.TheVariants.{Free, Stale, Unreachable}
use Rattle.live_maps.specs.declared.answers.LiveNext.{LiveNext}
use Rattle.live_maps.specs.declared.answers.LiveFault.{LiveFault}
use Rattle.live_maps.specs.declared.answers.LiveFault.TheVariants.{Refused, TooSmall, Broken}
use Rattle.live_maps.specs.Live.{bit_words, is_marked, live_map}

-- ---- a live map over an image

-- a live map as its callers see it: the words of an image, and a bit for each cell of its map
pub record Living : Type 0 where
  pub words : List ℕ
  pub bits : List ℕ

-- there is a bit for each cell of the image's map, and no word more
abbrev pub HasBitsIn : List ℕ → List ℕ → Type 0
HasBitsIn words bits = length bits ≡ bit_words (width_in words) (height_in words)

-- each number in the words leads inside, and there is a bit for each cell
pub record IsLiving (words bits : List ℕ) : Type 0 where
  pub inside : LeadsInside words
  pub whole : HasBitsIn words bits

-- no bit is set where a move leads nor, for a diagonal one, at the two cells beside it
pub record IsClear (bits : List ℕ) (width : ℕ) (from : Cell) (move : Move) (to : Cell) : Type 0 where
  pub enters : is_marked bits (place_of width to) ≡ false
  pub corners : IsTrue (is_diagonal move)
      → (is_marked bits (place_of width (corner from to)) ≡ false) × (is_marked bits (place_of width (corner to from)) ≡ false)

-- ---- answers

-- The walk of the version is a path of the live map, so a best one. Its moves stand in the room by their numbers, as far as
-- it reaches, and there are so many.
pub record WritesFree (version : Versioned) (bits : List ℕ) (start goal : Cell) (old new : List ℕ) (count : ℕ) : Type 0 where
  pub moves : List Move
  pub walk : IsWalk version.map version.comps start goal moves
  pub best : IsBest (live_map version.map bits) start moves goal
  pub long : count ≡ length moves
  pub room : new ≡ overwritten old (map number_of moves)

-- The first moves of the walk of the version are a path of the live map, and the next one is not legal there. They stand in
-- the room by their numbers, as far as it reaches, and there are so many.
pub record WritesFront (version : Versioned) (bits : List ℕ) (start goal : Cell) (old new : List ℕ) (count : ℕ) : Type 0 where
  pub front : List Move
  pub next : Move
  pub rest : List Move
  pub walk : IsWalk version.map version.comps start goal (front ++ next ∷ rest)
  pub at : Cell
  pub leads : Leads (live_map version.map bits) start front at
  pub closed : HasLegal (live_map version.map bits) at next → ⊥
  pub long : count ≡ length front
  pub room : new ≡ overwritten old (map number_of front)

-- no path leads from the one cell to the other, neither on the baked map nor on the live one
pub record IsApart (version : Versioned) (bits : List ℕ) (start goal : Cell) : Type 0 where
  pub baked : Reaches version.map start goal → ⊥
  pub live : Reaches (live_map version.map bits) start goal → ⊥

-- what is told of two cells that are passable now
abbrev pub IsLivePathOf : Versioned → List ℕ → Cell → Cell → List ℕ → List ℕ → LivePath → Type 0
IsLivePathOf version bits start goal old new (Free count) = WritesFree version bits start goal old new count × (count ≤ length old)
IsLivePathOf version bits start goal old new (Stale count) = WritesFront version bits start goal old new count
IsLivePathOf version bits start goal old new Unreachable = IsApart version bits start goal × (new ≡ old)

-- why nothing whole is told: the live map refuses the ends, or the walk is free and the room has too few places for it
abbrev pub IsLiveFaultOf : Versioned → List ℕ → Cell → Cell → List ℕ → List ℕ → LiveFault → Type 0
IsLiveFaultOf version bits start goal old new (Refused why) = IsRefusal (live_map version.map bits) start goal why × (new ≡ old)
IsLiveFaultOf version bits start goal old new (TooSmall needed) = WritesFree version bits start goal old new needed × (length old < needed)
IsLiveFaultOf version bits start goal old new Broken = ⊥

-- why nothing is told of where a path goes on: the live map refuses the ends
abbrev pub IsLiveWalkFaultOf : Versioned → List ℕ → Cell → Cell → WalkFault → Type 0
IsLiveWalkFaultOf version bits at goal (WalkFault.Refused why) = IsRefusal (live_map version.map bits) at goal why
IsLiveWalkFaultOf version bits at goal WalkFault.Broken = ⊥

-- how a path goes on: it has arrived, no path exists, the first move of the walk is legal on the live map, or it is not
abbrev pub IsLiveNextOf : Versioned → List ℕ → Cell → Cell → LiveNext → Type 0
IsLiveNextOf version bits at goal LiveNext.Arrived = at ≡ goal
IsLiveNextOf version bits at goal LiveNext.Unreachable = IsApart version bits at goal
IsLiveNextOf version bits at goal (LiveNext.Go move) =
    (rest : List Move) × IsWalk version.map version.comps at goal (move ∷ rest) × HasLegal (live_map version.map bits) at move
IsLiveNextOf version bits at goal (LiveNext.Stale move) =
    (rest : List Move) × IsWalk version.map version.comps at goal (move ∷ rest) × (HasLegal (live_map version.map bits) at move → ⊥)

-- why no path is told, in words
abbrev pub live_fault_text : LiveFault → List ℕ
live_fault_text (Refused why) = refusal_text why
live_fault_text (TooSmall needed) = codes "room for too few moves of " ++ decimal needed
live_fault_text Broken = codes "broken image"

-- ---- the same of each version whose image the words are

abbrev pub AreLiveEndsIn : Living → Cell → Cell → Type 0
AreLiveEndsIn live start goal = (version : Versioned) → IsImageOf live.words version → AreEnds (live_map version.map live.bits) start goal

abbrev pub IsLiveEndRefusalIn : Living → Cell → End → QueryRefusal → Type 0
IsLiveEndRefusalIn live cell which why =
    (version : Versioned) → IsImageOf live.words version → IsEndRefusal (live_map version.map live.bits) cell which why

abbrev pub IsLiveRefusalIn : Living → Cell → Cell → QueryRefusal → Type 0
IsLiveRefusalIn live start goal why =
    (version : Versioned) → IsImageOf live.words version → IsRefusal (live_map version.map live.bits) start goal why

abbrev pub IsLivePathIn : Living → Cell → Cell → List ℕ → List ℕ → LivePath → Type 0
IsLivePathIn live start goal old new told =
    (version : Versioned) → IsImageOf live.words version → IsLivePathOf version live.bits start goal old new told

abbrev pub IsLiveFaultIn : Living → Cell → Cell → List ℕ → List ℕ → LiveFault → Type 0
IsLiveFaultIn live start goal old new fault =
    (version : Versioned) → IsImageOf live.words version → IsLiveFaultOf version live.bits start goal old new fault

abbrev pub IsLiveWalkFaultIn : Living → Cell → Cell → WalkFault → Type 0
IsLiveWalkFaultIn live at goal fault =
    (version : Versioned) → IsImageOf live.words version → IsLiveWalkFaultOf version live.bits at goal fault

abbrev pub IsLiveNextIn : Living → Cell → Cell → LiveNext → Type 0
IsLiveNextIn live at goal next = (version : Versioned) → IsImageOf live.words version → IsLiveNextOf version live.bits at goal next
