-- What a search answers, over each version whose image the words are.
use Rattle.std.specs.Prelude.{◌≡◌, ℕ, ◌+◌, ◌*◌, ◌<◌, ◌≤◌, ◌++◌, Bool, true, List, codes, length, map, take, Result, Ok, Err}
use Rattle.std.specs.Fmt.{decimal}
use Rattle.moves.specs.declared.Cell.{Cell}
use Rattle.moves.specs.declared.Move.{Move}
use Rattle.moves.specs.Moves.{number_of}
use Rattle.moves.specs.Paths.{IsBest, Reaches}
use Rattle.versions.specs.Databases.{Versioned, comp_at}
use Rattle.versions.specs.Queries.{IsRefusal, refusal_text}
use Rattle.path_image.specs.Answers.{IsHomeOf, overwritten}
use Rattle.path_image.specs.Images.{IsImageOf}
use Rattle.live_maps.specs.Live.{live_map}
use Rattle.live_maps.specs.Told.{Living}
use Rattle.live_search.specs.declared.searching.LiveSearch.{LiveSearch}
use Rattle.live_search.specs.declared.searching.LiveSearch.TheVariants.{Found, Unreachable, More}
use Rattle.live_search.specs.declared.searching.SearchFault.{SearchFault}
use Rattle.live_search.specs.declared.searching.SearchFault.TheVariants.{Refused, TooSmall, FewWords, Broken}
use Rattle.live_search.specs.declared.seeking.Seek.{Seek}
use Rattle.live_search.specs.Sound.{IsAbout, IsBegun, IsSought, IsSound}

-- a best path of the live map stands in the room by its numbers, as far as that reaches, and has so many moves
pub record WritesBest (version : Versioned) (bits : List ℕ) (start goal : Cell) (old new : List ℕ) (count : ℕ) : Type 0 where
  pub moves : List Move
  pub best : IsBest (live_map version.map bits) start moves goal
  pub long : count ≡ length moves
  pub room : new ≡ overwritten old (map number_of moves)

-- why there is no answer, in words
abbrev pub search_fault_text : SearchFault → List ℕ
search_fault_text (Refused why) = refusal_text why
search_fault_text (TooSmall needed) = codes "room for too few moves of " ++ decimal needed
search_fault_text FewWords = codes "too few words for a search"
search_fault_text Broken = codes "broken image"

-- what a search found
abbrev pub IsSearchedOf : Versioned → List ℕ → Cell → Cell → List ℕ → List ℕ → LiveSearch → Type 0
IsSearchedOf version bits start goal old new (Found count) = WritesBest version bits start goal old new count × (count ≤ length old)
IsSearchedOf version bits start goal old new Unreachable = (Reaches (live_map version.map bits) start goal → ⊥) × (new ≡ old)
IsSearchedOf version bits start goal old new More = new ≡ old

abbrev pub IsSearchedIn : Living → Cell → Cell → List ℕ → List ℕ → LiveSearch → Type 0
IsSearchedIn live start goal old new found =
    (version : Versioned) → IsImageOf live.words version → IsSearchedOf version live.bits start goal old new found

-- the component of a cell has more cells than the scratch has words for
pub record HasFewWords (version : Versioned) (start : Cell) (words : ℕ) : Type 0 where
  pub label : ℕ
  pub place : ℕ
  pub home : IsHomeOf version start label place
  pub few : words < 8 * length (comp_at version.comps label).cells + 1

-- why a search has no answer: the live map refuses the ends, there is a best path and the room has too few places for it, or
-- the scratch has too few words
abbrev pub IsSearchFaultOf : Versioned → List ℕ → Cell → Cell → List ℕ → List ℕ → List ℕ → SearchFault → Type 0
IsSearchFaultOf version bits start goal scratch old new (Refused why) = IsRefusal (live_map version.map bits) start goal why × (new ≡ old)
IsSearchFaultOf version bits start goal scratch old new (TooSmall needed) =
    WritesBest version bits start goal old new needed × (length old < needed)
IsSearchFaultOf version bits start goal scratch old new FewWords = HasFewWords version start (length scratch) × (new ≡ old)
IsSearchFaultOf version bits start goal scratch old new Broken = ⊥

abbrev pub IsSearchFaultIn : Living → Cell → Cell → List ℕ → List ℕ → List ℕ → SearchFault → Type 0
IsSearchFaultIn live start goal scratch old new fault =
    (version : Versioned) → IsImageOf live.words version → IsSearchFaultOf version live.bits start goal scratch old new fault

-- the scratch has a search of these two cells that waits
abbrev pub IsWaiting : Living → Cell → Cell → List ℕ → Type 0
IsWaiting live start goal scratch =
    (version : Versioned) (seek : Seek) → IsSought live seek → IsAbout version live seek start goal
    → IsSound version live seek start goal (take (8 * seek.size + 1) scratch) × IsBegun seek (take (8 * seek.size + 1) scratch)

-- ---- inside a search

-- it has begun, or the words are no version's image
pub record Begins (live : Living) (seek : Seek) (start goal : Cell) (state : List ℕ) (done : Bool) : Type 0 where
  pub over : (version : Versioned) → IsAbout version live seek start goal
      → (done ≡ true) × IsSound version live seek start goal state × IsBegun seek state

-- what is answered by a search that is sound
abbrev pub IsAnswerFor : Versioned → Living → Seek → Cell → Cell → List ℕ → List ℕ → List ℕ → Result LiveSearch SearchFault → Type 0
IsAnswerFor version live seek start goal state old new (Ok More) = IsSound version live seek start goal state × IsBegun seek state × (new ≡ old)
IsAnswerFor version live seek start goal state old new (Ok found) = IsSearchedOf version live.bits start goal old new found
IsAnswerFor version live seek start goal state old new (Err (TooSmall needed)) =
    WritesBest version live.bits start goal old new needed × (length old < needed)
IsAnswerFor version live seek start goal state old new (Err fault) = ⊥

pub record IsAnswered (live : Living) (seek : Seek) (before after : List ℕ) (old new : List ℕ) (result : Result LiveSearch SearchFault) : Type 0 where
  pub over : (version : Versioned) (start goal : Cell) → IsAbout version live seek start goal → IsSound version live seek start goal before
      → IsBegun seek before → IsAnswerFor version live seek start goal after old new result

pub record IsToldBy (live : Living) (seek : Seek) (state : List ℕ) (old new : List ℕ) (result : Result LiveSearch SearchFault) : Type 0 where
  pub over : (version : Versioned) (start goal : Cell) → IsAbout version live seek start goal → IsSound version live seek start goal state
      → IsBegun seek state → IsAnswerFor version live seek start goal state old new result
