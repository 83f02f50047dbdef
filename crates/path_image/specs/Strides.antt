-- Walks over an image that their callers follow move by move.
use Rattle.std.specs.Prelude.{◌≡◌, ℕ, List}
use Rattle.moves.specs.declared.Cell.{Cell}
use Rattle.moves.specs.Moves.{IsTarget}
use Rattle.path_image.specs.declared.reading.Home.{Home}
use Rattle.path_image.specs.declared.walking.Walk.{Walk}
use Rattle.path_image.specs.declared.walking.Step.{Step}
use Rattle.path_image.specs.declared.walking.Step.TheVariants.{Arrived, Go, Lost}
use Rattle.versions.specs.Databases.{Versioned}
use Rattle.path_image.specs.Images.{IsImageOf}
use Rattle.path_image.specs.Answers.{IsHomeOf}
use Rattle.path_image.specs.Reading.{LeadsInside}
use Rattle.path_image.specs.Walks.{BeginsWalk, IsUnderWay}

-- a walk as its callers see it: the words of an image, and where it stands over them
pub record Walking : Type 0 where
  pub words : List ℕ
  pub walk : Walk

-- the walk stands inside an image of which each number leads inside
pub record IsOver (words : List ℕ) (walk : Walk) : Type 0 where
  pub inside : LeadsInside words
  pub under_way : IsUnderWay words walk

-- the move of a step leads from where the walk stood to where it stands, and its goal stays
abbrev pub GoesTo : Walk → Walk → Step → Type 0
GoesTo old new Arrived = Unit {0}
GoesTo old new (Go by) = IsTarget old.at by new.at × (new.goal ≡ old.goal)
GoesTo old new Lost = Unit {0}

-- over a version, a walk between two cells that stand in these places of one component is that of the version
abbrev pub BeginsBetween : List ℕ → Cell → Home → ℕ → Walk → Type 0
BeginsBetween words start from place walk =
    (version : Versioned) (goal : Cell) → IsImageOf words version → IsHomeOf version start from.label from.place
    → IsHomeOf version goal from.label place → BeginsWalk words version start goal walk
