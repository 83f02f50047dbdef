-- A pair of tiles, and what a survey by it tells, as they are passed on.
use Rattle.std.specs.Prelude.{◌≡◌}
use Rattle.kept_rows.specs.declared.pair.Pair.{Pair}
use Rattle.kept_rows.specs.declared.survey.Survey.{Survey}
use Rattle.kept_rows.specs.Pairs.{CanBePair}
use Rattle.kept_rows.specs.Verdicts.{AreSurveyed}

-- both lists of the pair can be searched
abbrev pub CanSearch : Pair → Type 0
CanSearch pair = CanBePair pair.whole pair.part pair.gaps.now

-- the pair is over the same lists as before, and can be searched again
pub record HasSameLists (before after : Pair) : Type 0 where
  pub can : CanSearch after
  pub gaps : after.gaps.now ≡ before.gaps.now
  pub whole : after.whole.cells ≡ before.whole.cells
  pub part : after.part.cells ≡ before.part.cells

-- what was found is so over the lists of the pair
abbrev pub IsSurveyOf : Pair → Survey → Type 0
IsSurveyOf pair survey =
    AreSurveyed pair.whole.cells pair.part.cells pair.gaps.now survey.sources survey.sets.items survey.ball.items survey.verdicts.items
