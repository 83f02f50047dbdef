use Rattle.kept_rows.specs.Surveys.{HasSameLists, IsSurveyOf}
use Rattle.kept_rows.proofs.survey.go_on.Given as goal

abbrev pub invariant-loop-turn : goal.invariant-loop-turn
invariant-loop-turn l = record {
  still : HasSameLists l.fn.pair l.pair;
  surveyed : IsSurveyOf l.pair l.survey;
}
