use Rattle.kept_rows.specs.Surveys.{HasSameLists, IsSurveyOf}
use Rattle.kept_rows.proofs.survey.ask_cuts.Given as goal

abbrev pub invariant-loop : goal.invariant-loop
invariant-loop l = record {
  still : HasSameLists l.fn.pair l.pair;
  surveyed : IsSurveyOf l.pair l.survey;
}
