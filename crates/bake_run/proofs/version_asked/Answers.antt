use Rattle.std.proofs.Common.{◌≡◌, ap, sym, ◌∙◌}
use Rattle.clap.proofs.TakesLemmas.{passed_up}
use Rattle.path_commands.specs.Requests.{request_of}
use Rattle.path_commands.specs.Runs.{run_over}
use Rattle.path_commands.specs.Words.{texts_of}
use Rattle.bake_run.specs.Baking.{IsCause, export_words}
use Rattle.bake_run.proofs.BakeLemmas.{asks_for_export, map_fails}
use Rattle.bake_run.proofs.version_asked.Goals as goal

pub read_words-requires : goal.read_words-requires
read_words-requires g c = asks_for_export (texts_of c.as_slice.result.now) (texts_of c.args.words.now) (ap texts_of c.as_slice.ensures.value ∙ c.in_ok-export.ensures)

pub returns-in_err-grid-clause-refused : goal.returns-in_err-grid-clause-refused
returns-in_err-grid-clause-refused g c =
    let run = run_over c.args.words.now (g.F.Files.at c.args.files.now) (g.F.Files.at c.read_grid.new.files) in
    let same : texts_of c.as_slice.result.now ≡ export_words (texts_of c.args.words.now) = ap texts_of c.as_slice.ensures.value ∙ c.in_ok-export.ensures in
    passed_up c.from_residual-in_err-grid.result c.in_err-grid.field-0.0 (IsCause run) c.from_residual-in_err-grid.ensures.1
    (map_fails run c.in_err-grid.field-0.0 (record {
      name = c.in_ok-asked.asked.map.now;
      build = c.in_ok-asked.asked.build;
      asks = ap request_of (sym same) ∙ c.in_ok-asked.ensures.asked;
      fails = c.in_err-grid.ensures.refused;
    }))
