use Rattle.std.proofs.Common.{◌∙◌}
use Rattle.rayon.proofs.ListFacts.{IfOk-then}
use Rattle.rayon.proofs.ToStd.{slice-AllZip}
use Rattle.scen_run.specs.Results.{IsLineResult}
use Rattle.scen_run.proofs.Answering.{results_short}
use Rattle.scen_run.proofs.results.run_lines.Goals as goal

pub returns-clause-results : goal.returns-clause-results
returns-clause-results g c =
    IfOk-then c.collect.result _ _ c.collect.ensures (λ v h.
    let chain = rw (c.map.ensures.base, c.map.ensures.f) at h.1 in
    rw h.2 (slice-AllZip chain.0 c.args.lines.now (chain.1 ∙ c.par_iter.ensures) (IsLineResult c.args.version.now) h.0 chain.2))

pub returns-clause-short : goal.returns-clause-short
returns-clause-short g c =
    IfOk-then c.collect.result _ _ (returns-clause-results g c) (λ v are. results_short c.args.version.now c.grid.ensures.version c.args.lines.now v.items are)
