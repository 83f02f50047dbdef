use Rattle.std.proofs.Common.{◌≢◌, subst, rules}
use Rattle.versions.specs.Databases.{comp_at}
use Rattle.near_rows.specs.NearPaths.{IsNearMove}
use Rattle.near_rows.proofs.NearWalking.{goes_on}
use Rattle.near_rows.proofs.near_version.NearVersion.next.Goals as goal

pub returns-in-Some-clause-next : goal.returns-in-Some-clause-next
returns-in-Some-clause-next g c =
    let apart : c.args.at ≢ c.args.goal = search rules in
    let among = subst (λ comp. IsNearMove comp.cells c.nearby.result.now c.args.at c.args.goal c.near_move.result) c.comp.ensures c.near_move.ensures.is in
    let kept = subst (λ nearby. IsNearMove (comp_at c.args.self.now.version.comps c.in-Some.label).cells nearby c.args.at c.args.goal c.near_move.result) c.nearby.ensures among in
    goes_on _ c.version.ensures.near c.args.at c.args.goal _ _ apart c.in-Some.ensures.some kept
