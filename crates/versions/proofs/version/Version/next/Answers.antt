use Rattle.std.proofs.Common.{rules, ◌≢◌, subst}
use Rattle.versions.specs.Databases.{IsDatabase}
use Rattle.versions.proofs.Homes.{goes_on}
use Rattle.versions.proofs.version.Version.next.Goals as goal

pub returns-in-Some-clause-next : goal.returns-in-Some-clause-next
returns-in-Some-clause-next g c =
    let database = subst (λ v. IsDatabase v.map v.order v.comps) c.self.view_is c.self.invariant.database in
    let apart : c.args.at ≢ c.args.goal = search rules in
    goes_on _ _ _ database c.args.at c.args.goal _ _ apart c.in-Some.ensures.some c.move_in.ensures.kept
