use Rattle.std.proofs.Common.{subst}
use Rattle.versions.specs.Databases.{IsVersion}
use Rattle.path_board.proofs.Keeping.{holds_accepted, holds_version}
use Rattle.path_board.proofs.pass.Pass.held.Goals as goal

pub returns-clause-version : goal.returns-clause-version
returns-clause-version c = holds_version c.args.self.now (subst IsVersion c.deref.ensures c.grid.ensures.version)

pub returns-clause-accepted : goal.returns-clause-accepted
returns-clause-accepted c = holds_accepted c.args.self.now
