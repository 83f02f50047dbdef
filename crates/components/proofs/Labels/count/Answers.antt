use Rattle.std.proofs.Common.{arith}
use Rattle.components.proofs.Lookups.{how_many}
use Rattle.components.proofs.Labels.count.Goals as goal

pub returns : goal.returns
returns c = omega (arith, c.len.ensures, c.self.inside.starts.ok.0, how_many _ _ _ _ _ c.self.invariant _ c.self.view_is)
