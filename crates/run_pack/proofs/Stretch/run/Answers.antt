use Rattle.std.proofs.Common.{◌^◌, ◌<◌, rules}
use Rattle.run_pack.proofs.SetLemmas.{IsLeastIn-trailing_zeros}
use Rattle.run_pack.proofs.Stretch.run.Goals as goal

pub returns-clause-least : goal.returns-clause-least
returns-clause-least c =
    let byte : c.args.self.common < 2 ^ 8 = search rules in
    IsLeastIn-trailing_zeros _ c.requires byte
