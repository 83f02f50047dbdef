use Rattle.std.proofs.Common.{rules, ◌^◌, ◌<◌}
use Rattle.std.proofs.lemmas.Option.{IfSome_then}
use Rattle.run_pack.proofs.SetLemmas.{AreShared-both}
use Rattle.run_pack.proofs.Stretch.extended_by.Goals as goal

pub returns-clause-common : goal.returns-clause-common
returns-clause-common c =
    let byte : c.args.self.common < 2 ^ 8 = search rules in
    IfSome_then c.extended.result c.extended.ensures.common
    (λ longer both. AreShared-both _ _ _ _ byte both c.common_of.ensures)
