use Rattle.std.proofs.Common.{inr, refl}
use Rattle.path_commands.specs.declared.status.Status.TheVariants as status
use Rattle.path_commands.proofs.output.refuse.Goals as goal

pub returns-in-Err-clause-cut : goal.returns-in-Err-clause-cut
returns-in-Err-clause-cut g c = λ cut. (status.NoMemory, inr refl, c.put-in-Err.ensures.cut cut)
