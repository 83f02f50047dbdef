use Rattle.bake_parts.proofs.Heading.{few_all}
use Rattle.bake_parts.proofs.bake.Bake.new.Goals as goal

pub homes_of-requires-clause-many : goal.homes_of-requires-clause-many
homes_of-requires-clause-many c = rw c.as_slice.ensures.value (few_all _ _ _ c.in_ok-components.ensures)
