use Rattle.version_build.proofs.Counted.{can_be_built}
use Rattle.bake_words.proofs.alone.first_version.Goals as goal

pub comps_of-requires : goal.comps_of-requires
comps_of-requires c = λ label less. can_be_built _ c.width.ensures.limits c.width.ensures.whole _ c.in_ok-labels.ensures label less c.requires
