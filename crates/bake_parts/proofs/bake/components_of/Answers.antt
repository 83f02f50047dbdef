use Rattle.version_build.proofs.Counted.{can_be_built}
use Rattle.bake_parts.proofs.bake.components_of.Goals as goal

pub ordered_all-requires : goal.ordered_all-requires
ordered_all-requires c = λ number within. can_be_built _ c.requires.limits c.requires.whole _ c.in_ok-labels.ensures number within c.requires.searchable

pub returns : goal.returns
returns c = record {
  limits = c.requires.limits;
  whole = c.requires.whole;
  searchable = c.requires.searchable;
  components = c.in_ok-labels.labels;
  listed = c.in_ok-labels.ensures;
  are = c.in_ok-components.ensures;
}
