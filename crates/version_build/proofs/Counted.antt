-- The cells of each component of a map have what it takes to build their rows.
use Rattle.std.proofs.Common.{◌≡◌, ℕ, ◌*◌, ◌<◌, List, [], length, arith}
use Rattle.moves.specs.declared.Cell.{Cell}
use Rattle.moves.specs.Maps.{Map, IsWithinLimits, IsSearchable}
use Rattle.moves.specs.Components.{IsComponentList}
use Rattle.moves.proofs.ComponentLaws.{components_are_connected}
use Rattle.build_pool.specs.Places.{CanBeBuilt}
use Rattle.build_pool.proofs.Connecting.{lies_on_map}
use Rattle.versions.specs.Databases.{component_at}
use Rattle.versions.proofs.Counting.{length_within}

module _ (m : Map) (limits : IsWithinLimits m.width m.height) (whole : length m.terrain ≡ m.width * m.height) (components : List (List Cell)) (listed : IsComponentList m components)
    (label : ℕ) (less : label < length components) where
  pub can_be_built : IsSearchable m → CanBeBuilt (component_at components label)
  can_be_built searchable =
      let component = listed.each label [] less in
      record {
        some = component.some;
        few = omega (arith, length_within m limits whole components listed label less, searchable);
        in_order = component.in_order;
        connected = components_are_connected m (component_at components label) component;
        on_map = lies_on_map m (component_at components label) limits component;
      }
