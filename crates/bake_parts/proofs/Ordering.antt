-- The components of a map with their cells in an order, and those of its first version.
use Rattle.std.proofs.Common.{◌≡◌, ℕ, ◌+◌, ◌<◌, ◌≤◌, List, [], ◌∷◌, ◌++◌, length, map, get_or, take, Option, Some, None, IfSome, IfNone, sym, ap, subst, ◌∙◌, arith}
use Rattle.std.specs.List.Sorted.{IsPermutation}
use Rattle.std.proofs.lemmas.List.{length-map, get_or-map, map_more}
use Rattle.std.proofs.lemmas.List.Sorted.{length_permutation}
use Rattle.moves.specs.declared.Cell.{Cell}
use Rattle.moves.specs.Maps.{Map}
use Rattle.moves.specs.Components.{IsComponentList}
use Rattle.cell_order.specs.declared.OrderKind.{OrderKind}
use Rattle.cell_order.specs.Orders.{ordered}
use Rattle.cell_order.proofs.Permuted.{orders_are_permutations}
use Rattle.build_pool.specs.Places.{CanBeBuilt}
use Rattle.versions.specs.Databases.{Versioned, component_at}
use Rattle.versions.proofs.Determined.{same_components}
use Rattle.version_build.proofs.Counted.{can_be_built}
use Rattle.bake_parts.specs.Parts.{IsFirstVersion}
use Rattle.bake_parts.specs.Plans.{AreOrdered, IsComponentOf, IsNoComponentOf, CountsComponents}

module _ (on : Map) (order : OrderKind) (all : List (List Cell)) (p : AreOrdered on order all) where
  all_size : length all ≡ length p.components
  all_size = ap length p.are ∙ length-map p.components (ordered order)

  -- a version has the same components
  components_are : (version : Versioned) (first : IsFirstVersion on order version) → first.is.database.components ≡ p.components
  components_are version first =
      same_components on first.is.database.components p.components (subst (λ m. IsComponentList m first.is.database.components) first.of first.is.database.listed) p.listed

  pub comps_size : (version : Versioned) → IsFirstVersion on order version → length version.comps ≡ length all
  comps_size version first = first.is.database.whole ∙ ap length (components_are version first) ∙ sym all_size

  pub counted : CountsComponents (record { on = on; order = order }) (length all)
  counted version first = sym (comps_size version first)

  pub no_component : (number : ℕ) → length all ≤ number → IsNoComponentOf (record { on = on; order = order }) number
  no_component number past version first = (let size = comps_size version first in omega arith)

  -- the cells of the component with a number
  pub component_is : (number : ℕ) (d : List Cell) → number < length all → IsComponentOf (record { on = on; order = order }) number (get_or all number d)
  component_is number d within =
      let size = all_size in
      let here : number < length p.components = omega arith in
      let component : List Cell = component_at p.components number in
      let can : CanBeBuilt component = can_be_built on p.limits p.whole p.components p.listed number here p.searchable in
      let is : get_or all number d ≡ ordered order component = ap (λ xs. get_or xs number d) p.are ∙ get_or-map (ordered order) p.components number [] d here in
      let same : IsPermutation (ordered order component) component = orders_are_permutations order component can.some can.in_order can.connected in
      let long = length_permutation (ordered order component) component same in
      let few = can.few in
      rw is (record {
        searchable = p.searchable;
        component = record { component = component; is = p.listed.each number [] here; order = same };
        few = omega arith;
        kept = λ version first.
            (let comps = comps_size version first in
            let there : number < length version.comps = omega arith in
            record {
              within = there;
              are =
                  (first.is.database.each number there).cells
                  ∙ ap (λ k. ordered k (component_at first.is.database.components number)) first.in_order
                  ∙ ap (λ cs. ordered order (component_at cs number)) (components_are version first);
            });
      })

-- one component more, with its cells in the order
pub ordered_more : (order : OrderKind) (components all : List (List Cell)) (upto : ℕ) (cells : List Cell) → upto < length components → cells ≡ ordered order (component_at components upto)
    → all ≡ map (ordered order) (take upto components) → all ++ cells ∷ [] ≡ map (ordered order) (take (upto + 1) components)
ordered_more order components all upto cells within is p =
    ap (λ xs. xs ++ cells ∷ []) p ∙ ap (λ cs. map (ordered order) (take upto components) ++ cs ∷ []) is ∙ sym (map_more (ordered order) components upto [] within)

-- what holds of an optional value holds further
pub if_some_then : {X : Type 0} (found : Option X) (A B : X → Type 0) → ((x : X) → A x → B x) → IfSome found A → IfSome found B
if_some_then None A B then p = tt
if_some_then (Some x) A B then p = then x p

pub if_none_then : {X : Type 0} (found : Option X) (A B : Type 0) → (A → B) → IfNone found A → IfNone found B
if_none_then None A B then p = then p
if_none_then (Some x) A B then p = tt
