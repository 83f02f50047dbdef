-- What a component that got its label lists.
use Rattle.std.proofs.Common.{◌≡◌, ℕ, ◌+◌, ◌<◌, Bool, eqb, true, List, ◌∙◌, arith, OnOk, Result, Ok, Err}
use Rattle.std.specs.List.{Contains, filter}
use Rattle.std.proofs.lemmas.Bool.{eqb-true, eq-eqb}
use Rattle.std.proofs.lemmas.List.Elements.{All-contains, All-filter, filter_passes}
use Rattle.std.proofs.lemmas.List.Kept.{AllPairs-filter}
use Rattle.components.specs.declared.TheConstants.{UNLABELLED}
use Rattle.moves.specs.declared.Cell.{Cell}
use Rattle.moves.specs.Maps.{Map, IsWithinLimits, IsInside, IsPassable, place_of}
use Rattle.moves.specs.Paths.{Reaches}
use Rattle.moves.specs.Components.{IsComponent}
use Rattle.moves.proofs.StraightPaths.{kept_along}
use Rattle.moves.proofs.RowMajor.{contains_filtered}
use Rattle.components.specs.Marks.{Marks, label_at}
use Rattle.components.specs.Floods.{IsFresh, IsSpread, IsFlooded}
use Rattle.components.specs.Groups.{cells_with}
use Rattle.components.specs.Edits.{Plan, IsLoose, IsPlan}
use Rattle.components.proofs.Spreading.{reached}
use Rattle.components.proofs.SameLists.{listed, places_rise}

-- three facts of an `Ok` give a fourth
pub on_ok : {A E : Type 0} (r : Result A E) (P Q R S : Type 0) → OnOk r P → OnOk r Q → OnOk r R → (P → Q → R → S) → OnOk r S
on_ok (Ok x) P Q R S p q r f = f p q r
on_ok (Err e) P Q R S p q r f = p

module _ (map : Map) (limits : IsWithinLimits map.width map.height) (label : ℕ) (low : label < UNLABELLED) (root : Cell) (old : Marks)
    (fresh : IsFresh map old root) (flooded : IsFlooded map label old)
    (s : Marks) (spread : IsSpread map label root old s) (after : IsFlooded map (label + 1) s) where
  has_if_reached : (c : Cell) → Reaches map root c → label_at map.width s c ≡ label
  has_if_reached c reach =
      kept_along map (λ d. label_at map.width s d ≡ label) (λ a by b straight legal has. after.closed a by b straight legal (omega arith) ∙ has) root reach.0 c reach.1 spread.begun

  reached_if_has : (c : Cell) → IsInside map c → label_at map.width s c ≡ label → Reaches map root c
  reached_if_has c inside has = reached map label low root fresh.passable old flooded fresh.unlabelled s spread c inside has

  -- the cells of a component that was taken over
  pub taken_over : (component : List Cell) → IsComponent map component → Contains component root → component ≡ cells_with map.width s.labels label
  taken_over component is has =
      let inside = λ (c : Cell) (h : Contains component c). (All-contains (IsPassable map) component c is.passable h).inside in
      listed map limits s spread.balanced.places label component
      (places_rise map.width component (λ c h. (inside c h).column) is.in_order)
      (λ c h. (inside c h, has_if_reached c ((is.whole root c has).0 h)))
      (λ c within same. (is.whole root c has).1 (reached_if_has c within same))

  abbrev has_it : Cell → Bool
  has_it c = eqb (label_at map.width s c) label

  -- the seeds that a flood reached
  pub flooded_again : (plan : Plan) → IsPlan map plan → Contains plan.seeds root → IsLoose plan root
      → filter (λ c. eqb (label_at map.width s c) label) plan.seeds ≡ cells_with map.width s.labels label
  flooded_again plan is seed loose =
      listed map limits s spread.balanced.places label (filter has_it plan.seeds)
      (AllPairs-filter (λ a b. place_of map.width a < place_of map.width b) has_it plan.seeds is.in_order)
      (λ c h. (
        All-contains (IsInside map) (filter has_it plan.seeds) c (All-filter has_it (IsInside map) plan.seeds is.inside) h,
        eqb-true (label_at map.width s c) label
            (All-contains (λ d. has_it d ≡ true) (filter has_it plan.seeds) c (filter_passes has_it plan.seeds) h),
      ))
      (λ c within same.
      let has = is.whole root c seed loose (reached_if_has c within same) in
      contains_filtered has_it plan.seeds c has.0 has.1 has.2 (eq-eqb (label_at map.width s c) label same))
