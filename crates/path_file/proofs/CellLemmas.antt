-- The cells of a component: how many they are, and in which order they stand.
use Rattle.std.proofs.Common.{◌≡◌, ◌≢◌, ℕ, ◌*◌, ◌<◌, ◌≤◌, Bool, cond, List, [], ◌∷◌, length, get_or, All, refl, sym, ap, subst, arith}
use Rattle.std.specs.Bool.{Decides}
use Rattle.std.specs.Cmp.{IsEquivalence}
use Rattle.std.specs.List.{AllPairs, Contains}
use Rattle.std.specs.List.Sorted.{IsPermutation}
use Rattle.std.proofs.lemmas.Bool.Decides.{same_from_decides}
use Rattle.std.proofs.lemmas.List.Sorted.{All-permutation, Contains-permutation, IsPermutation-sym, length_permutation}
use Rattle.std.proofs.lemmas.Map.Keys.{IsDistinct-IsPermutation}
use Rattle.std.proofs.lemmas.Map.Made.{AllPairs-from_IsDistinct, IsDistinct-from_AllPairs, length-le_from_is_member}
use Rattle.moves.specs.declared.Cell.{Cell}
use Rattle.moves.specs.declared.Move.{Move}
use Rattle.moves.specs.declared.TheConstants.{MAX_PASSABLE}
use Rattle.moves.specs.Maps.{Map, IsPassable, IsWithinLimits, is_cell, is_passable, passable_cells, passable_count}
use Rattle.moves.specs.Components.{IsComponent, IsComponentList}
use Rattle.moves.specs.Rectangles.{IsOnMap}
use Rattle.moves.specs.StraightPaths.{GoesThrough}
use Rattle.moves.proofs.ComponentLaws.{components_are_connected}
use Rattle.moves.proofs.Connected.{Contains-from_has_cell, has_cell-from_contains, is_cell-same, is_cell-true}
use Rattle.moves.proofs.RowMajor.{before_differs, passable_cells_listed}
use Rattle.cell_order.specs.declared.OrderKind.{OrderKind}
use Rattle.cell_order.specs.Orders.{ordered}
use Rattle.cell_order.proofs.Permuted.{orders_are_permutations}
use Rattle.row_check.specs.Walks.{AreComponentCells}
use Rattle.versions.specs.Databases.{component_at}
use Rattle.versions.proofs.Counting.{count_listed, sum_by_map}
use Rattle.path_file.specs.Fields.{free_in}
use Rattle.path_file.specs.Readings.{CanBeOrdered}

-- ---- how many cells are passable

-- the passable cells of a map are those of its terrain
pub count_is_free : (m : Map) → passable_count m ≡ free_in m.terrain
count_is_free m = sum_by_map (λ (mark : Bool). cond {A = ℕ} mark 1 0) is_passable m.terrain

cells_decide : (a b : Cell) → Decides (is_cell a b) (a ≡ b)
cells_decide a b = (λ yes_it_is. sym (is_cell-true a b yes_it_is), λ same. is_cell-same a b (sym same))

cells_flip : (a b : Cell) → is_cell a b ≡ is_cell b a
cells_flip a b = same_from_decides {P = a ≡ b} (is_cell a b) (is_cell b a) (cells_decide a b) (λ flipped. is_cell-true b a flipped, λ same. is_cell-same b a same)

cells_laws : IsEquivalence is_cell
cells_laws = record {
  refl = λ a. is_cell-same a a refl;
  symm = cells_flip;
  congr = λ a b c same. ap (λ d. is_cell d c) (sym (is_cell-true a b same));
}

-- cells that differ from one another and are passable are no more than the passable ones
pub apart_few : (m : Map) → IsWithinLimits m.width m.height → length m.terrain ≡ m.width * m.height → (cells : List Cell)
    → AllPairs (λ a b. a ≢ b) cells → All (IsPassable m) cells → length cells ≤ passable_count m
apart_few m limits whole cells apart free =
    let all = passable_cells_listed m limits whole in
    let few = length-le_from_is_member cells_laws cells (passable_cells m) (IsDistinct-from_AllPairs cells_decide cells apart)
    (λ c inside.
    let has = Contains-from_has_cell cells c inside in
    has_cell-from_contains (passable_cells m) c ((all.just_these c).1 (subst (IsPassable m) has.2 (free has.0 c has.1)))) in
    omega (arith, few, count_listed m)

-- ---- the cells of a component

module _ (m : Map) (limits : IsWithinLimits m.width m.height) (whole : length m.terrain ≡ m.width * m.height) (few : free_in m.terrain ≤ MAX_PASSABLE)
    (components : List (List Cell)) (listed : IsComponentList m components) where
  -- the cells of each component can be put in an order
  pub can_be_ordered : (label : ℕ) → label < length components → CanBeOrdered (component_at components label)
  can_be_ordered label less =
      let cells = component_at components label in
      let is : IsComponent m cells = listed.each label [] less in
      let most = apart_few m limits whole cells (λ i j d before within. before_differs (get_or cells i d) (get_or cells j d) (is.in_order i j d before within)) is.passable in
      record {
        some = is.some;
        few = omega (arith, most, count_is_free m, few);
        in_order = is.in_order;
        limits = λ k d within.
            (let inside = (is.passable k d within).inside in
            record { column = omega (arith, inside.column, limits.columns); row = omega (arith, inside.row, limits.rows) });
        connected = components_are_connected m cells is;
      }

-- a way through cells is one through the same cells in another order
goes_through_more : (cells more : List Cell) → ((c : Cell) → Contains cells c → Contains more c) → (from : Cell) (moves : List Move) (to : Cell)
    → GoesThrough cells from moves to → GoesThrough more from moves to
goes_through_more cells more inside from [] to way = way
goes_through_more cells more inside from (move ∷ moves) to way = (way.0, way.1, way.2, inside way.0 way.3, goes_through_more cells more inside way.0 moves to way.4)

module _ (cells order : List Cell) (same : IsPermutation order cells) (can : CanBeOrdered cells) where
  pub ordered_size : length order ≡ length cells
  ordered_size = sym (length_permutation order cells same)

  -- in an order they are the cells of a component
  pub ordered_cells : AreComponentCells order
  ordered_cells =
      let size = ordered_size in
      let back = IsPermutation-sym order cells same in
      let some = can.some in
      let few = can.few in
      record {
        some = omega arith;
        few = omega arith;
        on_map = All-permutation IsOnMap cells order back can.limits;
        once = AllPairs-from_IsDistinct cells_decide order
            (IsDistinct-IsPermutation is_cell cells_flip cells order back
            (IsDistinct-from_AllPairs cells_decide cells
            (λ i j d less within. before_differs (get_or cells i d) (get_or cells j d) (can.in_order i j d less within))));
        connected = record {
          joined = λ from to has there.
              (let way = can.connected.joined from to (Contains-permutation order cells from same has) (Contains-permutation order cells to same there) in
              (way.0, goes_through_more cells order (λ c inside. Contains-permutation cells order c back inside) from way.0 to way.1));
        };
      }

-- the order of cells that can be put in one is a permutation of them
pub ordered_same : (order : OrderKind) (cells : List Cell) → CanBeOrdered cells → IsPermutation (ordered order cells) cells
ordered_same order cells can = orders_are_permutations order cells can.some can.in_order can.connected
