-- Connected cells are a component of a map that has just them, and each of them has a first move from each other one.
use Rattle.std.proofs.Common.{◌≡◌, ◌≢◌, ℕ, ◌<◌, ◌≤◌, List, [], ◌∷◌, length, get_or, All, sym, ◌∙◌, inl, inr, subst, arith}
use Rattle.std.specs.Bool.{Decides}
use Rattle.std.specs.List.{AllPairs, Contains}
use Rattle.std.specs.List.Sorted.{IsPermutation}
use Rattle.std.proofs.lemmas.Bool.{cases_lt}
use Rattle.std.proofs.lemmas.List.{get_or_default}
use Rattle.std.proofs.lemmas.List.Elements.{Contains-get_or}
use Rattle.std.proofs.lemmas.List.Sorted.{Contains-permutation, IsPermutation-sym, All-permutation, length_permutation}
use Rattle.std.proofs.lemmas.Bool.Decides.{same_from_decides}
use Rattle.std.proofs.lemmas.Map.Keys.{IsDistinct-IsPermutation}
use Rattle.std.proofs.lemmas.Map.Made.{AllPairs-from_IsDistinct, IsDistinct-from_AllPairs}
use Rattle.run_pack.specs.declared.Run.{Run}
use Rattle.run_pack.specs.Runs.{ArePackable}
use Rattle.moves.specs.declared.Cell.{Cell}
use Rattle.moves.specs.declared.Move.{Move}
use Rattle.moves.specs.declared.TheConstants.{MAX_PASSABLE}
use Rattle.moves.specs.Maps.{Map, IsWithinLimits, IsPassable, ComesBefore, is_cell}
use Rattle.moves.specs.Rectangles.{IsOnMap}
use Rattle.moves.proofs.Connected.{is_cell-true, is_cell-same}
use Rattle.moves.proofs.RowMajor.{before_differs}
use Rattle.moves.specs.MoveSets.{Has}
use Rattle.moves.specs.Paths.{Leads}
use Rattle.moves.specs.Components.{IsComponent}
use Rattle.moves.specs.ComponentLaws.{HasJust}
use Rattle.moves.specs.StraightPaths.{GoesThrough, IsConnected}
use Rattle.moves.specs.FirstSetLists.{cell_of, AreFirstSets}
use Rattle.moves.proofs.BestPaths.{first_move_exists}
use Rattle.moves.proofs.LawsOfPaths.{leads_to}
use Rattle.moves.proofs.MovesInSets.{Has-none}
use Rattle.moves.proofs.StraightPaths.{straight_is_legal}
use Rattle.cell_order.specs.declared.OrderKind.{OrderKind}
use Rattle.row_store.specs.Rows.{row_at, IsRowFrom}
use Rattle.row_store.specs.Comps.{IsComp}
use Rattle.row_store.proofs.RowLaws.{HasJust-permuted}
use Rattle.build_pool.specs.Places.{IsInSides, LieOnMap, AreComponent, AreSources, CanBeBuilt}
use Rattle.build_pool.proofs.Boards.{some_map}

abbrev corner_cell : Cell
corner_cell = record { x = 0; y = 0 }

-- a way through the cells is a path of the map
leads_through : (map : Map) (cells : List Cell) → HasJust map cells → (from : Cell) (moves : List Move) (to : Cell) → Contains cells from → GoesThrough cells from moves to → Leads map from moves to
leads_through map cells just from [] to has same = ((just.just_these from).1 has, same)
leads_through map cells just from (move ∷ moves) to has way =
    let here = (just.just_these from).1 has in
    let there = just.one_class from way.0 has way.3 in
    (way.0, straight_is_legal map from move way.0 way.2 way.1 here there, leads_through map cells just way.0 moves to way.3 way.4)

pub component_of_just : (map : Map) (cells : List Cell) → HasJust map cells → IsConnected cells → 0 < length cells → AllPairs ComesBefore cells → IsComponent map cells
component_of_just map cells just connected some in_order = record {
  some = some;
  passable = λ k d within. (just.just_these (get_or cells k d)).1 (Contains-get_or cells k d within);
  whole = λ from to has. (
    λ there. (let way = connected.joined from to has there in (way.0, leads_through map cells just from way.0 to has way.1)),
    λ reached. (just.just_these to).0 (leads_to map from to reached.0 reached.1),
  );
  in_order = in_order;
}

-- cells on a map inside the limits
pub on_map_all : (cells : List Cell) → LieOnMap cells → All IsOnMap cells
on_map_all cells p = λ k d within.
    (let inside = p.inside k d within in
    record { column = omega (arith, inside.column, p.limits.columns); row = omega (arith, inside.row, p.limits.rows) })

-- a component of a map lies on it
pub lies_on_map : (map : Map) (cells : List Cell) → IsWithinLimits map.width map.height → IsComponent map cells → LieOnMap cells
lies_on_map map cells limits is = record {
  width = map.width;
  height = map.height;
  limits = limits;
  inside = λ k d within.
      (let free = is.passable k d within in
      record { column = free.inside.column; row = free.inside.row });
}

module _ (map : Map) (cells : List Cell) (p : AreComponent map cells) where
  in_component : (place : ℕ) → place < length cells → Contains p.component (cell_of cells place)
  in_component place within = Contains-permutation cells p.component (cell_of cells place) p.order (Contains-get_or cells place corner_cell within)

  pub passable_cell : (place : ℕ) → place < length cells → IsPassable map (cell_of cells place)
  passable_cell place within =
      let has = in_component place within in
      subst (IsPassable map) has.2 (p.is.passable has.0 (cell_of cells place) has.1)

  -- so first sets from one of them to all can be packed
  pub packable : (place : ℕ) (sets : List ℕ) → place < length cells → length cells ≤ MAX_PASSABLE
      → AreFirstSets map (cell_of cells place) cells sets → ArePackable sets
  packable place sets within few first =
      let size = first.whole in
      record {
        some = omega arith;
        few = omega arith;
        non_empty = λ k d inside.
            (let there : k < length cells = omega arith in
            let reached = (p.is.whole (cell_of cells place) (cell_of cells k) (in_component place within)).0 (in_component k there) in
            let move = (first_move_exists map (cell_of cells place) (cell_of cells k)).0 reached in
            let has : Has (get_or sets k 0) move.0 = (first.each k there move.0).1 move.1 in
            elim (cases_lt 0 (get_or sets k d)) [
              | inl above ↦ above
              | inr none ↦
                  let zero : get_or sets k 0 ≡ 0 = get_or_default sets k 0 d inside ∙ omega arith in
                  absurd (Has-none move.0 (subst (λ s. Has s move.0) zero has))
            ]);
      }

-- ---- the cells in another order

cells_decide : (a b : Cell) → Decides (is_cell a b) (a ≡ b)
cells_decide a b = (λ yes_it_is. sym (is_cell-true a b yes_it_is), λ same. is_cell-same a b (sym same))

cells_flip : (a b : Cell) → is_cell a b ≡ is_cell b a
cells_flip a b = same_from_decides {P = a ≡ b} (is_cell a b) (is_cell b a) (cells_decide a b) (λ flipped. is_cell-true b a flipped, λ same. is_cell-same b a same)

-- cells that stand once each do so in any order
apart_permuted : (order cells : List Cell) → IsPermutation order cells → AllPairs (λ a b. a ≢ b) cells → AllPairs (λ a b. a ≢ b) order
apart_permuted order cells same apart =
    AllPairs-from_IsDistinct cells_decide order
    (IsDistinct-IsPermutation is_cell cells_flip cells order (IsPermutation-sym order cells same) (IsDistinct-from_AllPairs cells_decide cells apart))

-- a way through cells is one through more cells
goes_through_more : (cells more : List Cell) → ((c : Cell) → Contains cells c → Contains more c) → (from : Cell) (moves : List Move) (to : Cell)
    → GoesThrough cells from moves to → GoesThrough more from moves to
goes_through_more cells more inside from [] to way = way
goes_through_more cells more inside from (move ∷ moves) to way = (way.0, way.1, way.2, inside way.0 way.3, goes_through_more cells more inside way.0 moves to way.4)

-- cells whose rows can be built, and the same in another order
pub record AreGiven (cells order : List Cell) : Type 0 where
  pub same : IsPermutation order cells
  pub can : CanBeBuilt cells

module _ (cells order : List Cell) (is : AreGiven cells order) where
  pub given_size : length order ≡ length cells
  given_size = sym (length_permutation order cells is.same)

  order_apart : AllPairs (λ a b. a ≢ b) order
  order_apart = apart_permuted order cells is.same
      (λ i j d less within equal. before_differs (get_or cells i d) (get_or cells j d) (is.can.in_order i j d less within) equal)

-- and a map that has just them
pub record IsReady (map : Map) (cells order : List Cell) : Type 0 where
  pub given : AreGiven cells order
  pub just : HasJust map cells

module _ (map : Map) (cells order : List Cell) (is : IsReady map cells order) where
  same : IsPermutation order cells
  same = is.given.same

  can : CanBeBuilt cells
  can = is.given.can

  back : IsPermutation cells order
  back = IsPermutation-sym order cells same

  pub component_in_order : AreComponent map order
  component_in_order = record { component = cells; is = component_of_just map cells is.just can.connected can.some can.in_order; order = same }

  connected_in_any_order : IsConnected order
  connected_in_any_order = record {
    joined = λ from to has there.
        (let way = can.connected.joined from to (Contains-permutation order cells from same has) (Contains-permutation order cells to same there) in
        (way.0, goes_through_more cells order (λ c inside. Contains-permutation cells order c back inside) from way.0 to way.1));
  }

  pub comp_in_order : (kind : OrderKind) (rows : List (List Run)) → length rows ≡ length order
      → ((place : ℕ) → place < length order → IsRowFrom map order (cell_of order place) (row_at rows place))
      → IsComp (record { kind = kind; cells = order; rows = rows })
  comp_in_order kind rows long each =
      let size = given_size cells order is.given in
      let some = can.some in
      let few = can.few in
      record {
        some = omega arith;
        few = omega arith;
        on_map = All-permutation IsOnMap cells order back (on_map_all cells can.on_map);
        once = order_apart cells order is.given;
        connected = connected_in_any_order;
        rows = record {
          map = map;
          just = HasJust-permuted map order cells back is.just;
          whole = long;
          each = each;
        };
      }

module _ (cells order : List Cell) (is : AreGiven cells order) where
  pub ready : (map : Map) → HasJust map order → IsReady map cells order
  ready map just = record { given = is; just = HasJust-permuted map cells order is.same just }

  order_on_map : LieOnMap order
  order_on_map =
      let on_map = is.can.on_map in
      record {
        width = on_map.width;
        height = on_map.height;
        limits = on_map.limits;
        inside = All-permutation (IsInSides on_map.width on_map.height) cells order (IsPermutation-sym order cells is.same) on_map.inside;
      }

  pub sources_in_order : AreSources order
  sources_in_order =
      let map = some_map order order_on_map in
      let size = given_size cells order is in
      let some = is.can.some in
      let few = is.can.few in
      let placed = on_map_all order order_on_map in
      record {
        board = map.0;
        just = map.1;
        component = λ other just. component_in_order other cells order (ready other just);
        some = omega arith;
        few = omega arith;
        on_map = order_on_map;
        numbered = record {
          once = order_apart cells order is;
          columns = λ k d within. let at = placed k d within in omega (arith, at.column);
          rows = λ k d within. let at = placed k d within in omega (arith, at.row);
          few = omega arith;
        };
      }
