-- Near rows that are put one by one, on any map.
use Rattle.std.proofs.Common.{◌≡◌, ◌≢◌, ◌⊎◌, ℕ, ◌<◌, List, [], ◌∷◌, length, replicate, slice_index, take, sym, ap, subst, ◌∙◌, inl, inr, arith}
use Rattle.std.proofs.lemmas.Bool.{cases_eq}
use Rattle.std.proofs.lemmas.List.Sorted.{length_permutation}
use Rattle.std.proofs.lemmas.List.{get_or-set_same, get_or-set_other, length-replicate, length-map, length-set}
use Rattle.run_pack.specs.declared.Run.{Run}
use Rattle.run_pack.specs.Runs.{IsTight, run_of_word}
use Rattle.run_pack.proofs.RowLemmas.{length-row}
use Rattle.moves.specs.declared.Cell.{Cell}
use Rattle.moves.specs.Maps.{Map, IsWithinLimits}
use Rattle.moves.specs.FirstSetLists.{cell_of, AreFirstSets}
use Rattle.moves.proofs.ComponentLaws.{components_are_connected}
use Rattle.moves.proofs.OneValue.{one_value}
use Rattle.lane_rows.specs.Completed.{AreCompleted}
use Rattle.lane_rows.specs.Laws.{IsTableOf}
use Rattle.lane_rows.specs.Tiles.{Tile, IsSolved}
use Rattle.lane_rows.specs.Packed.{ArePackedLanes, row_of, sets_in, words_in}
use Rattle.lane_rows.proofs.Rowing.{row_is_first}
use Rattle.row_store.specs.Rows.{row_at}
use Rattle.row_store.specs.Pools.{merged}
use Rattle.build_pool.specs.Places.{AreComponent, AreSources, AreWithNear}
use Rattle.build_pool.proofs.Connecting.{AreGiven, lies_on_map, sources_in_order}
use Rattle.near_rows.specs.NearRows.{Nearby, AreWidened, IsNearRadius}
use Rattle.near_rows.specs.Building.{ArePartly, IsGround}
use Rattle.near_rows.specs.Gathering.{AreBothMerged, AreSomeNear, HaveFirstSets, HaveNearRows, IsNearOver, PutsRow}
use Rattle.near_rows.proofs.Parts.{first_over_part, widened_packable}

-- on one map
pub partly_on : (map : Map) (cells : List Cell) (nearby : Nearby) → AreComponent map cells → AreSomeNear cells nearby → ArePartly map cells nearby
partly_on map cells nearby part p = record {
  radii = p.radii;
  rows = p.rows;
  each = λ place within. elim (p.each place within) [
    | inl blank ↦ inl blank
    | inr near ↦ inr (record { radius = near.reaches map part; row = near.keeps map part })
  ];
}

pub some_near_blank : (cells : List Cell) (nearby : Nearby) → length nearby.radii ≡ length cells → nearby.rows ≡ replicate (length cells) [] → AreSomeNear cells nearby
some_near_blank cells nearby radii blank = record {
  radii = radii;
  rows = ap length blank ∙ length-replicate {A = List Run} (length cells) [];
  each = λ place within. inl (ap (λ rows. row_at rows place) blank ∙ one_value (length cells) place []);
}

pub some_near_put : (cells : List Cell) (old new : Nearby) (place radius : ℕ) (row : List Run) → place < length cells → AreSomeNear cells old
    → PutsRow old new place radius row → IsNearOver cells place radius row → AreSomeNear cells new
some_near_put cells old new place radius row within p put near = record {
  radii = ap length put.radii ∙ length-set old.radii place radius ∙ p.radii;
  rows = ap length put.rows ∙ length-set old.rows place row ∙ p.rows;
  each = λ k inside. elim (cases_eq k place) [
    | inl same ↦ inr (rw same here)
    | inr other ↦
        let row_same : row_at new.rows k ≡ row_at old.rows k = ap (λ rows. row_at rows k) put.rows ∙ get_or-set_other old.rows place k row [] other in
        let radius_same : slice_index new.radii k ≡ slice_index old.radii k = ap (λ radii. slice_index radii k) put.radii ∙ get_or-set_other old.radii place k radius 0 other in
        rw (row_same, radius_same) (p.each k inside)
  ];
}
  where
    row_is : row_at new.rows place ≡ row
    row_is = ap (λ rows. row_at rows place) put.rows ∙ get_or-set_same old.rows place row [] (let size = p.rows in omega arith)

    radius_is : slice_index new.radii place ≡ radius
    radius_is = ap (λ radii. slice_index radii place) put.radii ∙ get_or-set_same old.radii place radius 0 (let size = p.radii in omega arith)

    here : IsNearOver cells place (slice_index new.radii place) (row_at new.rows place)
    here = rw (row_is, radius_is) near

-- ---- the near rows of several workers

row_or_none : (row : List Run) → (row ≡ []) ⊎ (row ≢ [])
row_or_none [] = inl (λ i. [])
row_or_none (run ∷ runs) = inr (λ same. (let none = ap length same in omega arith))

merged_none : (row other : List Run) → row ≡ [] → merged row other ≡ other
merged_none row other none = ap (λ r. merged r other) none

merged_some : (row other : List Run) → row ≢ [] → merged row other ≡ row
merged_some [] other some = absurd (some (λ i. []))
merged_some (run ∷ runs) other some = λ i. run ∷ runs

pub some_near_merged : (cells : List Cell) (old other new : Nearby) → AreSomeNear cells old → AreSomeNear cells other → AreBothMerged old other new → AreSomeNear cells new
some_near_merged cells old other new p q m = record {
  radii = m.radii ∙ p.radii;
  rows = m.rows.whole ∙ p.rows;
  each = λ k within.
      (let own : k < length old.rows = let size = p.rows in omega arith in
      let room : k < length old.radii = let size = p.radii in omega arith in
      elim (row_or_none (row_at old.rows k)) [
        | inl none ↦
            let row = m.rows.each k own ∙ merged_none (row_at old.rows k) (row_at other.rows k) none in
            rw (row, m.taken k room none) (q.each k within)
        | inr some ↦
            let row = m.rows.each k own ∙ merged_some (row_at old.rows k) (row_at other.rows k) some in
            rw (row, m.kept k some) (p.each k within)
      ]);
}

-- ---- a tile

-- the sets of a tile that was solved, once it is completed
module _ (cells : List Cell) (near : List (List ℕ)) (old new : Tile) (table : AreWithNear cells near) (solved : IsSolved near old)
    (inside : (lane : ℕ) → lane < 16 → slice_index old.sources lane < length near)
    (count : new.count ≡ old.count) (sources : new.sources ≡ old.sources) (completed : AreCompleted old new) where
  over : IsTableOf table.sources.board cells near
  over = record { just = table.sources.just; numbered = table.sources.numbered; edges = table.edges; pairs = table.pairs }

  home : (lane : ℕ) → lane < 16 → slice_index old.sources lane < length cells
  home lane l = let size = table.edges.whole in let within = inside lane l in omega arith

  pub have_first_sets : HaveFirstSets cells new
  have_first_sets = record {
    board = table.sources.board;
    part = table.sources.component table.sources.board table.sources.just;
    few = table.sources.few;
    some = table.sources.some;
    size =
        (let row = (completed 0 (omega arith)).whole in
        let long = length-map (take new.count new.sets) (λ set. slice_index set 0) in
        let places = solved.places in
        let edges = table.edges.whole in
        omega arith);
    inside = λ lane l. rw sources (home lane l);
    first = λ lane map l part bytes.
        rw sources
        (first_over_part map cells part table.sources.board (slice_index old.sources lane) (sets_in (take new.count new.sets) lane) table.sources.just (home lane l)
        (row_is_first table.sources.board cells near old lane (sets_in (take new.count new.sets) lane) l over solved (completed lane l)
        (let within = inside lane l in let size = solved.places in omega arith) bytes));
  }

-- near rows that were packed from widened sets
module _ (cells : List Cell) (tile : Tile) (sources_at : ℕ → Cell) (radii : List ℕ) (sets wide words : List (List ℕ)) (first : HaveFirstSets cells tile)
    (is : sets ≡ take tile.count tile.sets) (bytes : (lane place : ℕ) → lane < 16 → slice_index (sets_in sets lane) place < 256)
    (source : (lane : ℕ) → lane < 16 → sources_at lane ≡ cell_of cells (slice_index tile.sources lane))
    (radius : (lane : ℕ) (map : Map) → lane < 16 → AreFirstSets map (sources_at lane) cells (sets_in sets lane)
    → IsNearRadius map cells (sources_at lane) (slice_index radii lane))
    (widened : (lane : ℕ) (map : Map) → lane < 16 → AreFirstSets map (sources_at lane) cells (sets_in sets lane)
    → AreWidened map (sources_at lane) (slice_index radii lane) cells (sets_in wide lane))
    (packed : ArePackedLanes wide words) where
  module _ (lane : ℕ) (l : lane < 16) (map : Map) (part : AreComponent map cells) where
    first_here : AreFirstSets map (sources_at lane) cells (sets_in sets lane)
    first_here =
        subst (λ c. AreFirstSets map c cells (sets_in sets lane)) (sym (source lane l))
        (subst (λ s. AreFirstSets map (cell_of cells (slice_index tile.sources lane)) cells (sets_in s lane)) (sym is)
        (first.first lane map l part (λ place. subst (λ s. slice_index (sets_in s lane) place < 256) is (bytes lane place l))))

    radius_here : IsNearRadius map cells (cell_of cells (slice_index tile.sources lane)) (slice_index radii lane)
    radius_here = subst (λ c. IsNearRadius map cells c (slice_index radii lane)) (source lane l) (radius lane map l first_here)

    widened_here : AreWidened map (cell_of cells (slice_index tile.sources lane)) (slice_index radii lane) cells (sets_in wide lane)
    widened_here = subst (λ c. AreWidened map c (slice_index radii lane) cells (sets_in wide lane)) (source lane l) (widened lane map l first_here)

    tight_here : IsTight (row_of (words_in words lane)) (sets_in wide lane)
    tight_here = packed lane l (widened_packable map cells part (slice_index tile.sources lane) (slice_index radii lane) (sets_in wide lane) (first.inside lane l) first.few widened_here).non_empty

  pub have_near_rows : HaveNearRows cells tile.sources radii words
  have_near_rows = record {
    inside = first.inside;
    few = λ lane l.
        (let tight = tight_here lane l first.board first.part in
        let size = length-map (words_in words lane) run_of_word in
        omega (arith, length-row _ _ tight.row, (widened_here lane l first.board first.part).whole, first.few, size));
    each = λ lane l. record {
      reaches = radius_here lane l;
      keeps = λ map part. record { sets = sets_in wide lane; widened = widened_here lane l map part; tight = tight_here lane l map part };
    };
  }

-- ---- the cells of a component of a map

module _ (map : Map) (cells : List Cell) (ground : IsGround map cells) (limits : IsWithinLimits map.width map.height) where
  component_given : AreGiven ground.part.component cells
  component_given =
      let is = ground.part.is in
      record {
        same = ground.part.order;
        can = record {
          some = is.some;
          few = (let few = ground.few in let size = length_permutation cells ground.part.component ground.part.order in omega arith);
          in_order = is.in_order;
          connected = components_are_connected map ground.part.component is;
          on_map = lies_on_map map ground.part.component limits is;
        };
      }

  pub ground_sources : AreSources cells
  ground_sources = sources_in_order ground.part.component cells component_given
