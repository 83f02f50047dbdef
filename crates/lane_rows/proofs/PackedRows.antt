-- The packed rows of a solved tile are the rows of first sets.
use Rattle.std.proofs.Common.{◌≡◌, ◌≢◌, ℕ, ◌<◌, ◌≤◌, List, [], length, take, slice_index, ap, ◌∙◌, arith}
use Rattle.std.proofs.lemmas.List.{get_or-map, get_or-take, length-map, length-take-le}
use Rattle.lane_rows.specs.Equations.{lane_of}
use Rattle.lane_rows.specs.Tiles.{Tile, IsRowOf}
use Rattle.lane_rows.specs.Packed.{sets_in, ArePackedLanes, HavePackedRows}
use Rattle.lane_rows.proofs.Rowing.{row_is_first, row_has_moves}

module _ (tile : Tile) (sets : List (List ℕ)) (room : tile.count ≤ length sets)
    (own : (lane : ℕ) → lane < 16 → lane_of sets lane (slice_index tile.sources lane) ≡ 255)
    (others : (lane place : ℕ) → lane < 16 → place ≢ slice_index tile.sources lane → lane_of sets lane place ≡ lane_of tile.sets lane place)
    (inside : (lane : ℕ) → lane < 16 → slice_index tile.sources lane < tile.count) where
  size : length (take tile.count sets) ≡ tile.count
  size = length-take-le tile.count sets room

  read : (lane place : ℕ) → place < tile.count → slice_index (sets_in (take tile.count sets) lane) place ≡ lane_of sets lane place
  read lane place within =
      get_or-map (λ set. slice_index set lane) (take tile.count sets) place [] 0 (omega (arith, size))
      ∙ ap (λ set. slice_index set lane) (get_or-take tile.count sets place [] within)

  -- the sets of a lane, with all moves at its source
  pub completed : (lane : ℕ) → lane < 16 → IsRowOf tile lane (sets_in (take tile.count sets) lane)
  completed lane l = record {
    whole = length-map (take tile.count sets) (λ set. slice_index set lane) ∙ size;
    source = read lane (slice_index tile.sources lane) (inside lane l) ∙ own lane l;
    others = λ place within apart. read lane place within ∙ others lane place l apart;
  }

  pub have_rows : (words : List (List ℕ)) → ArePackedLanes (take tile.count sets) words
      → ((lane place : ℕ) → lane < 16 → slice_index (sets_in (take tile.count sets) lane) place < 256) → HavePackedRows tile words
  have_rows words packed bytes lane l map cells near table solved = record {
    sets = sets_in (take tile.count sets) lane;
    first = row_is_first map cells near tile lane _ l table solved (completed lane l) (inside lane l) (λ place. bytes lane place l);
    tight = packed lane l (row_has_moves map cells near tile lane _ l table solved (completed lane l) (inside lane l));
  }
