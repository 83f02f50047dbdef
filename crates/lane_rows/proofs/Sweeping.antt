-- Visits one after the other.
use Rattle.std.proofs.Common.{◌≡◌, ℕ, ◌<◌, List, length, slice_index, refl, ◌∙◌, arith}
use Rattle.lane_rows.specs.Tables.{IsMutual, edges_of}
use Rattle.lane_rows.specs.Equations.{AreInRange}
use Rattle.lane_rows.specs.Visits.{IsVisit, IsSwept, LanesAt, lane_in}
use Rattle.lane_rows.proofs.Visiting.{keeps}

module _ (near : List (List ℕ)) (sources : List ℕ) where
  pub swept_none : (at : LanesAt) → AreInRange at.keys → IsSwept near sources at at
  swept_none at range = record { range = range; last = λ lane l. refl; settled = λ lane l h. h }

  pub swept_more : (first old new : LanesAt) (place : ℕ) (edges : List ℕ) → IsMutual near → (place < length near) × (edges ≡ edges_of near place)
      → IsSwept near sources first old → AreInRange new.keys
      → ((lane : ℕ) → lane < 16 → IsVisit edges (slice_index sources lane) place (lane_in old lane) (lane_in new lane))
      → IsSwept near sources first new
  swept_more first old new place edges pair at swept range visit = record {
    range = range;
    last = λ lane l. (visit lane l).same_keys (length near) (λ e. omega arith) ∙ swept.last lane l;
    settled = λ lane l h.
        keeps near (slice_index sources lane) place (lane_in old lane) (lane_in new lane) pair at.0 (rw at.1 at (visit lane l)) (swept.settled lane l h);
  }

  pub swept_on : (first old new : LanesAt) → IsSwept near sources first old → IsSwept near sources old new → IsSwept near sources first new
  swept_on first old new one two = record {
    range = two.range;
    last = λ lane l. two.last lane l ∙ one.last lane l;
    settled = λ lane l h. two.settled lane l (one.settled lane l h);
  }
