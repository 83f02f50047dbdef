-- One lane's set at one place is written.
use Rattle.std.proofs.Common.{◌≡◌, ◌≢◌, ℕ, ◌<◌, List, [], length, set, slice_index, ap, ◌∙◌, inl, inr}
use Rattle.std.proofs.lemmas.Bool.{cases_eq}
use Rattle.std.proofs.lemmas.List.{get_or-set_same, get_or-set_other}
use Rattle.lane_rows.specs.Equations.{lane_of}

module _ (sets : List (List ℕ)) (at lane : ℕ) (new : List ℕ) (inside : at < length sets) where
  pub own_place : slice_index new lane ≡ 255 → lane_of (set sets at new) lane at ≡ 255
  own_place own = ap (λ row. slice_index row lane) (get_or-set_same sets at new [] inside) ∙ own

  pub other_place : (other place : ℕ) → place ≢ at → lane_of (set sets at new) other place ≡ lane_of sets other place
  other_place other place apart = ap (λ row. slice_index row other) (get_or-set_other sets at place new [] apart)

  module _ (others : (other : ℕ) → other ≢ lane → slice_index new other ≡ lane_of sets other at) where
    pub other_lane : (other place : ℕ) → other ≢ lane → lane_of (set sets at new) other place ≡ lane_of sets other place
    other_lane other place apart = elim (cases_eq place at) [
      | inl same ↦ rw same (ap (λ row. slice_index row other) (get_or-set_same sets at new [] inside) ∙ others other apart)
      | inr else ↦ other_place other place else
    ]

    -- a lane's place keeps its set, but in the lane and at the place that were written
    pub other_here : (other place : ℕ) → (other ≡ lane → place ≢ at) → lane_of (set sets at new) other place ≡ lane_of sets other place
    other_here other place apart = elim (cases_eq other lane) [
      | inl same ↦ other_place other place (apart same)
      | inr else ↦ other_lane other place else
    ]
