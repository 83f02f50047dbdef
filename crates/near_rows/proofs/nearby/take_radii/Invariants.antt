use Rattle.std.proofs.Common.{◌≡◌, ◌≢◌, ℕ, ◌<◌, [], length, slice_index}
use Rattle.row_store.specs.Rows.{row_at}
use Rattle.near_rows.proofs.nearby.take_radii.Given as goal

abbrev pub invariant-loop-place : goal.invariant-loop-place
invariant-loop-place l = record {
  whole : length l.radii ≡ length l.fn.radii;
  kept : (at : ℕ) → row_at l.rows at ≢ [] → slice_index l.radii at ≡ slice_index l.fn.radii at;
  taken : (at : ℕ) → at < l.place → row_at l.rows at ≡ [] → slice_index l.radii at ≡ slice_index l.others at;
}
