use Rattle.std.specs.Prelude.{◌≡◌, ◌<◌, ℕ, []}
use Rattle.row_store.specs.Rows.{row_at}
use Rattle.near_rows.proofs.plain.has_blank.Given as goal

abbrev pub invariant-loop-place : goal.invariant-loop-place
invariant-loop-place l = (place : ℕ) → place < l.place → row_at l.near.rows place ≡ [] → ⊥
