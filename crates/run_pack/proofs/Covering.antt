-- Each place of a row is covered by a run.
use Rattle.std.proofs.Common.{◌≡◌, ℕ, zero, suc, ◌<◌, ◌≤◌, List, length, arith, inl, inr, refl}
use Rattle.std.proofs.lemmas.Bool.{cases_lt}
use Rattle.run_pack.specs.declared.Run.{Run}
use Rattle.run_pack.specs.Runs.{start_at, move_at, Rises, IsRow, IsLastUpTo, IsCoveringMove}
use Rattle.run_pack.proofs.Found.{Covers-from_last}

-- the last run that starts at a place or before it, where those from run `k` on start past it
last_below : (runs : List Run) (place k : ℕ) → Rises runs → k ≤ length runs
    → ((later : ℕ) → k ≤ later → later < length runs → place < start_at runs later) → (j : ℕ) × IsLastUpTo runs place j
last_below runs place zero rises within past = absurd (let l = past 0 (omega arith) rises.some in let f = rises.first in omega arith)
last_below runs place (suc k) rises within past =
    elim (cases_lt place (start_at runs k)) [
      | inl before ↦ last_below runs place k rises (omega arith)
          (λ later from inside. elim (cases_lt k later) [
            | inl more ↦ past later (omega arith) inside
            | inr same ↦ (let e : later ≡ k = omega arith in rw e before)
          ])
      | inr reached ↦ (
        k,
        record {
          within = omega arith;
          reached = reached;
          last = λ later after inside. past later (omega arith) inside;
        },
      )
    ]

pub last_up_to : (runs : List Run) (place : ℕ) → Rises runs → (j : ℕ) × IsLastUpTo runs place j
last_up_to runs place rises = last_below runs place (length runs) rises (omega arith) (λ later from inside. absurd (omega arith))

pub covering_move : (runs : List Run) (places place : ℕ) → IsRow runs places → place < places → (move : ℕ) × IsCoveringMove runs places place move
covering_move runs places place row inside =
    let last = last_up_to runs place row.rises in (
      move_at runs last.0,
      record {
        run = last.0;
        within = last.1.within;
        covers = Covers-from_last runs places place last.0 inside last.1;
        is = refl;
      },
    )
