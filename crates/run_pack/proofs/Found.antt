-- What the move of the last run up to a place is in the whole row.
use Rattle.std.proofs.Common.{◌≡◌, ℕ, ◌+◌, ◌<◌, List, length, arith, ap, sym, ◌∙◌, inl, inr}
use Rattle.std.proofs.lemmas.Bool.{cases_lt}
use Rattle.run_pack.specs.declared.Run.{Run}
use Rattle.run_pack.specs.Runs.{move_at, Rises, Covers, IsLastUpTo, IsMoveFor, IsCoveringInside, IsInSetOfPlace, IsFound}
use Rattle.run_pack.proofs.RowLemmas.{border_past, get_or-starts_of, start_at-le}

-- the last run that starts at the place or before it covers the place
pub Covers-from_last : (runs : List Run) (places place k : ℕ) → place < places → IsLastUpTo runs place k → Covers runs places k place
Covers-from_last runs places place k inside last = record {
  from = last.reached;
  upto = elim (cases_lt (k + 1) (length runs)) [
    | inl more ↦ omega (arith, get_or-starts_of runs (k + 1) places more, last.last (k + 1) (omega arith) more)
    | inr end ↦ omega (arith, border_past runs places (k + 1) end)
  ];
}

-- and the run that covers the place is that one
pub IsLastUpTo-from_covers : (runs : List Run) (places place k : ℕ) → Rises runs → k < length runs → Covers runs places k place → IsLastUpTo runs place k
IsLastUpTo-from_covers runs places place k rises within covers = record {
  within = within;
  reached = covers.from;
  last = λ later after inside.
      (let next : k + 1 < length runs = omega arith in
      omega (arith, covers.upto, get_or-starts_of runs (k + 1) places next, start_at-le runs rises (k + 1) later (omega arith) inside));
}

pub IsCoveringInside-from_found : (runs : List Run) (place move : ℕ) → IsMoveFor runs place move → IsCoveringInside runs place move
IsCoveringInside-from_found runs place move found = record {
  covering = λ places row inside. record {
    run = found.run;
    within = found.last.within;
    covers = Covers-from_last runs places place found.run inside found.last;
    is = found.is;
  };
}

-- in a row that holds for some sets, the move is in the set of the place
pub IsInSetOfPlace-from_found : (runs : List Run) (place move : ℕ) → IsMoveFor runs place move → IsInSetOfPlace runs place move
IsInSetOfPlace-from_found runs place move found = record {
  held = λ sets fits inside.
      (let covers = Covers-from_last runs (length sets) place found.run inside found.last in
      rw found.is ((fits.held found.run found.last.within).everywhere place covers.from covers.upto));
}

-- there is one last run up to a place
same_last : (runs : List Run) (place j k : ℕ) → IsLastUpTo runs place j → IsLastUpTo runs place k → j ≡ k
same_last runs place j k a b =
    elim (cases_lt j k) [
      | inl before ↦ absurd (omega (arith, a.last k before b.within, b.reached))
      | inr from ↦ elim (cases_lt k j) [
        | inl after ↦ absurd (omega (arith, b.last j after a.within, a.reached))
        | inr upto ↦ omega arith
      ]
    ]

-- and so one move for a place
pub same_move : (runs : List Run) (place a b : ℕ) → IsMoveFor runs place a → IsMoveFor runs place b → a ≡ b
same_move runs place a b x y =
    x.is ∙ ap (move_at runs) (same_last runs place x.run y.run x.last y.last) ∙ sym y.is

-- so all is said of a move once it is that of the last run up to the place
pub IsFound-from_last : (runs : List Run) (place move : ℕ) → IsMoveFor runs place move → IsFound runs place move
IsFound-from_last runs place move last = record {
  last = last;
  covering = IsCoveringInside-from_found runs place move last;
  held = IsInSetOfPlace-from_found runs place move last;
}
