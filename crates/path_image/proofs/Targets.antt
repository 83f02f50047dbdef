-- Where moves lead.
use Rattle.std.proofs.Common.{◌≡◌, ◌+◌, ◌-◌, Bool, true, false, eqb, refl, inl, inr, MatchBool, arith}
use Rattle.std.proofs.lemmas.Bool.{eqb-true, eqb-false, cases_Bool}
use Rattle.moves.specs.declared.Cell.{Cell}
use Rattle.moves.specs.declared.Move.{Move}
use Rattle.moves.specs.declared.Move.TheVariants.{N, NE, E, SE, S, SW, W, NW}
use Rattle.path_image.specs.Walks.{HasTarget, HasWest, HasNorth, LeadsBelow, goes_north, goes_west}

-- a move leads somewhere from a cell that has a column to the west of it if the move goes there, and a row to the north
pub has_target : (at : Cell) (by : Move) → HasWest at by → HasNorth at by → HasTarget at by
has_target at N west north = let y = north.some refl in record { to = record { x = at.x; y = at.y - 1 }; target = (refl, omega arith) }
has_target at NE west north = let y = north.some refl in record { to = record { x = at.x + 1; y = at.y - 1 }; target = (refl, omega arith) }
has_target at E west north = record { to = record { x = at.x + 1; y = at.y }; target = (refl, refl) }
has_target at SE west north = record { to = record { x = at.x + 1; y = at.y + 1 }; target = (refl, refl) }
has_target at S west north = record { to = record { x = at.x; y = at.y + 1 }; target = (refl, refl) }
has_target at SW west north = let x = west.some refl in record { to = record { x = at.x - 1; y = at.y + 1 }; target = (omega arith, refl) }
has_target at W west north = let x = west.some refl in record { to = record { x = at.x - 1; y = at.y }; target = (omega arith, refl) }
has_target at NW west north =
    let x = west.some refl in let y = north.some refl in record { to = record { x = at.x - 1; y = at.y - 1 }; target = (omega arith, omega arith) }

-- a move to the west leads nowhere from the first column
pub below_west : (at : Cell) (by : Move) → goes_west by ≡ true → at.x ≡ 0 → LeadsBelow at by
below_west at N west first = absurd cc
below_west at NE west first = absurd cc
below_west at E west first = absurd cc
below_west at SE west first = absurd cc
below_west at S west first = absurd cc
below_west at SW west first = record { none = λ to target. let x = target.0 in omega arith }
below_west at W west first = record { none = λ to target. let x = target.0 in omega arith }
below_west at NW west first = record { none = λ to target. let x = target.0 in omega arith }

-- nor does one to the north from the first row
pub below_north : (at : Cell) (by : Move) → goes_north by ≡ true → at.y ≡ 0 → LeadsBelow at by
below_north at N north first = record { none = λ to target. let y = target.1 in omega arith }
below_north at NE north first = record { none = λ to target. let y = target.1 in omega arith }
below_north at E north first = absurd cc
below_north at SE north first = absurd cc
below_north at S north first = absurd cc
below_north at SW north first = absurd cc
below_north at W north first = absurd cc
below_north at NW north first = record { none = λ to target. let y = target.1 in omega arith }

pub off_west : (at : Cell) (by : Move) → goes_west by ≡ true → MatchBool (eqb at.x 0) (LeadsBelow at by) (HasWest at by)
off_west at by west =
    elim (cases_Bool (eqb at.x 0)) [
      | inl zero_x ↦ rw zero_x (below_west at by west (eqb-true at.x 0 zero_x))
      | inr some ↦ rw some (record { some = λ w. (let apart = eqb-false at.x 0 some in omega arith) })
    ]

pub off_north : (at : Cell) (by : Move) → goes_north by ≡ true → MatchBool (eqb at.y 0) (LeadsBelow at by) (HasNorth at by)
off_north at by north =
    elim (cases_Bool (eqb at.y 0)) [
      | inl zero_y ↦ rw zero_y (below_north at by north (eqb-true at.y 0 zero_y))
      | inr some ↦ rw some (record { some = λ w. (let apart = eqb-false at.y 0 some in omega arith) })
    ]

-- a move that leads off neither side leads somewhere
pub off_neither : (at : Cell) (by : Move) (north : Bool) → HasWest at by → MatchBool north (LeadsBelow at by) (HasNorth at by)
    → MatchBool north (LeadsBelow at by) (HasTarget at by)
off_neither at by true west below = below
off_neither at by false west north = has_target at by west north
