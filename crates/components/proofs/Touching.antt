-- Components that changed cells touch.
use Rattle.std.proofs.Common.{◌≡◌, ℕ, ◌+◌, ◌<◌, Bool, true, false, List, length, get_or, arith}
use Rattle.moves.specs.declared.Cell.{Cell}
use Rattle.moves.specs.declared.Move.{Move}
use Rattle.moves.specs.declared.Move.TheVariants.{N, NE, E, SE, S, SW, W, NW}
use Rattle.moves.specs.Maps.{Map}
use Rattle.moves.specs.Moves.{is_diagonal}
use Rattle.components.specs.Groups.{IsLabelOf}
use Rattle.components.specs.Edits.{IsTouched, KeepsTouched, TouchesBeside, TouchesAround, AreTouched}
use Rattle.components.proofs.Below.{AllBelow, all_below_none, all_below_more, all_below_contained}

-- the four straight moves
pub beside_all : (map : Map) (components : List (List Cell)) (cell : Cell) (touched : List Bool) → TouchesBeside map components cell N touched → TouchesBeside map components cell E touched
    → TouchesBeside map components cell S touched → TouchesBeside map components cell W touched → (by : Move) → is_diagonal by ≡ false → TouchesBeside map components cell by touched
beside_all map components cell touched n e so we N straight = n
beside_all map components cell touched n e so we NE straight = absurd (let h : true ≡ false = straight in cc)
beside_all map components cell touched n e so we E straight = e
beside_all map components cell touched n e so we SE straight = absurd (let h : true ≡ false = straight in cc)
beside_all map components cell touched n e so we S straight = so
beside_all map components cell touched n e so we SW straight = absurd (let h : true ≡ false = straight in cc)
beside_all map components cell touched n e so we W straight = we
beside_all map components cell touched n e so we NW straight = absurd (let h : true ≡ false = straight in cc)

pub beside_later : (map : Map) (components : List (List Cell)) (cell : Cell) (by : Move) (old new : List Bool) → KeepsTouched old new
    → TouchesBeside map components cell by old → TouchesBeside map components cell by new
beside_later map components cell by old new kept t = λ next label target inside is. kept label (t next label target inside is)

pub around_later : (map : Map) (components : List (List Cell)) (cell : Cell) (old new : List Bool) → KeepsTouched old new
    → TouchesAround map components cell old → TouchesAround map components cell new
around_later map components cell old new kept t = record {
  own = λ label inside is. kept label (t.own label inside is);
  beside = λ by inside straight. beside_later map components cell by old new kept (t.beside by inside straight);
}

-- own component first, and then those beside, from one list of marks to the next
pub around_from : (map : Map) (components : List (List Cell)) (cell : Cell) (a b c d e : List Bool)
    → ((label : ℕ) → IsLabelOf components cell label → IsTouched a label) → KeepsTouched a b → TouchesBeside map components cell N b → KeepsTouched b c → TouchesBeside map components cell E c
    → KeepsTouched c d → TouchesBeside map components cell S d → KeepsTouched d e → TouchesBeside map components cell W e → TouchesAround map components cell e
around_from map components cell a b c d e own ab n bc ea cd so de we = record {
  own = λ label inside is. de label (cd label (bc label (ab label (own label is))));
  beside = λ by inside straight.
      beside_all map components cell e
      (beside_later map components cell N b e (λ l h. de l (cd l (bc l h))) n)
      (beside_later map components cell E c e (λ l h. de l (cd l h)) ea)
      (beside_later map components cell S d e de so)
      we by straight;
}

-- what the loop over the changed cells keeps
pub record IsTouching (map : Map) (components : List (List Cell)) (cells : List Cell) (i : ℕ) (touched : List Bool) : Type 0 where
  pub size : length touched ≡ length components
  pub each : AllBelow (λ c. TouchesAround map components c touched) cells i

module _ (map : Map) (components : List (List Cell)) (cells : List Cell) where
  pub touching_start : (touched : List Bool) → length touched ≡ length components → IsTouching map components cells 0 touched
  touching_start touched size = record { size = size; each = all_below_none (λ c. TouchesAround map components c touched) cells }

  pub touching_more : (i : ℕ) (old : List Bool) → IsTouching map components cells i old → (y : Cell) → i < length cells
      → y ≡ get_or cells i y → (new : List Bool) → length new ≡ length old → KeepsTouched old new
      → TouchesAround map components y new → IsTouching map components cells (i + 1) new
  touching_more i old p y within at new size kept around = record {
    size = omega (arith, p.size);
    each = all_below_more (λ c. TouchesAround map components c old) (λ c. TouchesAround map components c new) cells i y within at p.each (λ c t. around_later map components c old new kept t) around;
  }

  pub touching_all : (i : ℕ) (touched : List Bool) → length cells ≡ i → IsTouching map components cells i touched → AreTouched map components cells touched
  touching_all i touched all p = record {
    size = p.size;
    each = λ c has. all_below_contained (λ d. TouchesAround map components d touched) cells i all p.each c has;
  }
