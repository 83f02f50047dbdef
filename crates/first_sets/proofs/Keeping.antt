-- What is read from the memory, and what holds of it at the start.
use Rattle.std.proofs.Common.{◌≡◌, ℕ, ◌<◌, ◌↔◌, sym, ap, subst, ◌∙◌, arith, List, length, get_or, replicate}
use Rattle.std.proofs.lemmas.List.{length-replicate}
use Rattle.moves.specs.declared.Cell.{Cell}
use Rattle.moves.specs.declared.Move.{Move}
use Rattle.moves.specs.FirstSets.{IsFirstMove}
use Rattle.moves.specs.Maps.{Map, IsInside, place_of}
use Rattle.moves.specs.MoveSets.{Has, IsEmpty}
use Rattle.moves.specs.Paths.{Reaches}
use Rattle.moves.proofs.BestPaths.{first_move_exists}
use Rattle.moves.proofs.MovesInSets.{Has-none}
use Rattle.moves.proofs.OneValue.{one_value}
use Rattle.grid_search.specs.Kept.{HasRoom}
use Rattle.grid_search.proofs.Keeping.{same_room}
use Rattle.first_sets.specs.Filled.{Filled, set_at, HasFirstSets}
use Rattle.first_sets.specs.Memory.{Sparse, IsNoted, IsKept}
use Rattle.first_sets.specs.Steps.{HaveFirstSets}

-- sets that were just made
pub noted_none : (n : ℕ) (sets places : List ℕ) → sets ≡ replicate n 0 → IsNoted sets places 0
noted_none n sets places e = record {
  counted = omega arith;
  noted = record {
    inside = λ k d l. absurd (omega arith);
    written = λ place move h. absurd (Has-none move (subst (λ s. Has s move) (ap (λ list. get_or list place 0) e ∙ one_value n place 0) h));
  };
}

pub kept_new : (n reach : ℕ) (sparse : Sparse) → HasRoom n reach → sparse ≡ record { sets = replicate n 0; reach = reach } → IsKept 0 0 sparse
kept_new n reach sparse room made = record {
  fits = omega arith;
  reach_room = same_room n reach (length sparse.sets) sparse.reach (ap (λ s. length s.sets) made ∙ length-replicate n 0) (ap (λ s. s.reach) made) room;
}

-- the set of a cell, once the sets are filled
pub first_at : (map : Map) (source : Cell) (filled : Filled) (cell : Cell) (move : Move) (set : ℕ) → cell.x < filled.width → cell.y < filled.height
    → HasFirstSets map source filled → set ≡ set_at filled cell → Has set move ↔ IsFirstMove map source cell move
first_at map source filled cell move set column row has e =
    let wide = has.width in
    let high = has.height in
    let inside : IsInside map cell = record { column = omega arith; row = omega arith } in
    let first = has.first cell move inside in
    (λ h. first.0 (subst (λ s. Has s move) e h), λ f. subst (λ s. Has s move) (sym e) (first.1 f))

-- and no move stands there just where no path leads to the cell
pub empty_at : (map : Map) (source : Cell) (filled : Filled) (cell : Cell) (set : ℕ) → cell.x < filled.width → cell.y < filled.height
    → HasFirstSets map source filled → set ≡ set_at filled cell → IsEmpty set ↔ (Reaches map source cell → ⊥)
empty_at map source filled cell set column row has e = (
  λ empty reaches.
      let some = (first_move_exists map source cell).0 reaches in
      empty some.0 ((first_at map source filled cell some.0 set column row has e).1 some.1),
  λ none move h. none ((first_move_exists map source cell).1 (move, (first_at map source filled cell move set column row has e).0 h)),
)

-- what holds of the memory after a fill
pub noted_again : (sets places sets' places' : List ℕ) (count count' : ℕ) → sets' ≡ sets → places' ≡ places → count' ≡ count → IsNoted sets places count
    → IsNoted sets' places' count'
noted_again sets places sets' places' count count' e f g noted =
    subst (λ s. IsNoted s places' count') (sym e) (subst (λ p. IsNoted sets p count') (sym f) (subst (IsNoted sets places) (sym g) noted))

pub filled_again : (map : Map) (source : Cell) (room w h : ℕ) (sets : List ℕ) → w ≡ map.width → h ≡ map.height → HaveFirstSets map source sets
    → HasFirstSets map source (record { room = room; width = w; height = h; sets = sets })
filled_again map source room w h sets f g first = record {
  width = f;
  height = g;
  first = λ cell move inside.
      subst (λ v. Has (get_or sets (place_of v cell) 0) move ↔ IsFirstMove map source cell move) (sym f) (first cell move inside);
}
