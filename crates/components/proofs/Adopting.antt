-- A component whose cells are known gets its label.
use Rattle.std.proofs.Common.{◌≡◌, ℕ, ◌+◌, ◌<◌, ◌≤◌, List, length, get_or, sym, inl, inr, arith}
use Rattle.std.specs.List.{Contains}
use Rattle.std.proofs.lemmas.Bool.{cases_lt}
use Rattle.std.proofs.lemmas.List.Elements.{All-contains}
use Rattle.components.specs.declared.TheConstants.{UNLABELLED}
use Rattle.moves.specs.declared.Cell.{Cell}
use Rattle.moves.specs.Maps.{Map, IsPassable, place_of}
use Rattle.moves.specs.Components.{IsComponent}
use Rattle.moves.proofs.ComponentLaws.{stays_inside}
use Rattle.components.specs.Marks.{Marks, label_at, with_mark}
use Rattle.components.specs.Floods.{IsFresh, IsSpread, IsFlooded}
use Rattle.components.proofs.Below.{AllBelow, all_below_none, all_below_more, all_below_contained}
use Rattle.components.proofs.Counts.{set_cases}
use Rattle.components.proofs.Marking.{place_within, mark_at}
use Rattle.components.proofs.Spreading.{IsSpreading, spread_start, spread_reached, reached}
use Rattle.components.proofs.Flooding.{flooded_more}

-- the root has the label, and so have the first cells of its component
pub record IsAdopting (map : Map) (label : ℕ) (root : Cell) (old : Marks) (component : List Cell) (i : ℕ) (s : Marks) : Type 0 where
  pub spread : IsSpread map label root old s
  pub marked : AllBelow (λ c. label_at map.width s c < UNLABELLED) component i
  pub least : old.count ≤ s.count

module _ (map : Map) (label : ℕ) (low : label < UNLABELLED) (root : Cell) (old : Marks) (fresh : IsFresh map old root)
    (flooded : IsFlooded map label old) (component : List Cell) (is : IsComponent map component) (has : Contains component root) where
  pub adopting_start : IsAdopting map label root old component 0 (with_mark map.width old root label)
  adopting_start = record {
    spread = spread_start map label low root fresh.passable old flooded fresh.unlabelled;
    marked = all_below_none (λ c. label_at map.width (with_mark map.width old root label) c < UNLABELLED) component;
    least = omega arith;
  }

  module _ (i : ℕ) (s : Marks) (p : IsAdopting map label root old component i s) (y : Cell) (within : i < length component) (at : y ≡ get_or component i y) where
    y_inside : Contains component y
    y_inside = (i, within, sym at)

    y_passable : IsPassable map y
    y_passable = All-contains (IsPassable map) component y is.passable y_inside

    pub adopting_skip : (IsFresh map s y → ⊥) → IsAdopting map label root old component (i + 1) s
    adopting_skip stale = record {
      spread = p.spread;
      marked = all_below_more (λ c. label_at map.width s c < UNLABELLED) (λ c. label_at map.width s c < UNLABELLED) component i y within at p.marked (λ c before. before)
          (elim (cases_lt (label_at map.width s y) UNLABELLED) [
            | inl labelled ↦ labelled
            | inr none ↦ absurd (stale (record { passable = y_passable; unlabelled = (let r = p.spread.balanced.range (place_of map.width y) in omega arith) }))
          ]);
      least = p.least;
    }

    pub adopting_more : IsFresh map s y → IsAdopting map label root old component (i + 1) (with_mark map.width s y label)
    adopting_more now =
        let t : Marks = with_mark map.width s y label in
        let size = p.spread.balanced.places in
        let here = mark_at map s y label size y_passable.inside in
        record {
          spread = spread_reached map label low root fresh.passable old flooded fresh.unlabelled s p.spread y ((is.whole root y has).0 y_inside) now;
          marked = all_below_more (λ c. label_at map.width s c < UNLABELLED) (λ c. label_at map.width t c < UNLABELLED) component i y within at p.marked
              (λ c before.
              elim (set_cases s.labels (place_of map.width y) label (place_of map.width c) (place_within map s y size y_passable.inside)) [
                | inl same ↦ let e = same.1 in omega arith
                | inr other ↦ omega arith
              ])
              (omega arith);
          least = let l = p.least in omega arith;
        }

  module _ (i : ℕ) (s : Marks) (p : IsAdopting map label root old component i s) (all : length component ≡ i) where
    adopted : IsSpreading map label root old s.count s
    adopted = record {
      spread = p.spread;
      least = p.least;
      most = omega arith;
      each = λ c inside same.
          inr (λ by to straight legal.
          let there = (is.whole root c has).1 (reached map label low root fresh.passable old flooded fresh.unlabelled s p.spread c inside same) in
          all_below_contained (λ d. label_at map.width s d < UNLABELLED) component i all p.marked to (stays_inside map component is c by to there legal));
    }

    pub adopted_floods : IsFlooded map (label + 1) s
    adopted_floods = flooded_more map label low root old fresh flooded s.count s adopted (omega arith)
