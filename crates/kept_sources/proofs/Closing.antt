-- One cell that is blocked, or several, one after the other, leave a part of the map.
use Rattle.std.proofs.Common.{◌≡◌, ◌≢◌, false, List, [], ◌∷◌, length, get_or, set, arith, sym, ap, ◌∙◌, subst, inl, inr}
use Rattle.std.specs.Prelude.{Contains}
use Rattle.std.proofs.lemmas.Bool.{false≢true, cases_lt}
use Rattle.std.proofs.lemmas.List.{get_or_past, get_or-set_same, length-set, map-set}
use Rattle.std.proofs.lemmas.List.Elements.{All-head, All-tail, All-weaker}
use Rattle.std.proofs.lemmas.Map.Made.{Contains-tail}
use Rattle.moves.specs.declared.Cell.{Cell}
use Rattle.moves.specs.declared.Terrain.TheVariants.{Blocked}
use Rattle.moves.specs.Maps.{Map, IsInside, IsPassable, is_passable, passable_of, place_of}
use Rattle.moves.proofs.Landscapes.{like_after, like_before, passable_after, passable_before}
use Rattle.moves.proofs.RowMajor.{contains_later}
use Rattle.moves.proofs.TableLaws.{same_or_apart}
use Rattle.kept_sources.specs.Parts.{without, without_all, IsPart, IsTakenOut, IsWithoutThese, ListsAreTakenOut}

-- ---- one cell

module _ (map : Map) (cell : Cell) (inside : IsInside map cell) where
  -- the cell itself is not passable where it is blocked
  pub none_passable : IsPassable (without map cell) cell → ⊥
  none_passable free =
      let place = place_of map.width cell in
      let bits = passable_of map in
      let read : get_or (passable_of (without map cell)) place false ≡ get_or (set bits place false) place false =
      ap (λ list. get_or list place false) (map-set is_passable map.terrain place Blocked) in
      let none : get_or (set bits place false) place false ≡ false = elim (cases_lt place (length bits)) [
        | inl within ↦ get_or-set_same bits place false false within
        | inr past ↦ get_or_past (set bits place false) place false (omega (arith, length-set bits place false))
      ] in
      false≢true (sym (read ∙ none) ∙ free.passable)

  pub apart_if_passable : (other : Cell) → IsPassable (without map cell) other → other ≢ cell
  apart_if_passable other free same = none_passable (subst (IsPassable (without map cell)) same free)

  pub passable_with : (other : Cell) → IsPassable (without map cell) other → IsPassable map other
  passable_with other free = passable_before map cell other Blocked inside (apart_if_passable other free) free

  pub without_is_part : IsPart map (without map cell)
  without_is_part = record {
    passable = passable_with;
    alike = λ a b in_a in_b.
        let here = (passable_with a in_a).inside in
        let apart = apart_if_passable a in_a in
        let other = apart_if_passable b in_b in
        (like_after map cell a b Blocked inside here apart other, like_before map cell a b Blocked inside here apart other);
  }

  -- no other cell is taken out
  pub only_this : (other : Cell) → IsTakenOut map (without map cell) other → other ≡ cell
  only_this other taken = elim (same_or_apart other cell) [
    | inl same ↦ same
    | inr apart ↦ absurd (taken.gone (passable_after map cell other Blocked inside apart taken.was))
  ]

-- ---- several cells

-- a part of a part is a part
part_of_part : (a b c : Map) → IsPart a b → IsPart b c → IsPart a c
part_of_part a b c first next = record {
  passable = λ cell free. first.passable cell (next.passable cell free);
  alike = λ cell other here there.
      let outer = first.alike cell other (next.passable cell here) (next.passable other there) in
      let inner = next.alike cell other here there in
      (λ like. inner.0 (outer.0 like), λ like. outer.1 (inner.1 like));
}

pub whole_is_part : (map : Map) → IsPart map map
whole_is_part map = record { passable = λ cell free. free; alike = λ cell other here there. (λ like. like, λ like. like) }

module _ (map : Map) (cell : Cell) (cells : List Cell) (inside : IsInside map cell) (later : IsWithoutThese (without map cell) cells (without_all map (cell ∷ cells))) where
  abbrev left : Map
  left = without_all map (cell ∷ cells)

  taken_in_list : (other : Cell) → IsTakenOut map left other → IsPassable map other × Contains (cell ∷ cells) other
  taken_in_list other taken = elim (same_or_apart cell other) [
    | inl same ↦ (taken.was, (0, omega arith, same))
    | inr apart ↦
        let still = passable_after map cell other Blocked inside (λ same. apart (sym same)) taken.was in
        (taken.was, contains_later cell cells other ((later.taken other).0 (record { was = still; gone = taken.gone })).1)
  ]

  listed_is_taken : (other : Cell) → IsPassable map other → Contains (cell ∷ cells) other → IsTakenOut map left other
  listed_is_taken other free listed = elim (same_or_apart cell other) [
    | inl same ↦ record {
      was = free;
      gone = λ still. none_passable map cell inside (subst (IsPassable (without map cell)) (sym same) (later.is_part.passable other still));
    }
    | inr apart ↦
        let still = passable_after map cell other Blocked inside (λ same. apart (sym same)) free in
        let taken = (later.taken other).1 (still, Contains-tail cell cells other apart listed) in
        record { was = free; gone = taken.gone }
  ]

  without_one_more : IsWithoutThese map (cell ∷ cells) left
  without_one_more = record {
    is_part = part_of_part map (without map cell) left (without_is_part map cell inside) later.is_part;
    taken = λ other. (taken_in_list other, λ h. listed_is_taken other h.0 h.1);
  }

pub lists_are_taken_out : ListsAreTakenOut
lists_are_taken_out map [] inside = record {
  is_part = whole_is_part map;
  taken = λ cell. (λ taken. absurd (taken.gone taken.was), λ listed. absurd (let none = listed.1.1 in omega arith));
}
lists_are_taken_out map (cell ∷ cells) inside =
    let here = All-head (IsInside map) cell cells inside in
    let rest = All-weaker (IsInside map) (IsInside (without map cell)) (λ c h. record { column = h.column; row = h.row }) cells (All-tail (IsInside map) cell cells inside) in
    without_one_more map cell cells here (lists_are_taken_out (without map cell) cells rest)
