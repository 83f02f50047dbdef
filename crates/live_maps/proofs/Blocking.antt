-- What bits make of a map.
use Rattle.std.proofs.Common.{◌≡◌, ◌↔◌, ℕ, false, List, length, map, get_or, refl, sym, ap, ◌∙◌, inl, inr, arith}
use Rattle.std.specs.List.{range_with_len}
use Rattle.std.proofs.lemmas.Bool.{cases_Bool, cases_lt, false≢true}
use Rattle.std.proofs.lemmas.List.{get_or-map, get_or_past, length-map}
use Rattle.std.proofs.lemmas.List.FromFn.{get_or-map-range_with_len, length-map-range_with_len}
use Rattle.moves.specs.declared.Cell.{Cell}
use Rattle.moves.specs.declared.Terrain.{Terrain}
use Rattle.moves.specs.declared.Terrain.TheVariants.{Blocked}
use Rattle.moves.specs.Maps.{Map, IsInside, IsPassable, is_passable, place_of, terrain_of}
use Rattle.live_maps.specs.Live.{IsLive, is_marked, terrain_now, live_map}

-- what stands at a place of the live map
pub now_at : (m : Map) (bits : List ℕ) (place : ℕ) → get_or (live_map m bits).terrain place Blocked ≡ terrain_now m bits place
unfolding live_map
now_at m bits place = elim (cases_lt place (length m.terrain)) [
  | inl within ↦ get_or-map-range_with_len (terrain_now m bits) 0 (length m.terrain) place place Blocked within (omega arith)
  | inr past ↦
      get_or_past (map (terrain_now m bits) (range_with_len 0 (length m.terrain))) place Blocked
      (omega (arith, length-map-range_with_len (terrain_now m bits) 0 (length m.terrain)))
      ∙ sym (elim (cases_Bool (is_marked bits place)) [
        | inl marked ↦ rw marked refl
        | inr free ↦ rw free (get_or_past m.terrain place Blocked past)
      ])
]

-- whether a cell is passable shows in what stands there
read_passable : (terrain : List Terrain) (place : ℕ) → get_or (map is_passable terrain) place false ≡ is_passable (get_or terrain place Blocked)
read_passable terrain place = elim (cases_lt place (length terrain)) [
  | inl within ↦ get_or-map is_passable terrain place Blocked false within
  | inr past ↦
      get_or_past (map is_passable terrain) place false (omega (arith, length-map terrain is_passable))
      ∙ sym (ap is_passable (get_or_past terrain place Blocked past))
]

same_sides : (m : Map) (bits : List ℕ) → ((live_map m bits).width ≡ m.width) × ((live_map m bits).height ≡ m.height)
unfolding live_map
same_sides m bits = (refl, refl)

module _ (m : Map) (bits : List ℕ) where
  pub terrain_live : (cell : Cell) → terrain_of (live_map m bits) cell ≡ terrain_now m bits (place_of m.width cell)
  terrain_live cell = rw (same_sides m bits).0 (now_at m bits (place_of m.width cell))

  -- a cell that is passable now has no bit set
  pub unmarked : (cell : Cell) → IsPassable (live_map m bits) cell → is_marked bits (place_of m.width cell) ≡ false
  unmarked cell free = elim (cases_Bool (is_marked bits (place_of m.width cell))) [
    | inl marked ↦
        let there : terrain_of (live_map m bits) cell ≡ Blocked = terrain_live cell ∙ rw marked refl in
        absurd (false≢true (sym (read_passable (live_map m bits).terrain (place_of (live_map m bits).width cell) ∙ ap is_passable there) ∙ free.passable))
    | inr clear ↦ clear
  ]

  -- at a cell whose bit is not set stands what stood there
  pub terrain_kept : (cell : Cell) → is_marked bits (place_of m.width cell) ≡ false → terrain_of (live_map m bits) cell ≡ terrain_of m cell
  terrain_kept cell clear = terrain_live cell ∙ rw clear refl

  pub inside_before : (cell : Cell) → IsInside (live_map m bits) cell → IsInside m cell
  inside_before cell inside = record { column = rw (← (same_sides m bits).0) inside.column; row = rw (← (same_sides m bits).1) inside.row }

  pub inside_now : (cell : Cell) → IsInside m cell → IsInside (live_map m bits) cell
  inside_now cell inside = record { column = rw (same_sides m bits).0 inside.column; row = rw (same_sides m bits).1 inside.row }

  pub passable_before : (cell : Cell) → IsPassable (live_map m bits) cell → IsPassable m cell
  passable_before cell free = record {
    inside = inside_before cell free.inside;
    passable =
        read_passable m.terrain (place_of m.width cell) ∙ ap is_passable (sym (terrain_kept cell (unmarked cell free)))
        ∙ sym (read_passable (live_map m bits).terrain (place_of (live_map m bits).width cell)) ∙ free.passable;
  }

  pub passable_now : (cell : Cell) → IsPassable m cell → is_marked bits (place_of m.width cell) ≡ false → IsPassable (live_map m bits) cell
  passable_now cell free clear = record {
    inside = inside_now cell free.inside;
    passable =
        read_passable (live_map m bits).terrain (place_of (live_map m bits).width cell) ∙ ap is_passable (terrain_kept cell clear)
        ∙ sym (read_passable m.terrain (place_of m.width cell)) ∙ free.passable;
  }

  pub bits_block : (cell : Cell) → IsPassable (live_map m bits) cell ↔ (IsPassable m cell × (is_marked bits (place_of m.width cell) ≡ false))
  bits_block cell = (λ free. (passable_before cell free, unmarked cell free), λ both. passable_now cell both.0 both.1)

  pub bits_make_live : IsLive m (live_map m bits)
  bits_make_live = record {
    columns = (same_sides m bits).0;
    rows = (same_sides m bits).1;
    passable = passable_before;
    same = λ cell free. terrain_kept cell (unmarked cell free);
  }
