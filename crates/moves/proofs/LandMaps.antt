-- Maps without water.
use Rattle.std.proofs.Common.{◌≡◌, ℕ, Bool, true, false, List, [], ◌∷◌, length, get_or, map, refl, sym, ap, ◌∙◌, inl, inr}
use Rattle.std.proofs.lemmas.Bool.{cases_lt, false≢true}
use Rattle.std.proofs.lemmas.List.{get_or-map, get_or_past}
use Rattle.moves.specs.declared.Cell.{Cell}
use Rattle.moves.specs.declared.Terrain.TheVariants.{Blocked, Land}
use Rattle.moves.specs.Maps.{IsInside, IsPassable, IsLike, is_passable, land_if, map_with, passable_of, place_of, terrain_of}

passable_if_land : (mark : Bool) → is_passable (land_if mark) ≡ mark
passable_if_land true = refl
passable_if_land false = refl

passable_where : (marks : List Bool) → map is_passable (map land_if marks) ≡ marks
passable_where [] = refl
passable_where (mark ∷ marks) = ap (λ first. first ∷ map is_passable (map land_if marks)) (passable_if_land mark) ∙ ap (λ rest. mark ∷ rest) (passable_where marks)

-- the passable cells of a map that is made of these truth values are those that are true
pub passable_of_land : (width height : ℕ) (marks : List Bool) → passable_of (map_with width height marks) ≡ marks
passable_of_land width height marks = passable_where marks

pub marked_if_passable : (width height : ℕ) (marks : List Bool) (cell : Cell) → IsPassable (map_with width height marks) cell
    → get_or marks (place_of width cell) false ≡ true
marked_if_passable width height marks cell free =
    sym (ap (λ ms. get_or ms (place_of width cell) false) (passable_of_land width height marks)) ∙ free.passable

pub passable_if_marked : (width height : ℕ) (marks : List Bool) (cell : Cell) → IsInside (map_with width height marks) cell
    → get_or marks (place_of width cell) false ≡ true → IsPassable (map_with width height marks) cell
passable_if_marked width height marks cell inside marked = record {
  inside = inside;
  passable = ap (λ ms. get_or ms (place_of width cell) false) (passable_of_land width height marks) ∙ marked;
}

-- and land stands at each of them
pub land_where_passable : (width height : ℕ) (marks : List Bool) (cell : Cell) → IsPassable (map_with width height marks) cell
    → terrain_of (map_with width height marks) cell ≡ Land
land_where_passable width height marks cell free =
    let place = place_of width cell in
    let marked = marked_if_passable width height marks cell free in
    elim (cases_lt place (length marks)) [
      | inl within ↦ get_or-map land_if marks place false Blocked within ∙ ap land_if marked
      | inr past ↦ absurd (false≢true (sym (get_or_past marks place false past) ∙ marked))
    ]

-- so all of them are of one class
pub land_is_like : (width height : ℕ) (marks : List Bool) (cell other : Cell) → IsPassable (map_with width height marks) cell
    → IsPassable (map_with width height marks) other → IsLike (map_with width height marks) cell other
land_is_like width height marks cell other here there = record {
  passable = there;
  same = land_where_passable width height marks other there ∙ sym (land_where_passable width height marks cell here);
}
