-- Cells that are given as bytes.
use Rattle.std.proofs.Common.{◌≡◌, ℕ, ◌+◌, ◌<◌, ◌≤◌, List, [], ◌∷◌, ◌++◌, length, get_or, map, take, Option, Some, None, refl, sym, ap, subst, ◌∙◌}
use Rattle.std.specs.List.{count_by}
use Rattle.std.proofs.lemmas.List.{map-append, map_more, take_all}
use Rattle.moves.specs.declared.Terrain.{Terrain}
use Rattle.moves.specs.declared.Terrain.TheVariants.{Blocked}
use Rattle.moves.specs.declared.TheConstants.{MAX_PASSABLE}
use Rattle.moves.specs.Maps.{Map, is_passable, passable_count}
use Rattle.bake_words.specs.Cells.{AreCells, terrain_of_byte}

-- one more cell
pub cells_more : (bytes : List ℕ) (place : ℕ) (terrain pushed : List Terrain) (found : Terrain) → place < length bytes → AreCells (take place bytes) terrain
    → terrain_of_byte (get_or bytes place 0) ≡ Some found → pushed ≡ terrain ++ found ∷ [] → AreCells (take (place + 1) bytes) pushed
cells_more bytes place terrain pushed found within same is more =
    map_more terrain_of_byte bytes place 0 within ∙ ap (λ xs. xs ++ terrain_of_byte (get_or bytes place 0) ∷ []) same
    ∙ ap (λ x. map Some terrain ++ x ∷ []) is ∙ sym (map-append Some terrain (found ∷ [])) ∙ ap (map Some) (sym more)

-- all cells
pub cells_all : (bytes : List ℕ) (place : ℕ) (terrain : List Terrain) → length bytes ≤ place → AreCells (take place bytes) terrain → AreCells bytes terrain
cells_all bytes place terrain all same = subst (λ bs. AreCells bs terrain) (take_all place bytes all) same

-- bytes are the cells of one list alone
abbrev terrain_in : Option Terrain → Terrain
terrain_in (Some terrain) = terrain
terrain_in None = Blocked

terrain_back : (xs : List Terrain) → map terrain_in (map Some xs) ≡ xs
terrain_back [] = refl
terrain_back (x ∷ xs) = ap (λ rest. x ∷ rest) (terrain_back xs)

one_terrain : (xs ys : List Terrain) → map Some xs ≡ map Some ys → xs ≡ ys
one_terrain xs ys same = sym (terrain_back xs) ∙ ap (map terrain_in) same ∙ terrain_back ys

-- so maps of the same bytes have as many passable cells
pub as_many : (bytes : List ℕ) (a b : Map) → AreCells bytes a.terrain → AreCells bytes b.terrain → MAX_PASSABLE < passable_count a → MAX_PASSABLE < passable_count b
as_many bytes a b p q many =
    subst (λ terrain. MAX_PASSABLE < count_by (λ passable. passable) (map is_passable terrain)) (one_terrain a.terrain b.terrain (sym p ∙ q)) many
