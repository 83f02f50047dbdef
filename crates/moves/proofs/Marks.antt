-- How many cells of a list are passable.
use Rattle.std.proofs.Common.{◌≡◌, ℕ, ◌+◌, ◌<◌, ◌≤◌, cond, List, [], ◌∷◌, length, get_or, map, set, count_by, refl, sym, ap, ◌∙◌}
use Rattle.std.proofs.lemmas.List.Sums.{sum_by-cons, sum_by-set, count_by-le-length}
use Rattle.moves.specs.declared.Terrain.{Terrain}
use Rattle.moves.specs.declared.Terrain.TheVariants.{Blocked}
use Rattle.moves.specs.Maps.{is_passable}

-- one cell is another now
pub recounted : (cells : List Terrain) (place : ℕ) (terrain : Terrain) → place < length cells
    → count_by is_passable (set cells place terrain) + cond {A = ℕ} (is_passable (get_or cells place Blocked)) 1 0
    ≡ count_by is_passable cells + cond {A = ℕ} (is_passable terrain) 1 0
recounted cells place terrain inside = sum_by-set (λ cell. cond (is_passable cell) 1 0) cells place terrain Blocked inside

-- there are no more passable cells than there are cells
pub counted : (cells : List Terrain) → count_by is_passable cells ≤ length cells
counted cells = count_by-le-length is_passable cells

-- they are as many as the truth values that say so
pub count_open : (cells : List Terrain) → count_by is_passable cells ≡ count_by (λ passable. passable) (map is_passable cells)
count_open [] = refl
count_open (cell ∷ cells) =
    sum_by-cons (λ x. cond {A = ℕ} (is_passable x) 1 0) cell cells
    ∙ (ap (λ n. cond {A = ℕ} (is_passable cell) 1 0 + n) (count_open cells)
    ∙ sym (sum_by-cons (λ x. cond {A = ℕ} x 1 0) (is_passable cell) (map is_passable cells)))
