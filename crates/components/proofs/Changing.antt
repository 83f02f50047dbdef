-- Which cells an edit has changed.
use Rattle.std.proofs.Common.{◌≡◌, List, [], ◌∷◌, ◌++◌, refl, sym, ap, ◌∙◌, subst, inl, inr}
use Rattle.std.specs.List.{Contains}
use Rattle.std.proofs.lemmas.List.Elements.{Contains-append_left, Contains-push}
use Rattle.moves.specs.declared.Cell.{Cell}
use Rattle.moves.specs.declared.Terrain.{Terrain}
use Rattle.moves.specs.Maps.{Map, IsInside, terrain_of, with_terrain}
use Rattle.moves.proofs.TableLaws.{same_or_apart}
use Rattle.moves.proofs.Landscapes.{terrain_after}
use Rattle.components.specs.Edits.{HaveSameSides, AreChanged}
use Rattle.components.proofs.Alike.{inside_too}

-- a map differs from itself nowhere
pub changed_none : (map : Map) → AreChanged map map []
changed_none map = λ c inside. inr refl

pub changed_same : (old new : Map) (changed : List Cell) → new ≡ old → AreChanged old new changed
changed_same old new changed same = λ c inside. inr (ap (λ m. terrain_of m c) same)

-- one cell more is made blocked, land or water
pub changed_more : (old new : Map) (changed : List Cell) → HaveSameSides old new → AreChanged old new changed
    → (cell : Cell) (terrain : Terrain) → IsInside new cell
    → AreChanged old (with_terrain new cell terrain) (changed ++ cell ∷ [])
changed_more old new changed sides are cell terrain inside = λ c here.
    elim (same_or_apart c cell) [
      | inl same ↦ inl (subst (Contains (changed ++ cell ∷ [])) (sym same) (Contains-push changed cell))
      | inr apart ↦
          elim (are c here) [
            | inl has ↦ inl (Contains-append_left changed (cell ∷ []) c has)
            | inr alike ↦ inr (terrain_after new cell c terrain inside (inside_too old new sides c here) apart ∙ alike)
          ]
    ]

-- one cell more is in the list
pub changed_longer : (old new : Map) (changed : List Cell) → AreChanged old new changed → (cell : Cell)
    → AreChanged old new (changed ++ cell ∷ [])
changed_longer old new changed are cell =
    λ c here.
    elim (are c here) [ inl has ↦ inl (Contains-append_left changed (cell ∷ []) c has) | inr alike ↦ inr alike ]
