-- Cells at which the same stands, in one map or in two.
use Rattle.std.proofs.Common.{◌≡◌, ◌⊎◌, false, List, get_or, sym, ap, ◌∙◌, arith}
use Rattle.std.proofs.Math.ListN.{get_or-map}
use Rattle.std.specs.List.{Contains}
use Rattle.moves.specs.declared.Cell.{Cell}
use Rattle.moves.specs.declared.Terrain.TheVariants.{Blocked}
use Rattle.moves.specs.Maps.{Map, IsInside, IsPassable, IsLike, is_passable, passable_of, place_of, terrain_of}
use Rattle.components.specs.Edits.{HaveSameSides, AreChanged}

-- what stands at a cell says whether it is passable
by_terrain : (map : Map) (c : Cell)
    → get_or (passable_of map) (place_of map.width c) false ≡ is_passable (terrain_of map c)
by_terrain map c = get_or-map is_passable map.terrain (place_of map.width c) Blocked

-- a cell inside at which the same stands as at a passable one
pub like_by_terrain : (map : Map) (c d : Cell) → IsPassable map c → IsInside map d
    → terrain_of map d ≡ terrain_of map c → IsLike map c d
like_by_terrain map c d free inside same = record {
  passable = record {
    inside = inside;
    passable = by_terrain map d ∙ (ap is_passable same ∙ (sym (by_terrain map c) ∙ free.passable));
  };
  same = same;
}

pub sides_back : (a b : Map) → HaveSameSides a b → HaveSameSides b a
sides_back a b sides = record { width = sym sides.width; height = sym sides.height }

module _ (a b : Map) (sides : HaveSameSides a b) where
  pub inside_too : (c : Cell) → IsInside a c → IsInside b c
  inside_too c inside = record {
    column = let w = sides.width in let h = inside.column in omega arith;
    row = let w = sides.height in let h = inside.row in omega arith;
  }

  -- a cell at which the same stands in both maps is passable in both
  pub passable_too : (c : Cell) → terrain_of b c ≡ terrain_of a c → IsPassable a c → IsPassable b c
  passable_too c same free = record {
    inside = inside_too c free.inside;
    passable = by_terrain b c ∙ (ap is_passable same ∙ (sym (by_terrain a c) ∙ free.passable));
  }

  -- two such cells are of one class in both
  pub like_too : (c d : Cell) → terrain_of b c ≡ terrain_of a c → terrain_of b d ≡ terrain_of a d
      → IsLike a c d → IsLike b c d
  like_too c d same_c same_d like = record {
    passable = passable_too d same_d like.passable;
    same = same_d ∙ (like.same ∙ sym same_c);
  }

-- a cell inside the new map is in the list, or the same stands there as before
pub changed_or_same : (old new : Map) → HaveSameSides old new → (changed : List Cell) → AreChanged old new changed
    → (c : Cell) → IsInside new c → Contains changed c ⊎ (terrain_of new c ≡ terrain_of old c)
changed_or_same old new sides changed are c inside = are c (inside_too new old (sides_back old new sides) c inside)
