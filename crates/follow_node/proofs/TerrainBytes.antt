-- The terrain of cells, a byte each.
use Rattle.std.proofs.Common.{◌≡◌, ℕ, zero, suc, ◌+◌, ◌<◌, ◌≤◌, List, [], ◌∷◌, ◌++◌, length, map, take, drop, slice_index, refl, sym, ap, ap₂, ◌∙◌, arith}
use Rattle.std.proofs.lemmas.List.{take_all, take_more, map-append}
use Rattle.moves.specs.declared.Terrain.{Terrain}
use Rattle.moves.specs.declared.Terrain.TheVariants.{Blocked, Land, Water}
use Rattle.query_proto.specs.Frames.{terrain_byte}
use Rattle.follow_node.specs.Reading.{SpellNoTerrain}

terrain_low : (terrain : Terrain) → terrain_byte terrain ≤ 2
terrain_low Blocked = omega arith
terrain_low Land = omega arith
terrain_low Water = omega arith

all_low : (terrain : List Terrain) (place : ℕ) → slice_index (map terrain_byte terrain) place ≤ 2
all_low [] place = omega arith
all_low (first ∷ terrain) zero = terrain_low first
all_low (first ∷ terrain) (suc place) = all_low terrain place

pub no_terrain : (bytes : List ℕ) (place : ℕ) → 2 < slice_index bytes place → SpellNoTerrain bytes
no_terrain bytes place high terrain e =
    let same : slice_index bytes place ≡ slice_index (map terrain_byte terrain) place = ap (λ l. slice_index l place) e in
    omega (arith, same, high, all_low terrain place)

pub same_one : (one other : Terrain) → terrain_byte one ≡ terrain_byte other → one ≡ other
same_one Blocked Blocked e = refl
same_one Blocked Land e = absurd (omega (arith, e))
same_one Blocked Water e = absurd (omega (arith, e))
same_one Land Blocked e = absurd (omega (arith, e))
same_one Land Land e = refl
same_one Land Water e = absurd (omega (arith, e))
same_one Water Blocked e = absurd (omega (arith, e))
same_one Water Land e = absurd (omega (arith, e))
same_one Water Water e = refl

-- cells with the same bytes are the same
pub same_terrain : (one other : List Terrain) → map terrain_byte one ≡ map terrain_byte other → one ≡ other
same_terrain [] [] e = refl
same_terrain [] (y ∷ other) e = let long : 0 ≡ suc (length (map terrain_byte other)) = ap length e in absurd (omega (arith, long))
same_terrain (x ∷ one) [] e = let long : suc (length (map terrain_byte one)) ≡ 0 = ap length e in absurd (omega (arith, long))
same_terrain (x ∷ one) (y ∷ other) e =
    ap₂ (λ a l. a ∷ l) (same_one x y (ap (λ l. slice_index l 0) e)) (same_terrain one other (ap (drop 1) e))

-- the cells of the first so many bytes were read
pub record IsReadTo (bytes : List ℕ) (terrain : List Terrain) (place : ℕ) : Type 0 where
  pub is : take place bytes ≡ map terrain_byte terrain

pub none_read : (bytes : List ℕ) (terrain : List Terrain) → terrain ≡ [] → IsReadTo bytes terrain 0
none_read bytes terrain none = record { is = ap (map terrain_byte) (sym none) }

pub one_more_read : (bytes : List ℕ) (terrain after : List Terrain) (place : ℕ) (next : Terrain) → IsReadTo bytes terrain place → place < length bytes
    → after ≡ terrain ++ next ∷ [] → slice_index bytes place ≡ terrain_byte next → IsReadTo bytes after (place + 1)
one_more_read bytes terrain after place next p below is e = record {
  is = take_more bytes place 0 below ∙ ap₂ (λ l b. l ++ b ∷ []) p.is e ∙ sym (map-append terrain_byte terrain (next ∷ []))
      ∙ ap (map terrain_byte) (sym is);
}

pub all_read : (bytes : List ℕ) (terrain : List Terrain) (place : ℕ) → IsReadTo bytes terrain place → length bytes ≤ place → bytes ≡ map terrain_byte terrain
all_read bytes terrain place p past = sym (take_all place bytes past) ∙ p.is
