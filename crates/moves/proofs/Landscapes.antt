-- Places, one changed cell, and masks written cell by cell.
use Rattle.std.proofs.Common.{◌≡◌, ◌≢◌, ℕ, ◌+◌, ◌-◌, ◌*◌, ◌<◌, ◌≤◌, false, List, ◌++◌, length, get_or, set, take, inl, inr, ◌⊎◌, min, arith, subst, sym, ap, refl, ◌∙◌}
use Rattle.std.proofs.lemmas.Bool.{cases_lt}
use Rattle.std.proofs.lemmas.Nat.{same_from_place, mul-add-lt}
use Rattle.std.proofs.lemmas.List.{get_or-map, get_or-set_other, length-set, map-set, take-append-le, take_all}
use Rattle.std.proofs.lemmas.Grind.{get_or-set_at}
use Rattle.moves.specs.declared.Cell.{Cell}
use Rattle.moves.specs.declared.Move.{Move}
use Rattle.moves.specs.declared.Terrain.{Terrain}
use Rattle.moves.specs.declared.Terrain.TheVariants.{Blocked}
use Rattle.moves.specs.Maps.{Map, IsInside, IsPassable, IsLike, is_passable, passable_of, place_of, terrain_of, with_terrain}
use Rattle.moves.specs.Moves.{HasLegal}
use Rattle.moves.specs.MoveMasks.{AreMoveMasks, IsMoveMask, IsWithin, WritesMasks}
use Rattle.moves.proofs.MoveLaws.{same_cell, IsNear, legal_near}

-- two cells inside with one place are one cell
pub same_from_places : (map : Map) (a b : Cell) → IsInside map a → IsInside map b → place_of map.width a ≡ place_of map.width b → a ≡ b
same_from_places map a b ina inb same =
    let parts = same_from_place a.y a.x b.y b.x map.width ina.column inb.column same in
    same_cell a b parts.1 parts.0

-- the place of a cell inside is below the number of cells
pub place_below : (map : Map) (cell : Cell) → IsInside map cell → place_of map.width cell < map.width * map.height
place_below map cell inside = mul-add-lt cell.y map.width cell.x map.height inside.row inside.column

-- at another cell stands what stood there
pub terrain_after : (map : Map) (changed other : Cell) (terrain : Terrain) → IsInside map changed → IsInside map other → other ≢ changed
    → terrain_of (with_terrain map changed terrain) other ≡ terrain_of map other
terrain_after map changed other terrain inside here apart =
    get_or-set_other map.terrain (place_of map.width changed) (place_of map.width other) terrain Blocked
    (λ same. apart (same_from_places map other changed here inside same))

-- a cell is passable where land or water stands there
pub passable_by_terrain : (map : Map) (cell : Cell) → length map.terrain ≡ map.width * map.height → IsInside map cell
    → get_or (passable_of map) (place_of map.width cell) false ≡ is_passable (terrain_of map cell)
passable_by_terrain map cell whole inside =
    get_or-map is_passable map.terrain (place_of map.width cell) Blocked false (omega (arith, place_below map cell inside, whole))

-- what is read at another place of a list with one cell set
read_set : (map : Map) (changed other : Cell) (terrain : Terrain) → (place_of map.width other ≡ place_of map.width changed → ⊥)
    → get_or (passable_of (with_terrain map changed terrain)) (place_of map.width other) false ≡ get_or (passable_of map) (place_of map.width other) false
read_set map changed other terrain apart =
    ap (λ l. get_or l (place_of map.width other) false) (map-set is_passable map.terrain (place_of map.width changed) terrain)
    ∙ get_or-set_other (passable_of map) (place_of map.width changed) (place_of map.width other) (is_passable terrain) false apart

-- another cell is passable where it was
pub passable_after : (map : Map) (changed other : Cell) (terrain : Terrain) → IsInside map changed → other ≢ changed
    → IsPassable map other → IsPassable (with_terrain map changed terrain) other
passable_after map changed other terrain inside apart free = record {
  inside = record { column = free.inside.column; row = free.inside.row };
  passable = read_set map changed other terrain (λ same. apart (same_from_places map other changed free.inside inside same)) ∙ free.passable;
}

pub passable_before : (map : Map) (changed other : Cell) (terrain : Terrain) → IsInside map changed → other ≢ changed
    → IsPassable (with_terrain map changed terrain) other → IsPassable map other
passable_before map changed other terrain inside apart free =
    let here : IsInside map other = record { column = free.inside.column; row = free.inside.row } in
    record {
      inside = here;
      passable = sym (read_set map changed other terrain (λ same. apart (same_from_places map other changed here inside same))) ∙ free.passable;
    }

-- two other cells are of one class where they were
pub like_after : (map : Map) (changed cell other : Cell) (terrain : Terrain) → IsInside map changed → IsInside map cell
    → cell ≢ changed → other ≢ changed → IsLike map cell other → IsLike (with_terrain map changed terrain) cell other
like_after map changed cell other terrain inside here apart_cell apart like = record {
  passable = passable_after map changed other terrain inside apart like.passable;
  same = terrain_after map changed other terrain inside like.passable.inside apart
      ∙ (like.same ∙ sym (terrain_after map changed cell terrain inside here apart_cell));
}

pub like_before : (map : Map) (changed cell other : Cell) (terrain : Terrain) → IsInside map changed → IsInside map cell
    → cell ≢ changed → other ≢ changed → IsLike (with_terrain map changed terrain) cell other → IsLike map cell other
like_before map changed cell other terrain inside here apart_cell apart like =
    let free = passable_before map changed other terrain inside apart like.passable in
    record {
      passable = free;
      same = sym (terrain_after map changed other terrain inside free.inside apart)
          ∙ (like.same ∙ terrain_after map changed cell terrain inside here apart_cell);
    }

near_itself : (a : Cell) → IsNear a a
near_itself a = record { left = omega arith; right = omega arith; above = omega arith; below = omega arith }

-- a cell that is near is not one that is not
apart_if_near : (a b c : Cell) → IsNear a b → (IsNear a c → ⊥) → b ≢ c
apart_if_near a b c near far same = far (subst (IsNear a) same near)

-- each move is as legal as before from a cell that is not near the changed one
pub legal_after : (map : Map) (changed from : Cell) (terrain : Terrain) (move : Move) → IsInside map changed → (IsNear from changed → ⊥)
    → HasLegal map from move → HasLegal (with_terrain map changed terrain) from move
legal_after map changed from terrain move inside far (to, legal) = (
  to,
  legal_near map (with_terrain map changed terrain) from move to
      (λ c near. like_after map changed from c terrain inside legal.leaves.inside (apart_if_near from from changed (near_itself from) far)
      (apart_if_near from c changed near far)) legal,
)

pub legal_before : (map : Map) (changed from : Cell) (terrain : Terrain) (move : Move) → IsInside map changed → (IsNear from changed → ⊥)
    → HasLegal (with_terrain map changed terrain) from move → HasLegal map from move
legal_before map changed from terrain move inside far (to, legal) = (
  to,
  legal_near (with_terrain map changed terrain) map from move to
      (λ c near. like_before map changed from c terrain inside
      (record { column = legal.leaves.inside.column; row = legal.leaves.inside.row }) (apart_if_near from from changed (near_itself from) far)
      (apart_if_near from c changed near far)) legal,
)

-- no cell lies in no columns
pub writes_no_columns : (map : Map) (left top bottom : ℕ) (old : List ℕ) → WritesMasks map left left top bottom old old
writes_no_columns map left top bottom old = record {
  whole = refl;
  within = λ cell here. absurd (omega (arith, here.from_left, here.to_right));
  beyond = λ cell inside away. refl;
}

-- nor in no rows
pub writes_no_rows : (map : Map) (left right top : ℕ) (old : List ℕ) → WritesMasks map left right top top old old
writes_no_rows map left right top old = record {
  whole = refl;
  within = λ cell here. absurd (omega (arith, here.from_top, here.to_bottom));
  beyond = λ cell inside away. refl;
}

-- one cell of the row more
pub writes_cell : (map : Map) (left x y : ℕ) (old mid : List ℕ) (mask place : ℕ) → length old ≡ map.width * map.height
    → left ≤ x → x < map.width → y < map.height → place ≡ y * map.width + x
    → IsMoveMask map (record { x = x; y = y }) mask → WritesMasks map left x y (y + 1) old mid → WritesMasks map left (x + 1) y (y + 1) old (set mid place mask)
writes_cell map left x y old mid mask place whole from column row at legal written =
    let here : Cell = record { x = x; y = y } in
    let inside : IsInside map here = record { column = column; row = row } in
    let room : place < length mid = omega (arith, place_below map here inside, written.whole) in
    record {
      whole = length-set mid place mask ∙ written.whole;
      within = λ cell is. elim (cases_lt cell.x x) [
        | inl less ↦
            let in_cell : IsInside map cell = record { column = omega arith; row = omega (arith, is.to_bottom) } in
            let apart : place_of map.width cell ≢ place = λ same.
            let one = same_from_place cell.y cell.x y x map.width in_cell.column column (same ∙ at) in omega (arith, one.1) in
            rw (get_or-set_other mid place (place_of map.width cell) mask 0 apart)
            (written.within cell (record { from_left = is.from_left; to_right = less; from_top = is.from_top; to_bottom = is.to_bottom }))
        | inr more ↦
            let same : cell ≡ here = same_cell cell here (omega (arith, is.to_right)) (omega (arith, is.from_top, is.to_bottom)) in
            let value : get_or (set mid place mask) (y * map.width + x) 0 ≡ mask = get_or-set_at mid place (y * map.width + x) mask 0 (sym at) room in
            let P : Cell → Type 0 = λ c. IsMoveMask map c (get_or (set mid place mask) (place_of map.width c) 0) in
            subst P (sym same) (rw value legal)
      ];
      beyond = λ cell in_cell away.
          let apart : place_of map.width cell ≢ place = λ same.
          let one = same_from_place cell.y cell.x y x map.width in_cell.column column (same ∙ at) in
          away (record {
            from_left = omega (arith, one.1);
            to_right = omega (arith, one.1);
            from_top = omega (arith, one.0);
            to_bottom = omega (arith, one.0);
          }) in
          get_or-set_other mid place (place_of map.width cell) mask 0 apart
          ∙ written.beyond cell in_cell (λ is. away (record {
            from_left = is.from_left;
            to_right = omega (arith, is.to_right);
            from_top = is.from_top;
            to_bottom = is.to_bottom;
          }));
    }

-- one row more
pub writes_row : (map : Map) (left right top y : ℕ) (old mid new : List ℕ) → right ≤ map.width → y < map.height → top ≤ y
    → WritesMasks map left right top y old mid → WritesMasks map left right y (y + 1) mid new → WritesMasks map left right top (y + 1) old new
writes_row map left right top y old mid new columns row from above here = record {
  whole = here.whole ∙ above.whole;
  within = λ cell is. elim (cases_lt cell.y y) [
    | inl less ↦
        rw (here.beyond cell (record { column = omega (arith, is.to_right); row = omega arith }) (λ at. absurd (omega (arith, at.from_top))))
        (above.within cell (record { from_left = is.from_left; to_right = is.to_right; from_top = is.from_top; to_bottom = less }))
    | inr more ↦ here.within cell (record { from_left = is.from_left; to_right = is.to_right; from_top = more; to_bottom = is.to_bottom })
  ];
  beyond = λ cell inside away.
      here.beyond cell inside (λ at. away (record {
        from_left = at.from_left;
        to_right = at.to_right;
        from_top = omega (arith, at.from_top);
        to_bottom = at.to_bottom;
      }))
      ∙ above.beyond cell inside (λ at. away (record {
        from_left = at.from_left;
        to_right = at.to_right;
        from_top = at.from_top;
        to_bottom = omega (arith, at.to_bottom);
      }));
}

-- all columns and rows
pub writes_all : (map : Map) (old new : List ℕ) → length old ≡ map.width * map.height
    → WritesMasks map 0 map.width 0 map.height old new → AreMoveMasks map new
writes_all map old new whole written = record {
  whole = written.whole ∙ whole;
  each = λ cell inside. written.within cell (record { from_left = omega arith; to_right = inside.column; from_top = omega arith; to_bottom = inside.row });
}

-- a cell lies within or it does not
within_or_not : (left right top bottom : ℕ) (cell : Cell) → IsWithin left right top bottom cell ⊎ (IsWithin left right top bottom cell → ⊥)
within_or_not left right top bottom cell =
    elim (cases_lt cell.x left) [
      | inl a ↦ inr (λ is. absurd (omega (arith, is.from_left)))
      | inr a ↦ elim (cases_lt cell.x right) [
        | inr b ↦ inr (λ is. absurd (omega (arith, is.to_right)))
        | inl b ↦ elim (cases_lt cell.y top) [
          | inl c ↦ inr (λ is. absurd (omega (arith, is.from_top)))
          | inr c ↦ elim (cases_lt cell.y bottom) [
            | inr d ↦ inr (λ is. absurd (omega (arith, is.to_bottom)))
            | inl d ↦ inl (record { from_left = a; to_right = b; from_top = c; to_bottom = d })
          ]
        ]
      ]
    ]

-- the masks round a changed cell were renewed
pub masks_renewed : (map : Map) (changed : Cell) (terrain : Terrain) (old new : List ℕ) → IsInside map changed → AreMoveMasks map old
    → WritesMasks (with_terrain map changed terrain) (changed.x - 1) (min (changed.x + 2) map.width) (changed.y - 1) (min (changed.y + 2) map.height) old new
    → AreMoveMasks (with_terrain map changed terrain) new
masks_renewed map changed terrain old new inside before written = record {
  whole = written.whole ∙ before.whole;
  each = λ cell in_cell. elim (within_or_not (changed.x - 1) (min (changed.x + 2) map.width) (changed.y - 1) (min (changed.y + 2) map.height) cell) [
    | inl here ↦ written.within cell here
    | inr away ↦
        let was : IsInside map cell = record { column = in_cell.column; row = in_cell.row } in
        let far : IsNear cell changed → ⊥ = λ near. away (record {
          from_left = omega (arith, near.right);
          to_right = omega (arith, near.left, in_cell.column);
          from_top = omega (arith, near.below);
          to_bottom = omega (arith, near.above, in_cell.row);
        }) in
        rw (written.beyond cell in_cell away) (λ move. (
          λ is_set. legal_after map changed cell terrain move inside far ((before.each cell was move).0 is_set),
          λ has. (before.each cell was move).1 (legal_before map changed cell terrain move inside far has),
        ))
  ];
}

-- a lent list comes back whole
lent_back : (n : ℕ) (new rest : List ℕ) → n ≡ length new → take n (new ++ rest) ≡ new
lent_back n new rest e = take-append-le n new rest (omega arith) ∙ take_all n new (omega arith)

-- the same in the code's own terms
pub masks_renewed_at : (map after : Map) (changed : Cell) (terrain : Terrain) (left right top bottom n : ℕ) (old lent new rest : List ℕ)
    → after ≡ with_terrain map changed terrain → left ≡ changed.x - 1 → right ≡ min (changed.x + 2) map.width → top ≡ changed.y - 1
    → bottom ≡ min (changed.y + 2) map.height → lent ≡ old → n ≡ length new → IsInside map changed → AreMoveMasks map old
    → WritesMasks after left right top bottom lent new → AreMoveMasks after (take n (new ++ rest))
masks_renewed_at map after changed terrain left right top bottom n old lent new rest ea el er et eb eo en inside before written =
    rw (lent_back n new rest en, ea) (masks_renewed map changed terrain old new inside before (rw (ea, el, er, et, eb, eo) at written))
