-- Maps after edits.
use Rattle.std.proofs.Common.{◌≡◌, ◌≢◌, ℕ, suc, ◌<◌, ◌≤◌, ◌+◌, List, [], ◌∷◌, length, get_or, take, All, arith, refl, ap, sym, ◌∙◌}
use Rattle.std.specs.List.{flat_map, fold}
use Rattle.std.proofs.lemmas.List.{length-set, take_all}
use Rattle.std.proofs.lemmas.List.Elements.{All-append}
use Rattle.std.proofs.lemmas.List.Sums.{fold-append, fold_more}
use Rattle.moves.specs.declared.Cell.{Cell}
use Rattle.moves.specs.Maps.{Map, IsInside, place_of, terrain_of}
use Rattle.moves.proofs.Landscapes.{terrain_after}
use Rattle.edit_log.specs.declared.edit.CellChange.{CellChange}
use Rattle.edit_log.specs.declared.edit.Edit.{Edit}
use Rattle.edit_log.specs.Edits.{changed, edited, map_after, ChangesInside, EditsInside}
use Rattle.edit_log.specs.EditLaws.{HasSameSides, EditsKeepSides, EditsGoOn}

same_sides : (a b c : Map) → HasSameSides a b → HasSameSides b c → HasSameSides a c
same_sides a b c p q = record { width = q.width ∙ p.width; height = q.height ∙ p.height; cells = q.cells ∙ p.cells }

one_change_keeps : (map : Map) (change : CellChange) → HasSameSides map (changed map change)
one_change_keeps map change = record {
  width = refl;
  height = refl;
  cells = length-set map.terrain (place_of map.width change.cell) change.terrain;
}

pub edit_keeps_sides : (map : Map) (edit : Edit) → HasSameSides map (edited map edit)
edit_keeps_sides map [] = record { width = refl; height = refl; cells = refl }
edit_keeps_sides map (change ∷ changes) =
    same_sides map (changed map change) (fold changed (changed map change) changes) (one_change_keeps map change) (edit_keeps_sides (changed map change) changes)

pub edits_keep_sides : EditsKeepSides
edits_keep_sides map [] = record { width = refl; height = refl; cells = refl }
edits_keep_sides map (edit ∷ edits) =
    same_sides map (edited map edit) (map_after (edited map edit) edits) (edit_keeps_sides map edit) (edits_keep_sides (edited map edit) edits)

pub edits_go_on : EditsGoOn
edits_go_on map edits more = fold-append edited map edits more

-- what lies inside a map lies inside each of the same sides
pub inside_too : (map other : Map) (cell : Cell) → HasSameSides map other → IsInside map cell → IsInside other cell
inside_too map other cell same inside = record {
  column = omega (arith, inside.column, same.width);
  row = omega (arith, inside.row, same.height);
}

pub changes_inside_too : (map other : Map) (edit : Edit) → HasSameSides map other → ChangesInside map edit → ChangesInside other edit
changes_inside_too map other edit same all = λ k d lt. inside_too map other (get_or edit k d).cell same (all k d lt)

-- at a cell that no change names stands what stood there
pub untouched : (map : Map) (changes : List CellChange) (cell : Cell) → ChangesInside map changes → IsInside map cell
    → All (λ change. cell ≢ change.cell) changes → terrain_of (edited map changes) cell ≡ terrain_of map cell
untouched map [] cell inside here apart = refl
untouched map (change ∷ changes) cell inside here apart =
    let sides : HasSameSides map (changed map change) = one_change_keeps map change in
    untouched (changed map change) changes cell
    (changes_inside_too map (changed map change) changes sides (λ k d lt. inside (suc k) d (omega (arith, lt))))
    (inside_too map (changed map change) cell sides here)
    (λ k d lt. apart (suc k) d (omega (arith, lt)))
    ∙ terrain_after map change.cell cell change.terrain (inside 0 change (omega arith)) here (apart 0 change (omega arith))

-- a loop over changes has made so many of them
pub record IsEditedTo (start : Map) (changes : List CellChange) (count : ℕ) (map : Map) : Type 0 where
  pub whole : ChangesInside start changes
  pub so_far : map ≡ edited start (take count changes)

pub none_edited : (start : Map) (changes : List CellChange) → ChangesInside start changes → IsEditedTo start changes 0 start
none_edited start changes whole = record { whole = whole; so_far = refl }

-- the next changed cell lies inside
pub next_inside : (start map : Map) (changes : List CellChange) (count : ℕ) (d : CellChange) → IsEditedTo start changes count map
    → count < length changes → IsInside map (get_or changes count d).cell
next_inside start map changes count d done below =
    let keeps : HasSameSides start map = rw done.so_far (edit_keeps_sides start (take count changes)) in
    inside_too start map (get_or changes count d).cell keeps (done.whole count d below)

-- and is changed
pub one_more_edited : (start map after : Map) (changes : List CellChange) (count : ℕ) (d : CellChange)
    → IsEditedTo start changes count map → count < length changes → after ≡ changed map (get_or changes count d) → IsEditedTo start changes (count + 1) after
one_more_edited start map after changes count d done below made = record {
  whole = done.whole;
  so_far = made ∙ ap (λ m. changed m (get_or changes count d)) done.so_far ∙ sym (fold_more changed start changes count d below);
}

pub all_edited : (start map : Map) (changes : List CellChange) (count : ℕ) → IsEditedTo start changes count map → length changes ≤ count
    → map ≡ edited start changes
all_edited start map changes count done past = done.so_far ∙ ap (edited start) (take_all count changes past)

-- edits one after the other are all their changes one after the other
pub edits_in_one : (map : Map) (edits : List Edit) → edited map (flat_map (λ edit. edit) edits) ≡ map_after map edits
edits_in_one map [] = refl
edits_in_one map (edit ∷ edits) =
    fold-append changed map edit (flat_map (λ e. e) edits) ∙ edits_in_one (edited map edit) edits

pub all_inside : (map : Map) (edits : List Edit) → EditsInside map edits → ChangesInside map (flat_map (λ edit. edit) edits)
all_inside map [] inside = λ k d lt. absurd (omega (arith, lt))
all_inside map (edit ∷ edits) inside =
    All-append (λ change. IsInside map change.cell) edit (flat_map (λ e. e) edits) (inside 0 edit (omega arith))
    (all_inside map edits (λ k d lt. inside (suc k) d (omega (arith, lt))))
