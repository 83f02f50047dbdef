-- What one mark more changes.
use Rattle.std.proofs.Common.{◌≡◌, ℕ, ◌*◌, ◌<◌, ◌⊎◌, false, length, get_or, ap, ◌∙◌, inl, inr, arith}
use Rattle.std.proofs.lemmas.Bool.{cases_eq}
use Rattle.std.proofs.lemmas.List.{get_or-set_same, get_or-set_other, length-map, length-set}
use Rattle.components.specs.declared.TheConstants.{UNLABELLED}
use Rattle.moves.specs.declared.Cell.{Cell}
use Rattle.moves.specs.Maps.{Map, IsInside, is_passable, passable_of, place_of, passable_count}
use Rattle.moves.proofs.RowMajor.{place_inside, same_cell_from_place}
use Rattle.components.specs.Marks.{Marks, label_at, with_mark, count_below}
use Rattle.components.specs.Floods.{IsFresh, IsBalanced}
use Rattle.components.proofs.Counts.{count_below-lt, count_below-set_more, set_cases}

-- the place of a cell that is inside
pub place_within : (map : Map) (s : Marks) (c : Cell) → length s.labels ≡ map.width * map.height → IsInside map c → place_of map.width c < length s.labels
place_within map s c size inside = let p = place_inside map.width map.height c inside.column inside.row in omega arith

-- each cell has a label
pub label_each : (map : Map) (s : Marks) → IsBalanced map s → length s.labels ≡ length (passable_of map)
label_each map s b = omega (arith, b.places, b.whole, length-map map.terrain is_passable)

-- there is room for one fresh cell more
pub room_for : (map : Map) (s : Marks) (c : Cell) → IsBalanced map s → IsFresh map s c → s.count < length s.found
room_for map s c b fresh =
    let within = place_within map s c b.places fresh.passable.inside in
    let less : count_below UNLABELLED s.labels < passable_count map =
    count_below-lt UNLABELLED s.labels (passable_of map) (place_of map.width c) (omega arith) (label_each map s b)
    b.passable within (omega (arith, fresh.unlabelled)) fresh.passable.passable in
    omega (arith, b.count, b.room)

-- the marked cell has the label
pub mark_at : (map : Map) (s : Marks) (c : Cell) (label : ℕ) → length s.labels ≡ map.width * map.height → IsInside map c → label_at map.width (with_mark map.width s c label) c ≡ label
mark_at map s c label size inside = get_or-set_same s.labels (place_of map.width c) label 0 (place_within map s c size inside)

-- the others keep theirs
pub mark_cases : (map : Map) (s : Marks) (c : Cell) (label : ℕ) (d : Cell) → IsInside map c → IsInside map d → (d ≡ c) ⊎ (label_at map.width (with_mark map.width s c label) d ≡ label_at map.width s d)
mark_cases map s c label d inside other =
    elim (cases_eq (place_of map.width d) (place_of map.width c)) [
      | inl same ↦ inl (same_cell_from_place map.width d c other.column inside.column same)
      | inr apart ↦ inr (get_or-set_other s.labels (place_of map.width c) (place_of map.width d) label 0 apart)
    ]

-- one fresh cell more keeps the balance
pub balanced_mark : (map : Map) (s : Marks) (c : Cell) (label : ℕ) → IsBalanced map s → IsFresh map s c → label < UNLABELLED → IsBalanced map (with_mark map.width s c label)
balanced_mark map s c label b fresh low =
    let at : ℕ = place_of map.width c in
    let within = place_within map s c b.places fresh.passable.inside in
    record {
      places = length-set s.labels at label ∙ b.places;
      whole = b.whole;
      room = length-set s.found s.count c ∙ b.room;
      count = omega (arith, b.count, count_below-set_more UNLABELLED s.labels at label within (omega (arith, fresh.unlabelled)) low);
      range = λ k. elim (set_cases s.labels at label k within) [ inl here ↦ omega arith | inr there ↦ omega (arith, b.range k) ];
      passable = λ k less labelled.
          elim (set_cases s.labels at label k within) [
            | inl here ↦ ap (λ n. get_or (passable_of map) n false) here.0 ∙ fresh.passable.passable
            | inr there ↦ b.passable k (let l = length-set s.labels at label in omega arith) (omega arith)
          ];
    }
