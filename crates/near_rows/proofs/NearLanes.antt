-- Near radii and widened sets, lane by lane.
use Rattle.std.proofs.Common.{◌≡◌, ◌≢◌, ◌↔◌, ℕ, ◌+◌, ◌-◌, ◌%◌, ◌<◌, ◌≤◌, cond, eqb, min, max, List, [], length, get_or, slice_index, set, replicate, sym, ap, subst, ◌∙◌, inl, inr, arith}
use Rattle.std.specs.Int.{bit_at}
use Rattle.std.proofs.lemmas.Bool.{cases_eq, cases_lt}
use Rattle.std.proofs.lemmas.Bool.Decides.{nat_tests}
use Rattle.std.proofs.lemmas.List.{get_or-map, get_or-set_same, get_or-set_other, get_or_past, length-map, length-set}
use Rattle.std.proofs.lemmas.Simd.{get_or-replicate}
use Rattle.moves.specs.declared.Cell.{Cell}
use Rattle.moves.specs.declared.Move.{Move}
use Rattle.moves.specs.declared.TheConstants.{MAX_SIDE}
use Rattle.moves.specs.Maps.{Map}
use Rattle.moves.specs.Moves.{number_of}
use Rattle.moves.specs.MoveSets.{Has, IsEmpty}
use Rattle.moves.specs.FirstSetLists.{cell_of, AreFirstSets}
use Rattle.moves.proofs.MovesInSets.{Has-bit, Has-from_bit, Has-none, none_if_tested}
use Rattle.lane_rows.specs.Packed.{sets_in}
use Rattle.lane_rows.proofs.LanePacking.{choice}
use Rattle.near_rows.specs.declared.TheConstants.{MAX_RADIUS}
use Rattle.near_rows.specs.Compass.{IsCompass, IsInSquare}
use Rattle.near_rows.specs.NearRows.{AreWidened, IsNearRadius}
use Rattle.near_rows.specs.Building.{IsNearer, IsRight, IsAstray, IsWidenedSet}
use Rattle.near_rows.specs.Lanes.{source_in}
use Rattle.near_rows.proofs.Compasses.{same_compass, some_compass, no_compass_in_place}
use Rattle.near_rows.proofs.Radii.{IsNearest, nearest_none, nearest_more, nearest_all}
use Rattle.near_rows.proofs.WidenedSets.{widened_each}

-- ---- one cell in one lane

not_empty : (set : ℕ) → set < 256 → set ≢ 0 → IsEmpty set → ⊥
not_empty set byte some empty = let none = (none_if_tested set byte).1 empty in some (grind (arith, nat_tests))

-- a radius that is made less than the distance where the compass move is not in the set
module _ (source cell : Cell) (set radius away right next : ℕ)
    (square : (r : ℕ) → (away ≤ r) ↔ IsInSquare source r cell)
    (shared : (move : Move) → Has right move ↔ (Has set move × IsCompass source move cell))
    (byte : right < 256) (small : radius < 65536) (few : away < 65536)
    (is : next ≡ min radius (cond (eqb right 0) ((away + (65536 - 1)) % 65536) 65535)) where
  limit : ℕ
  limit = cond (eqb right 0) ((away + (65536 - 1)) % 65536) 65535

  limit_here : right ≡ 0 → 0 < away → next ≡ min radius (away - 1)
  limit_here none some =
      let wrapped : (away + (65536 - 1)) % 65536 ≡ away - 1 = omega arith in
      is ∙ ap (min radius) ((choice right 0 ((away + (65536 - 1)) % 65536) 65535).0 none ∙ wrapped)

  none_here : away ≡ 0 → next ≡ radius
  none_here none = elim (cases_eq right 0) [
    | inl empty ↦
        let wrapped : (away + (65536 - 1)) % 65536 ≡ 65535 = omega arith in
        let read = is ∙ ap (min radius) ((choice right 0 ((away + (65536 - 1)) % 65536) 65535).0 empty ∙ wrapped) in
        omega arith
    | inr some ↦ let read = is ∙ ap (min radius) ((choice right 0 ((away + (65536 - 1)) % 65536) 65535).1 some) in omega arith
  ]

  none_astray : right ≢ 0 → next ≡ radius
  none_astray some = let read = is ∙ ap (min radius) ((choice right 0 ((away + (65536 - 1)) % 65536) 65535).1 some) in omega arith

  right_where_some : right ≢ 0 → IsRight source cell set
  right_where_some some move compass = elim (cases_eq (bit_at set (number_of move)) 1) [
    | inl one ↦ Has-from_bit set move one
    | inr other ↦
        absurd (not_empty right byte some (λ its has.
        let both = (shared its).0 has in
        let same = same_compass source its move cell both.1 compass in
        other (Has-bit set move (subst (Has set) same both.0))))
  ]

  apart : 0 < away → source ≢ cell
  apart some same =
      let here : IsInSquare source 0 cell = subst (IsInSquare source 0) same (record { right = omega arith; left = omega arith; bottom = omega arith; top = omega arith }) in
      let none = (square 0).1 here in
      omega arith

  astray_here : right ≡ 0 → 0 < away → IsAstray source cell set
  astray_here none some =
      let compass = some_compass source cell (apart some) in
      record {
        move = compass.0;
        compass = compass.1;
        missing = λ has. Has-none compass.0 (subst (λ s. Has s compass.0) none ((shared compass.0).1 (has, compass.1)));
      }

  pub nearer_lane : IsNearer (radius + 1) source cell set (next + 1)
  nearer_lane = elim (cases_lt 0 away) [
    | inr here ↦
        let none : away ≡ 0 = omega arith in
        let same = none_here none in
        record {
          most = omega arith;
          right = λ r less inside move compass. absurd (no_compass_in_place source move cell ((square 0).0 (omega arith)) compass);
          met = inl (omega arith);
        }
    | inl some ↦ elim (cases_eq right 0) [
      | inr other ↦
          let same = none_astray other in
          record { most = omega arith; right = λ r less inside. right_where_some other; met = inl (omega arith) }
      | inl none ↦
          let same = limit_here none some in
          record {
            most = omega arith;
            right = λ r less inside. (let far = (square r).1 inside in absurd (omega arith));
            met = elim (cases_lt (away - 1) radius) [
              | inl near ↦
                  let next_is : away ≡ next + 1 = omega arith in
                  inr (subst (λ r. IsInSquare source r cell) next_is ((square away).0 (omega arith)), astray_here none some)
              | inr far ↦ inl (omega arith)
            ];
          }
    ]
  ]

-- how far the cell is, by columns and by rows
pub square_lane : (source cell : Cell) (x y across along away radius : ℕ) → x ≡ cell.x → y ≡ cell.y
    → ((across ≤ radius) ↔ ((source.x ≤ x + radius) × (x ≤ source.x + radius)))
    → ((along ≤ radius) ↔ ((source.y ≤ y + radius) × (y ≤ source.y + radius)))
    → away ≡ max across along → (away ≤ radius) ↔ IsInSquare source radius cell
square_lane source cell x y across along away radius column row by_columns by_rows is = (
  λ near.
      (let columns = by_columns.0 (omega arith) in
      let rows = by_rows.0 (omega arith) in
      let right = columns.1 in
      let left = columns.0 in
      let bottom = rows.1 in
      let top = rows.0 in
      record { right = omega arith; left = omega arith; bottom = omega arith; top = omega arith }),
  λ square.
      (let right = square.right in
      let left = square.left in
      let bottom = square.bottom in
      let top = square.top in
      let columns = by_columns.1 (omega arith, omega arith) in
      let rows = by_rows.1 (omega arith, omega arith) in
      omega arith),
)

-- the difference of two numbers, of the greater and the lesser
pub apart_lane : (a b most least rest limit : ℕ) → a < 65536 → b < 65536 → most ≡ max a b → least ≡ min a b → rest ≡ (most + (65536 - least)) % 65536
    → (rest ≤ limit) ↔ ((a ≤ b + limit) × (b ≤ a + limit))
apart_lane a b most least rest limit p q greater lesser is =
    let wrapped : (most + (65536 - least)) % 65536 ≡ most - least = omega arith in (
      λ few. (omega arith, omega arith),
      λ both. (let x = both.0 in let y = both.1 in omega arith),
    )

-- the moves that a set shares with the compass
pub both_lane : (source cell : Cell) (set long compass right : ℕ) (move : Move) → long ≡ set → (Has compass move ↔ IsCompass source move cell)
    → (Has right move ↔ (Has long move × Has compass move)) → Has right move ↔ (Has set move × IsCompass source move cell)
both_lane source cell set long compass right move same one shared = (
  λ has. (let both = shared.0 has in (subst (λ s. Has s move) same both.0, one.0 both.1)),
  λ both. shared.1 (subst (λ s. Has s move) (sym same) both.0, one.1 both.1),
)

pub widened_lane : (source cell : Cell) (set radius away wide : ℕ) → ((away ≤ radius) ↔ IsInSquare source radius cell) → (away ≤ radius → wide ≡ 255)
    → (radius < away → wide ≡ set) → IsWidenedSet source radius cell set wide
widened_lane source cell set radius away wide square inside outside = record {
  inside = λ in_square. inside (square.1 in_square);
  outside = λ out. elim (cases_lt radius away) [
    | inl past ↦ outside past
    | inr near ↦ absurd (out (square.0 (omega arith)))
  ];
}

-- ---- all cells in all lanes

module _ (columns rows : List ℕ) (cells : List Cell) (sets : List (List ℕ)) where
  -- the radii by the cells before a place
  pub record AreNearest (radii : List ℕ) (upto : ℕ) : Type 0 where
    pub each : (lane : ℕ) → lane < 16 → IsNearest (source_in columns rows lane) cells (sets_in sets lane) upto (slice_index radii lane + 1)
    pub bytes : (lane place : ℕ) → lane < 16 → place < upto → slice_index (sets_in sets lane) place < 256

  pub lanes_none : AreNearest (replicate 16 MAX_RADIUS) 0
  lanes_none = record {
    each = λ lane l.
        (let at : slice_index (replicate 16 MAX_RADIUS) lane ≡ MAX_RADIUS = get_or-replicate {A = ℕ} 16 lane MAX_RADIUS 0 l in
        let most : MAX_SIDE ≡ slice_index (replicate 16 MAX_RADIUS) lane + 1 = omega arith in
        subst (IsNearest (source_in columns rows lane) cells (sets_in sets lane) 0) most (nearest_none (source_in columns rows lane) cells (sets_in sets lane)));
    bytes = λ lane place l before. absurd (omega arith);
  }

  module _ (radii next : List ℕ) (upto : ℕ) (p : AreNearest radii upto) (within : upto < length cells) (size : length sets ≡ length cells) where
    read : (lane : ℕ) → slice_index (sets_in sets lane) upto ≡ slice_index (get_or sets upto []) lane
    read lane = get_or-map (λ row. slice_index row lane) sets upto [] 0 (omega arith)

    pub lanes_more : ((lane : ℕ) → lane < 16
        → IsNearer (slice_index radii lane + 1) (source_in columns rows lane) (cell_of cells upto) (slice_index (get_or sets upto []) lane) (slice_index next lane + 1))
        → ((lane : ℕ) → lane < 16 → slice_index (get_or sets upto []) lane < 256) → AreNearest next (upto + 1)
    lanes_more nearer byte = record {
      each = λ lane l.
          nearest_more (source_in columns rows lane) cells (sets_in sets lane) upto (slice_index radii lane + 1) (slice_index next lane + 1) (p.each lane l) within
          (subst (λ s. IsNearer (slice_index radii lane + 1) (source_in columns rows lane) (cell_of cells upto) s (slice_index next lane + 1)) (sym (read lane)) (nearer lane l));
      bytes = λ lane place l before. elim (cases_lt place upto) [
        | inl early ↦ p.bytes lane place l early
        | inr late ↦
            let at : place ≡ upto = omega arith in
            let here = byte lane l in
            let is = read lane in
            rw at (omega arith)
      ];
    }

  module _ (radii : List ℕ) (upto : ℕ) (p : AreNearest radii upto) (all : upto ≡ length cells) where
    pub lanes_radius : (lane : ℕ) (map : Map) → lane < 16 → AreFirstSets map (source_in columns rows lane) cells (sets_in sets lane)
        → IsNearRadius map cells (source_in columns rows lane) (slice_index radii lane)
    lanes_radius lane map l first =
        let same : slice_index radii lane + 1 - 1 ≡ slice_index radii lane = omega arith in
        subst (IsNearRadius map cells (source_in columns rows lane)) same
        (nearest_all (source_in columns rows lane) cells (sets_in sets lane) upto (slice_index radii lane + 1) (p.each lane l) all map first)

    pub lanes_bytes : length sets ≡ length cells → (lane place : ℕ) → lane < 16 → slice_index (sets_in sets lane) place < 256
    lanes_bytes size lane place l = elim (cases_lt place upto) [
      | inl before ↦ p.bytes lane place l before
      | inr past ↦
          let long = length-map sets (λ row. slice_index row lane) in
          let none = get_or_past (sets_in sets lane) place 0 (omega arith) in
          omega (arith, none)
    ]

  -- the sets before a place are widened
  pub record AreWidening (radii : List ℕ) (wide : List (List ℕ)) (upto : ℕ) : Type 0 where
    pub whole : length wide ≡ length cells
    pub done : (lane place : ℕ) → lane < 16 → place < upto
        → IsWidenedSet (source_in columns rows lane) (slice_index radii lane) (cell_of cells place) (slice_index (sets_in sets lane) place) (slice_index (sets_in wide lane) place)

  pub widening_none : (radii : List ℕ) (wide : List (List ℕ)) → length wide ≡ length cells → AreWidening radii wide 0
  widening_none radii wide whole = record { whole = whole; done = λ lane place l before. absurd (omega arith) }

  module _ (radii : List ℕ) (wide : List (List ℕ)) (upto : ℕ) (p : AreWidening radii wide upto) where
    pub widening_more : (value : List ℕ) → upto < length cells → length sets ≡ length cells
        → ((lane : ℕ) → lane < 16
        → IsWidenedSet (source_in columns rows lane) (slice_index radii lane) (cell_of cells upto) (slice_index (get_or sets upto []) lane) (slice_index value lane))
        → AreWidening radii (set wide upto value) (upto + 1)
    widening_more value within size widened = record {
      whole = length-set wide upto value ∙ p.whole;
      done = λ lane place l before.
          (let whole = p.whole in
          let long = length-set wide upto value in
          let there : place < length (set wide upto value) = omega arith in
          let read : slice_index (sets_in (set wide upto value) lane) place ≡ slice_index (get_or (set wide upto value) place []) lane =
          get_or-map (λ row. slice_index row lane) (set wide upto value) place [] 0 there in
          elim (cases_lt place upto) [
            | inl early ↦
                let same = ap (λ row. slice_index row lane) (get_or-set_other wide upto place value [] (λ same. absurd (omega arith))) in
                let was : slice_index (sets_in wide lane) place ≡ slice_index (get_or wide place []) lane = get_or-map (λ row. slice_index row lane) wide place [] 0 (omega arith) in
                subst (IsWidenedSet (source_in columns rows lane) (slice_index radii lane) (cell_of cells place) (slice_index (sets_in sets lane) place))
                (was ∙ sym (read ∙ same)) (p.done lane place l early)
            | inr late ↦
                let at : upto ≡ place = omega arith in
                let same = ap (λ k. slice_index (get_or (set wide upto value) k []) lane) (sym at) ∙ ap (λ row. slice_index row lane) (get_or-set_same wide upto value [] (omega arith)) in
                let old : slice_index (sets_in sets lane) place ≡ slice_index (get_or sets upto []) lane =
                ap (slice_index (sets_in sets lane)) (sym at) ∙ get_or-map (λ row. slice_index row lane) sets upto [] 0 (omega arith) in
                subst (IsWidenedSet (source_in columns rows lane) (slice_index radii lane) (cell_of cells place) (slice_index (sets_in sets lane) place)) (sym (read ∙ same))
                (subst (λ s. IsWidenedSet (source_in columns rows lane) (slice_index radii lane) (cell_of cells place) s (slice_index value lane)) (sym old)
                (subst (λ k. IsWidenedSet (source_in columns rows lane) (slice_index radii lane) (cell_of cells k) (slice_index (get_or sets upto []) lane) (slice_index value lane)) at
                (widened lane l)))
          ]);
    }

    pub widening_all : upto ≡ length cells → length sets ≡ length cells → (lane : ℕ) (map : Map) → lane < 16 → AreFirstSets map (source_in columns rows lane) cells (sets_in sets lane)
        → AreWidened map (source_in columns rows lane) (slice_index radii lane) cells (sets_in wide lane)
    widening_all all size lane map l first =
        widened_each (source_in columns rows lane) (slice_index radii lane) cells (sets_in sets lane) (sets_in wide lane)
        (length-map wide (λ row. slice_index row lane) ∙ p.whole ∙ sym size ∙ sym (length-map sets (λ row. slice_index row lane)))
        (λ place within. p.done lane place l (omega arith)) map first
