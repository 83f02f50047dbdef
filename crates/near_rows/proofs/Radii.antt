-- The near radius of a source, by a pass over its first sets.
use Rattle.std.proofs.Common.{◌≡◌, ◌⊎◌, ℕ, ◌+◌, ◌-◌, ◌<◌, ◌≤◌, List, length, slice_index, refl, sym, subst, ◌∙◌, inl, inr, arith}
use Rattle.std.proofs.lemmas.Bool.{cases_lt}
use Rattle.std.proofs.lemmas.List.{get_or_default}
use Rattle.std.proofs.lemmas.List.Elements.{Contains-get_or}
use Rattle.moves.specs.declared.Cell.{Cell}
use Rattle.moves.specs.declared.TheConstants.{MAX_SIDE}
use Rattle.moves.specs.Maps.{Map}
use Rattle.moves.specs.FirstSets.{IsFirstMove}
use Rattle.moves.specs.FirstSetLists.{cell_of, AreFirstSets}
use Rattle.near_rows.specs.declared.TheConstants.{MAX_RADIUS}
use Rattle.near_rows.specs.Compass.{IsCompass, IsInSquare}
use Rattle.near_rows.specs.NearRows.{IsNearRadius, IsRightWithin}
use Rattle.near_rows.specs.Building.{IsAstray, IsRight, IsNearer}
use Rattle.near_rows.proofs.Compasses.{no_compass_in_place, square_more}

-- to a cell at that distance the compass move is not in the set
pub record IsMet (source : Cell) (cells : List Cell) (sets : List ℕ) (least : ℕ) : Type 0 where
  pub place : ℕ
  pub within : place < length cells
  pub square : IsInSquare source least (cell_of cells place)
  pub astray : IsAstray source (cell_of cells place) (slice_index sets place)

-- the distance of the nearest of the cells before a place whose sets have not the compass move, or one that no cell has
pub record IsNearest (source : Cell) (cells : List Cell) (sets : List ℕ) (upto least : ℕ) : Type 0 where
  pub some : 0 < least
  pub most : least ≤ MAX_SIDE
  pub right : (place radius : ℕ) → place < upto → radius < least → IsInSquare source radius (cell_of cells place)
      → IsRight source (cell_of cells place) (slice_index sets place)
  pub met : (least ≡ MAX_SIDE) ⊎ IsMet source cells sets least

module _ (source : Cell) (cells : List Cell) (sets : List ℕ) where
  pub nearest_none : IsNearest source cells sets 0 MAX_SIDE
  nearest_none = record { some = omega arith; most = omega arith; right = λ place radius before. absurd (omega arith); met = inl refl }

  pub nearest_more : (upto least next : ℕ) → IsNearest source cells sets upto least → upto < length cells
      → IsNearer least source (cell_of cells upto) (slice_index sets upto) next → IsNearest source cells sets (upto + 1) next
  nearest_more upto least next p within q = record {
    some = elim (cases_lt 0 next) [
      | inl above ↦ above
      | inr none ↦ elim q.met [
        | inl same ↦ let above = p.some in absurd (omega arith)
        | inr met ↦
            let here = subst (λ r. IsInSquare source r (cell_of cells upto)) (let e : next ≡ 0 = omega arith in e) met.0 in
            absurd (no_compass_in_place source met.1.move (cell_of cells upto) here met.1.compass)
      ]
    ];
    most = (let a = q.most in let b = p.most in omega arith);
    right = λ place radius before less square. elim (cases_lt place upto) [
      | inl early ↦ p.right place radius early (let a = q.most in omega arith) square
      | inr late ↦
          let same : upto ≡ place = omega arith in
          subst (λ k. IsRight source (cell_of cells k) (slice_index sets k)) same
          (q.right radius less (subst (λ k. IsInSquare source radius (cell_of cells k)) (sym same) square))
    ];
    met = elim q.met [
      | inl same ↦ elim p.met [
        | inl none ↦ inl (same ∙ none)
        | inr met ↦ inr (subst (IsMet source cells sets) (sym same) met)
      ]
      | inr met ↦ inr (record { place = upto; within = within; square = met.0; astray = met.1 })
    ];
  }

  module _ (upto least : ℕ) (p : IsNearest source cells sets upto least) (all : upto ≡ length cells) (map : Map) (first : AreFirstSets map source cells sets) where
    right_below : IsRightWithin map cells source (least - 1)
    right_below cell move has square compass =
        let at : cell_of cells has.0 ≡ cell = get_or_default cells has.0 (record { x = 0; y = 0 }) cell has.1 ∙ has.2 in
        let above = p.some in
        let inside = has.1 in
        let here = subst (IsInSquare source (least - 1)) (sym at) square in
        let set = p.right has.0 (least - 1) (omega arith) (omega arith) here move (subst (IsCompass source move) (sym at) compass) in
        subst (λ c. IsFirstMove map source c move) at ((first.each has.0 inside move).0 set)

    none_greater : (other : ℕ) → other ≤ MAX_RADIUS → IsRightWithin map cells source other → other ≤ least - 1
    none_greater other most right =
        elim (cases_lt other least) [
          | inl below ↦ omega arith
          | inr above ↦ elim p.met [
            | inl none ↦ absurd (omega arith)
            | inr met ↦
                let cell = cell_of cells met.place in
                let has = Contains-get_or cells met.place (record { x = 0; y = 0 }) met.within in
                let square = square_more source least other cell (omega arith) met.square in
                absurd (met.astray.missing ((first.each met.place met.within met.astray.move).1 (right cell met.astray.move has square met.astray.compass)))
          ]
        ]

    pub nearest_all : IsNearRadius map cells source (least - 1)
    nearest_all = record { most = (let a = p.most in omega arith); right = right_below; greatest = none_greater }
