-- The labels of a whole scan list the components.
use Rattle.std.proofs.Common.{◌≡◌, ℕ, ◌*◌, ◌<◌, eqb, List, length, get_or, refl, sym, ap, ◌∙◌, subst, inl, inr, arith, zero-add}
use Rattle.std.specs.List.{Contains}
use Rattle.std.proofs.lemmas.Bool.{cases_eq, eqb-true, eq-eqb}
use Rattle.std.proofs.lemmas.List.{get_or_default}
use Rattle.std.proofs.lemmas.List.Elements.{Contains-get_or}
use Rattle.std.proofs.lemmas.List.FromFn.{get_or-map-range_with_len, length-map-range_with_len}
use Rattle.components.specs.declared.TheConstants.{UNLABELLED}
use Rattle.moves.specs.declared.Cell.{Cell}
use Rattle.moves.specs.Maps.{Map, IsWithinLimits, IsInside, ComesBefore, place_of}
use Rattle.moves.specs.Components.{IsComponent, first_of, IsComponentList}
use Rattle.moves.proofs.StraightPaths.{kept_along}
use Rattle.moves.proofs.LawsOfPaths.{leads_to}
use Rattle.moves.proofs.RowMajor.{passes_where, contained_where, in_order_where, row_inside, place_inside, before_by_place, before_later}
use Rattle.components.specs.Marks.{Marks, label_at}
use Rattle.components.specs.Floods.{IsScanned}
use Rattle.components.specs.Groups.{cells_with, components_of}
use Rattle.components.proofs.Marking.{place_within}
use Rattle.components.proofs.Spreading.{labelled_passable}

-- a cell of a label is inside and has this label
pub its_label : (width height : ℕ) (labels : List ℕ) (label : ℕ) (c : Cell) → 0 < width → length labels ≡ width * height → Contains (cells_with width labels label) c
    → (c.x < width) × (c.y < height) × (get_or labels (place_of width c) 0 ≡ label)
its_label width height labels label c some size has =
    let p = passes_where width (length labels) (λ q. eqb (get_or labels q 0) label) some c has in
    let within = p.place in
    (p.column, row_inside width height c (omega arith), eqb-true (get_or labels (place_of width c) 0) label p.passes)

-- and the other way round
pub has_label : (width height : ℕ) (labels : List ℕ) (label : ℕ) (c : Cell) → 0 < width → length labels ≡ width * height → c.x < width → c.y < height → get_or labels (place_of width c) 0 ≡ label
    → Contains (cells_with width labels label) c
has_label width height labels label c some size column row same =
    let within = place_inside width height c column row in
    contained_where width (length labels) (λ q. eqb (get_or labels q 0) label) some c
    (record { column = column; place = omega arith; passes = eq-eqb (get_or labels (place_of width c) 0) label same })

-- the component with a number
pub component_at : (width : ℕ) (labels : List ℕ) (number label : ℕ) (d : List Cell) → label < number → get_or (components_of width labels number) label d ≡ cells_with width labels label
component_at width labels number label d low = get_or-map-range_with_len (cells_with width labels) 0 number label label d low (zero-add label)

pub component_count : (width : ℕ) (labels : List ℕ) (number : ℕ) → length (components_of width labels number) ≡ number
component_count width labels number = length-map-range_with_len (cells_with width labels) 0 number

module _ (map : Map) (limits : IsWithinLimits map.width map.height) (number : ℕ) (s : Marks) (p : IsScanned map (map.width * map.height) number s) where
  few : number < UNLABELLED
  few = let f = p.few in let l = limits.cells in omega arith

  inside_with : (label : ℕ) (c : Cell) → Contains (cells_with map.width s.labels label) c → IsInside map c × (label_at map.width s c ≡ label)
  inside_with label c has =
      let i = its_label map.width map.height s.labels label c limits.some_columns p.flooded.balanced.places has in
      (record { column = i.0; row = i.1 }, i.2)

  contained : (label : ℕ) (c : Cell) → IsInside map c → label_at map.width s c ≡ label → Contains (cells_with map.width s.labels label) c
  contained label c inside same = has_label map.width map.height s.labels label c limits.some_columns p.flooded.balanced.places inside.column inside.row same

  is_component : (label : ℕ) → label < number → IsComponent map (cells_with map.width s.labels label)
  is_component label low =
      let small = few in
      record {
        some = let r = p.rooted label low in let c = contained label r.0 r.1 r.3 in (let k = c.1 in omega arith);
        passable = λ k d less.
            let i = inside_with label (get_or (cells_with map.width s.labels label) k d) (Contains-get_or (cells_with map.width s.labels label) k d less) in
            labelled_passable map s (get_or (cells_with map.width s.labels label) k d) p.flooded.balanced i.0 (let e = i.1 in omega arith);
        whole = λ from to has.
            let i = inside_with label from has in
            let low_from : label_at map.width s from < UNLABELLED = (let e = i.1 in omega arith) in (
              λ has_to. let j = inside_with label to has_to in p.flooded.joined from to i.0 j.0 low_from (j.1 ∙ sym i.1),
              λ reach.
                  let same : label_at map.width s to ≡ label =
                  kept_along map (λ c. label_at map.width s c ≡ label)
                  (λ a by b straight legal has_label. p.flooded.closed a by b straight legal (omega arith) ∙ has_label)
                  from reach.0 to reach.1 i.1 in
                  contained label to (leads_to map from to reach.0 reach.1).inside same,
            );
        in_order = in_order_where map.width (length s.labels) (λ q. eqb (get_or s.labels q 0) label) limits.some_columns;
      }

  -- the first cell of a label comes before the first cell of a greater one
  first_before : (a b : ℕ) → a < b → b < number → ComesBefore (first_of (cells_with map.width s.labels a)) (first_of (cells_with map.width s.labels b))
  first_before a b less low =
      let small = few in
      let xs : List Cell = cells_with map.width s.labels a in
      let ys : List Cell = cells_with map.width s.labels b in
      let y : Cell = first_of ys in
      let i = inside_with b y (Contains-get_or ys 0 (record { x = 0; y = 0 }) (is_component b low).some) in
      let o = p.ordered y a i.0 (let e = i.1 in omega arith) (let e = i.1 in omega arith) in
      let then_y = before_by_place map.width o.0 y o.1.column i.0.column o.2 in
      let at = contained a o.0 o.1 o.3 in
      elim (cases_eq at.0 0) [
        | inl first ↦
            let e : first_of xs ≡ o.0 =
            get_or_default xs 0 (record { x = 0; y = 0 }) o.0 (let k = at.1 in omega arith) ∙ (ap (λ k. get_or xs k o.0) (sym first) ∙ at.2) in
            subst (λ c. ComesBefore c y) (sym e) then_y
        | inr later ↦
            let e : get_or xs at.0 (record { x = 0; y = 0 }) ≡ o.0 = get_or_default xs at.0 (record { x = 0; y = 0 }) o.0 at.1 ∙ at.2 in
            before_later (first_of xs) o.0 y
            (subst (ComesBefore (first_of xs)) e ((is_component a (omega arith)).in_order 0 at.0 (record { x = 0; y = 0 }) (omega arith) at.1)) then_y
      ]

  pub scanned_lists : IsComponentList map (components_of map.width s.labels number)
  scanned_lists = record {
    each = λ k d less.
        let n = component_count map.width s.labels number in
        rw (component_at map.width s.labels number k d (omega arith)) (is_component k (omega arith));
    every_cell = λ c passable.
        let label : ℕ = label_at map.width s c in
        let n = component_count map.width s.labels number in
        let place = place_within map s c p.flooded.balanced.places passable.inside in
        let labelled : label < UNLABELLED = p.passed c passable (let z = p.flooded.balanced.places in omega arith) in
        let low : label < number = elim (p.flooded.known (place_of map.width c) place) [ inl below ↦ below | inr none ↦ absurd (omega arith) ] in
        (label, cells_with map.width s.labels label, omega arith, component_at map.width s.labels number label (cells_with map.width s.labels label) low, contained label c passable.inside refl);
    in_order = λ i j d less within.
        let n = component_count map.width s.labels number in
        rw (component_at map.width s.labels number i d (omega arith), component_at map.width s.labels number j d (omega arith)) (first_before i j less (omega arith));
  }
