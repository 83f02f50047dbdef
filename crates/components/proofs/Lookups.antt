-- What the labels say of a cell and of a component.
use Rattle.std.proofs.Common.{◌≡◌, ℕ, ◌+◌, ◌-◌, ◌*◌, ◌<◌, List, [], length, get_or, take, drop, refl, sym, ap, ◌∙◌, subst, inl, inr, arith}
use Rattle.std.specs.List.{Contains}
use Rattle.components.specs.declared.TheConstants.{UNLABELLED}
use Rattle.moves.specs.declared.Cell.{Cell}
use Rattle.moves.specs.Maps.{Map, IsWithinLimits, place_of}
use Rattle.moves.specs.Components.{IsComponentList}
use Rattle.moves.proofs.RowMajor.{place_inside}
use Rattle.components.specs.Marks.{Marks}
use Rattle.components.specs.Floods.{IsScanned}
use Rattle.components.specs.Groups.{cells_with, components_of, AreGrouped, IsWhole, IsLabelOf}
use Rattle.components.proofs.Listing.{its_label, has_label, component_at, component_count, scanned_lists}

module _ (width height : ℕ) (labels starts : List ℕ) (cells : List Cell) (p : IsWhole width height labels starts cells)
    (components : List (List Cell)) (view : components_of width labels (length starts - 1) ≡ components) where
  pub how_many : length components ≡ length starts - 1
  how_many = sym (ap length view) ∙ component_count width labels (length starts - 1)

  pub place_is_inside : (cell : Cell) → cell.x < width → cell.y < height → place_of width cell < length labels
  place_is_inside cell column row = let within = place_inside width height cell column row in let size = p.places in omega arith

  -- the component that has a cell is the one that its label says
  pub label_found : (cell : Cell) (label : ℕ) → IsLabelOf components cell label → (cell.x < width) × (cell.y < height) × (get_or labels (place_of width cell) 0 ≡ label) × (label < UNLABELLED)
  label_found cell label is =
      let count = how_many in
      let below = is.below in
      let low : label < length starts - 1 = omega arith in
      let here : get_or components label [] ≡ cells_with width labels label = ap (λ v. get_or v label []) (sym view) ∙ component_at width labels (length starts - 1) label [] low in
      let at = its_label width height labels label cell p.columns p.places (subst (λ xs. Contains xs cell) here is.has) in
      (at.0, at.1, at.2, (let n = p.number in omega arith))

  -- a cell with a label is in the component that this says
  pub label_finds : (cell : Cell) → cell.x < width → cell.y < height → (get_or labels (place_of width cell) 0 ≡ UNLABELLED → ⊥) → IsLabelOf components cell (get_or labels (place_of width cell) 0)
  label_finds cell column row some =
      let count = how_many in
      let label : ℕ = get_or labels (place_of width cell) 0 in
      let low : label < length starts - 1 =
      elim (p.known (place_of width cell) (place_is_inside cell column row)) [ inl below ↦ below | inr none ↦ absurd (some none) ] in
      let here : get_or components label [] ≡ cells_with width labels label = ap (λ v. get_or v label []) (sym view) ∙ component_at width labels (length starts - 1) label [] low in
      record { below = omega arith; has = subst (λ xs. Contains xs cell) (sym here) (has_label width height labels label cell p.columns p.places column row refl) }

  -- the cells of a component stand between two starts
  pub cells_at : (label : ℕ) → label < length components → take (get_or starts (label + 1) 0 - get_or starts label 0) (drop (get_or starts label 0) cells) ≡ get_or components label []
  cells_at label below =
      let count = how_many in
      p.grouped.each label (omega arith) ∙ (sym (component_at width labels (length starts - 1) label [] (omega arith)) ∙ ap (λ v. get_or v label []) view)

-- the parts of a whole scan, as they are stored
module _ (map : Map) (limits : IsWithinLimits map.width map.height) (number : ℕ) (s : Marks) (scanned : IsScanned map (map.width * map.height) number s) (width height : ℕ) (labels starts : List ℕ)
    (width_is : width ≡ map.width) (height_is : height ≡ map.height) (labels_are : labels ≡ s.labels) (size : length starts ≡ number + 1) where
  pub stored_whole : (cells : List Cell) → AreGrouped width labels starts cells → IsWhole width height labels starts cells
  stored_whole cells grouped = record {
    columns = let l = limits.some_columns in omega arith;
    limits = (let l = limits.columns in omega arith, let l = limits.rows in omega arith);
    places = ap length labels_are ∙ (scanned.flooded.balanced.places ∙ rw (width_is, height_is) refl);
    number = (omega arith, let f = scanned.few in let l = limits.cells in omega arith);
    known = rw labels_are (λ place within.
        elim (scanned.flooded.known place within) [
          | inl below ↦ inl (omega arith)
          | inr none ↦ inr none
        ]);
    grouped = grouped;
  }

  pub stored_list : IsComponentList map (components_of width labels (length starts - 1))
  stored_list =
      let count : length starts - 1 ≡ number = omega arith in
      rw (width_is, labels_are, count) (scanned_lists map limits number s scanned)
