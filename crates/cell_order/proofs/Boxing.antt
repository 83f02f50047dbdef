-- Marks on the cells of a rectangle.
use Rattle.std.proofs.Common.{◌≡◌, ℕ, ◌+◌, ◌*◌, ◌<◌, ◌⊎◌, ◌↔◌, Bool, true, false, List, [], ◌∷◌, ◌++◌, length, get_or, set, take, replicate, sym, ap, ◌∙◌, subst, inl, inr, arith}
use Rattle.std.specs.List.{Contains}
use Rattle.std.proofs.lemmas.Bool.{cases_eq, false≢true}
use Rattle.std.proofs.lemmas.List.{get_or-set_same, get_or-set_other, length-set, get_or-replicate, take_more}
use Rattle.std.proofs.lemmas.List.Elements.{Contains-push_cases, Contains-push, Contains-append_left}
use Rattle.moves.specs.declared.Cell.{Cell}
use Rattle.moves.specs.Rectangles.{IsWithin, place_in}
use Rattle.moves.proofs.Rectangles.{same_place, place_below}
use Rattle.cell_order.specs.Boxes.{Box, IsMarked, with_mark}

-- which cells are marked after one mark is changed
pub marked_cases : (box : Box) (cell : Cell) (mark : Bool) (c : Cell) → length box.marks ≡ box.area.width * box.area.height
    → IsWithin box.area cell → IsWithin box.area c
    → ((c ≡ cell) × (get_or (with_mark box cell mark).marks (place_in box.area c) false ≡ mark))
    ⊎ ((c ≡ cell → ⊥) × (get_or (with_mark box cell mark).marks (place_in box.area c) false ≡ get_or box.marks (place_in box.area c) false))
marked_cases box cell mark c size within inside =
    let below = place_below box.area cell within in
    elim (cases_eq (place_in box.area c) (place_in box.area cell)) [
      | inl same ↦
          inl (
            same_place box.area c cell inside within same,
            ap (λ k. get_or (set box.marks (place_in box.area cell) mark) k false) same ∙ get_or-set_same box.marks (place_in box.area cell) mark false (omega arith),
          )
      | inr other ↦ inr ((λ e. other (ap (place_in box.area) e)), get_or-set_other box.marks (place_in box.area cell) (place_in box.area c) mark false other)
    ]

-- a cell more is marked
pub marked_more : (box : Box) (cell : Cell) (c : Cell) → length box.marks ≡ box.area.width * box.area.height → IsWithin box.area cell
    → IsMarked (with_mark box cell true) c ↔ (IsMarked box c ⊎ (c ≡ cell))
marked_more box cell c size within = (
  λ m.
      let inside : IsWithin box.area c = m.within in
      elim (marked_cases box cell true c size within inside) [
        | inl here ↦ inr here.0
        | inr there ↦ inl (record { within = inside; marked = sym there.1 ∙ m.marked })
      ],
  λ m.
      let again = λ (d : Cell) (inside : IsWithin box.area d) (marked : get_or (with_mark box cell true).marks (place_in box.area d) false ≡ true).
      let r : IsMarked (with_mark box cell true) d = record { within = inside; marked = marked } in
      r in
      elim m [
        | inl before ↦
            elim (marked_cases box cell true c size within before.within) [
              | inl here ↦ again c before.within here.1
              | inr there ↦ again c before.within (there.1 ∙ before.marked)
            ]
        | inr same ↦
            let inside : IsWithin box.area c = subst (IsWithin box.area) (sym same) within in
            elim (marked_cases box cell true c size within inside) [
              | inl here ↦ again c inside here.1
              | inr there ↦ absurd (there.0 same)
            ]
      ],
)

-- a cell fewer is marked
pub marked_fewer : (box : Box) (cell : Cell) (c : Cell) → length box.marks ≡ box.area.width * box.area.height → IsWithin box.area cell
    → IsMarked (with_mark box cell false) c ↔ (IsMarked box c × (c ≡ cell → ⊥))
marked_fewer box cell c size within = (
  λ m.
      let inside : IsWithin box.area c = m.within in
      elim (marked_cases box cell false c size within inside) [
        | inl here ↦ absurd (false≢true (sym here.1 ∙ m.marked))
        | inr there ↦ (record { within = inside; marked = sym there.1 ∙ m.marked }, there.0)
      ],
  λ m.
      elim (marked_cases box cell false c size within m.0.within) [
        | inl here ↦ absurd (m.1 here.0)
        | inr there ↦
            record { within = m.0.within; marked = there.1 ∙ m.0.marked }
      ],
)

-- no cell is marked at first
pub none_marked : (box : Box) (c : Cell) → box.marks ≡ replicate (box.area.width * box.area.height) false → IsMarked box c → ⊥
none_marked box c none m =
    let below = place_below box.area c m.within in
    let blank : get_or box.marks (place_in box.area c) false ≡ false =
    ap (λ xs. get_or xs (place_in box.area c) false) none ∙ get_or-replicate (box.area.width * box.area.height) (place_in box.area c) false false below in
    false≢true (sym blank ∙ m.marked)

-- the rectangle is the old one, and its marks are on the cells up to a place
pub record IsMarking (cells : List Cell) (place : ℕ) (old box : Box) : Type 0 where
  pub size : length box.marks ≡ box.area.width * box.area.height
  pub same_area : box.area ≡ old.area
  pub marked : (c : Cell) → IsMarked box c ↔ Contains (take place cells) c

pub marking_more : (cells : List Cell) (place : ℕ) (old box : Box) (cell : Cell) → IsMarking cells place old box
    → place < length cells → cell ≡ get_or cells place cell → IsWithin old.area cell
    → IsMarking cells (place + 1) old (with_mark box cell true)
marking_more cells place old box cell p less at within =
    let inside : IsWithin box.area cell = subst (λ area. IsWithin area cell) (sym p.same_area) within in
    let more : take (place + 1) cells ≡ take place cells ++ cell ∷ [] = take_more cells place cell less ∙ ap (λ c. take place cells ++ c ∷ []) (sym at) in
    record {
      size = length-set box.marks (place_in box.area cell) true ∙ p.size;
      same_area = p.same_area;
      marked = λ c. (
        λ m.
            rw more
            (elim ((marked_more box cell c p.size inside).0 m) [
              | inl before ↦ Contains-append_left (take place cells) (cell ∷ []) c ((p.marked c).0 before)
              | inr same ↦ subst (Contains (take place cells ++ cell ∷ [])) (sym same) (Contains-push (take place cells) cell)
            ]),
        λ has.
            (marked_more box cell c p.size inside).1
            (elim (Contains-push_cases (take place cells) cell c (rw more at has)) [
              | inl before ↦ inl ((p.marked c).1 before)
              | inr same ↦ inr (sym same)
            ]),
      );
    }
