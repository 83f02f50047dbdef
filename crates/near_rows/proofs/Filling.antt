-- Near rows that are put one by one, in any order.
use Rattle.std.proofs.Common.{◌≡◌, ◌≢◌, ℕ, ◌+◌, ◌<◌, List, [], length, slice_index, sym, ap, subst, ◌∙◌, inl, inr, arith}
use Rattle.std.proofs.lemmas.Bool.{cases_eq, cases_lt}
use Rattle.std.proofs.lemmas.List.{get_or-set_same, get_or-set_other, length-set}
use Rattle.moves.specs.declared.Cell.{Cell}
use Rattle.moves.specs.Maps.{Map}
use Rattle.moves.specs.FirstSetLists.{cell_of}
use Rattle.row_store.specs.Rows.{row_at}
use Rattle.near_rows.specs.NearRows.{Nearby, IsNearAt, AreNear, IsNearRadius, AreWidened}
use Rattle.near_rows.specs.Building.{ArePartly, AreDone, PutsNear, HasBlank}

module _ (map : Map) (cells : List Cell) (old new : Nearby) (place radius : ℕ) (sets : List ℕ) (within : place < length cells) (part : ArePartly map cells old)
    (put : PutsNear old new place radius sets) (is : IsNearRadius map cells (cell_of cells place) radius)
    (widened : AreWidened map (cell_of cells place) radius cells sets) where
  row_here : row_at new.rows place ≡ put.row
  row_here = ap (λ rows. row_at rows place) put.rows ∙ get_or-set_same old.rows place put.row [] (let size = part.rows in omega arith)

  radius_here : slice_index new.radii place ≡ radius
  radius_here = ap (λ radii. slice_index radii place) put.radii ∙ get_or-set_same old.radii place radius 0 (let size = part.radii in omega arith)

  pub put_here : IsNearAt map cells new place
  put_here = record {
    radius = subst (IsNearRadius map cells (cell_of cells place)) (sym radius_here) is;
    row = record {
      sets = sets;
      widened = subst (λ r. AreWidened map (cell_of cells place) r cells sets) (sym radius_here) widened;
      tight = rw row_here put.packed.tight;
    };
  }

  row_other : (k : ℕ) → k ≢ place → row_at new.rows k ≡ row_at old.rows k
  row_other k other = ap (λ rows. row_at rows k) put.rows ∙ get_or-set_other old.rows place k put.row [] other

  radius_other : (k : ℕ) → k ≢ place → slice_index new.radii k ≡ slice_index old.radii k
  radius_other k other = ap (λ radii. slice_index radii k) put.radii ∙ get_or-set_other old.radii place k radius 0 other

  pub put_other : (k : ℕ) → k ≢ place → IsNearAt map cells old k → IsNearAt map cells new k
  put_other k other near = record {
    radius = subst (IsNearRadius map cells (cell_of cells k)) (sym (radius_other k other)) near.radius;
    row = record {
      sets = near.row.sets;
      widened = subst (λ r. AreWidened map (cell_of cells k) r cells near.row.sets) (sym (radius_other k other)) near.row.widened;
      tight = rw (row_other k other) near.row.tight;
    };
  }

  pub part_put : ArePartly map cells new
  part_put = record {
    radii = ap length put.radii ∙ length-set old.radii place radius ∙ part.radii;
    rows = ap length put.rows ∙ length-set old.rows place put.row ∙ part.rows;
    each = λ k inside. elim (cases_eq k place) [
      | inl same ↦ inr (rw same put_here)
      | inr other ↦ elim (part.each k inside) [
        | inl blank ↦ inl (row_other k other ∙ blank)
        | inr near ↦ inr (put_other k other near)
      ]
    ];
  }

pub done_none : (map : Map) (cells : List Cell) (nearby : Nearby) → ArePartly map cells nearby → AreDone map cells 0 nearby
done_none map cells nearby part = record { part = part; done = λ k before. absurd (omega arith) }

pub done_kept : (map : Map) (cells : List Cell) (upto : ℕ) (nearby : Nearby) → AreDone map cells upto nearby → upto < length cells
    → (row_at nearby.rows upto ≡ [] → ⊥) → AreDone map cells (upto + 1) nearby
done_kept map cells upto nearby p within there = record {
  part = p.part;
  done = λ k before. elim (cases_lt k upto) [
    | inl early ↦ p.done k early
    | inr late ↦
        let same : k ≡ upto = omega arith in
        elim (p.part.each upto within) [
          | inl blank ↦ absurd (there blank)
          | inr near ↦ rw same near
        ]
  ];
}

pub done_put : (map : Map) (cells : List Cell) (upto : ℕ) (old new : Nearby) → AreDone map cells upto old → ArePartly map cells new
    → IsNearAt map cells new upto → ((k : ℕ) → k ≢ upto → IsNearAt map cells old k → IsNearAt map cells new k) → AreDone map cells (upto + 1) new
done_put map cells upto old new p part here others = record {
  part = part;
  done = λ k before. elim (cases_lt k upto) [
    | inl early ↦ others k (λ same. absurd (omega arith)) (p.done k early)
    | inr late ↦ let same : k ≡ upto = omega arith in rw same here
  ];
}

pub done_all : (map : Map) (cells : List Cell) (upto : ℕ) (nearby : Nearby) → AreDone map cells upto nearby → upto ≡ length cells → AreNear map cells nearby
done_all map cells upto nearby p all = record {
  radii = p.part.radii;
  rows = p.part.rows;
  each = λ k within. p.done k (omega arith);
}

-- where no row is blank, each is that of its place
pub none_blank : (map : Map) (cells : List Cell) (nearby : Nearby) → ArePartly map cells nearby → (HasBlank nearby.rows → ⊥) → AreNear map cells nearby
none_blank map cells nearby p none = record {
  radii = p.radii;
  rows = p.rows;
  each = λ k within. elim (p.each k within) [
    | inl blank ↦ absurd (none (record { place = k; there = (let size = p.rows in omega arith); blank = blank }))
    | inr near ↦ near
  ];
}
