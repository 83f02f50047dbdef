-- First sets that are widened in the square, one after the other.
use Rattle.std.proofs.Common.{◌≡◌, ℕ, ◌+◌, ◌<◌, ◌≤◌, List, length, get_or, slice_index, set, refl, sym, subst, ◌∙◌, inl, inr, arith}
use Rattle.std.proofs.lemmas.Bool.{cases_lt}
use Rattle.std.proofs.lemmas.List.{get_or-set_same, get_or-set_other, length-set}
use Rattle.std.proofs.lemmas.List.Elements.{All-get_or, All-from_get_or}
use Rattle.moves.specs.declared.Cell.{Cell}
use Rattle.moves.specs.Maps.{Map}
use Rattle.moves.specs.FirstSetLists.{cell_of, AreFirstSets}
use Rattle.near_rows.specs.NearRows.{AreWidened}
use Rattle.near_rows.specs.Building.{IsWidenedSet}
use Rattle.near_rows.proofs.Compasses.{square_or_not}

-- the sets before a place are widened
pub record AreWidenedTo (source : Cell) (radius : ℕ) (cells : List Cell) (old new : List ℕ) (upto : ℕ) : Type 0 where
  pub whole : length new ≡ length old
  pub done : (place : ℕ) → place < upto → IsWidenedSet source radius (cell_of cells place) (slice_index old place) (slice_index new place)
  pub rest : (place : ℕ) → upto ≤ place → slice_index new place ≡ slice_index old place

module _ (source : Cell) (radius : ℕ) (cells : List Cell) (old : List ℕ) where
  pub widened_none : AreWidenedTo source radius cells old old 0
  widened_none = record { whole = refl; done = λ place before. absurd (omega arith); rest = λ place after. refl }

  pub widened_more : (new : List ℕ) (upto value : ℕ) → AreWidenedTo source radius cells old new upto → upto < length new
      → IsWidenedSet source radius (cell_of cells upto) (slice_index new upto) value
      → AreWidenedTo source radius cells old (set new upto value) (upto + 1)
  widened_more new upto value p within is = record {
    whole = length-set new upto value ∙ p.whole;
    done = λ place before. elim (cases_lt place upto) [
      | inl early ↦
          let read : get_or (set new upto value) place 0 ≡ get_or new place 0 = get_or-set_other new upto place value 0 (λ same. absurd (omega arith)) in
          rw read (p.done place early)
      | inr late ↦
          let same : upto ≡ place = omega arith in
          let read : get_or (set new upto value) upto 0 ≡ value = get_or-set_same new upto value 0 within in
          let here : IsWidenedSet source radius (cell_of cells upto) (slice_index old upto) value =
          subst (λ s. IsWidenedSet source radius (cell_of cells upto) s value) (p.rest upto (omega arith)) is in
          subst (λ k. IsWidenedSet source radius (cell_of cells k) (slice_index old k) (get_or (set new upto value) k 0)) same
          (subst (IsWidenedSet source radius (cell_of cells upto) (slice_index old upto)) (sym read) here)
    ];
    rest = λ place after.
        get_or-set_other new upto place value 0 (λ same. absurd (omega arith)) ∙ p.rest place (omega arith);
  }

  -- where all are widened, they are the widened sets
  pub widened_each : (new : List ℕ) → length new ≡ length old
      → ((place : ℕ) → place < length cells → IsWidenedSet source radius (cell_of cells place) (slice_index old place) (slice_index new place))
      → (map : Map) → AreFirstSets map source cells old → AreWidened map source radius cells new
  widened_each new whole done map first = record {
    whole = whole ∙ first.whole;
    bytes = All-from_get_or (λ s. s < 256) new 0 (λ k within.
        let size = first.whole in
        let is = done k (omega arith) in
        elim (square_or_not source radius (cell_of cells k)) [
          | inl square ↦ rw (is.inside square) (omega arith)
          | inr out ↦ rw (is.outside out) (All-get_or (λ s. s < 256) old k 0 (omega arith) first.bytes)
        ]);
    inside = λ place within square. (done place within).inside square;
    outside = λ place within out move. rw ((done place within).outside out) (first.each place within move);
  }

  pub widened_all : (new : List ℕ) (upto : ℕ) → AreWidenedTo source radius cells old new upto → upto ≡ length cells → (map : Map)
      → AreFirstSets map source cells old → AreWidened map source radius cells new
  widened_all new upto p all = widened_each new p.whole (λ place within. p.done place (omega arith))
