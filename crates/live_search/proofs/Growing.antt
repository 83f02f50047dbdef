-- What is known stays known: the steps of a search, one after another.
use Rattle.std.proofs.Common.{◌≡◌, ◌≢◌, ℕ, ◌<◌, ◌≤◌, List, refl, sym, ap, subst, ◌∙◌, inl, inr, arith}
use Rattle.std.proofs.lemmas.Bool.{cases_eq}
use Rattle.moves.specs.declared.Cell.{Cell}
use Rattle.live_search.specs.declared.seeking.Seek.{Seek}
use Rattle.path_image.specs.Reading.{cell_of_word}
use Rattle.live_search.specs.Sound.{IsReachedFor}
use Rattle.live_search.specs.State.{Closes, Grows, IsOnlyCheaper, IsSameAt, IsSameState, Knows, Lowers, cost_in, mark_in}

-- a place of which the same is said
pub cheaper_same : (n : ℕ) (old new : List ℕ) (place : ℕ) → IsSameAt n old new place → mark_in old place ≢ 0 → IsOnlyCheaper n old new place
cheaper_same n old new place same known = record {
  known = λ e. known (sym same.mark ∙ e);
  cell = same.cell;
  told = same.told;
  cost = (let c = same.cost in omega arith);
}

pub grows_same : (n : ℕ) (old new : List ℕ) → IsSameState n old new → Grows n old new
grows_same n old new same place within known = cheaper_same n old new place (same place within) known

pub grows_itself : (n : ℕ) (state : List ℕ) → Grows n state state
grows_itself n state place within known = record { known = known; cell = refl; told = refl; cost = omega arith }

pub grows_more : (n : ℕ) (a b c : List ℕ) → Grows n a b → Grows n b c → Grows n a c
grows_more n a b c first next place within known =
    let p = first place within known in
    let q = next place within p.known in
    record { known = q.known; cell = q.cell ∙ p.cell; told = q.told ∙ p.told; cost = (let x = p.cost in let y = q.cost in omega arith) }

pub grows_known : (n : ℕ) (old new : List ℕ) (p told cell : ℕ) → mark_in old p ≡ 0 → Knows n old new p told cell → Grows n old new
grows_known n old new p told cell none knows place within known = elim (cases_eq place p) [
  | inl same ↦ absurd (known (ap (mark_in old) same ∙ none))
  | inr apart ↦ cheaper_same n old new place (knows.others place within apart) known
]

pub grows_lower : (n : ℕ) (old new : List ℕ) (p cost from : ℕ) → p < n → cost ≤ cost_in old n p → Lowers n old new p cost from → Grows n old new
grows_lower n old new p cost from inside less lowers place within known = elim (cases_eq place p) [
  | inl same ↦
      subst (IsOnlyCheaper n old new) (sym same) (record {
        known = λ e. (let m = lowers.mark in omega arith);
        cell = lowers.cell;
        told = lowers.told;
        cost = (let c = lowers.cost_now in omega arith);
      })
  | inr apart ↦ cheaper_same n old new place (lowers.others place within apart) known
]

pub grows_close : (n : ℕ) (old new : List ℕ) (p : ℕ) → Closes n old new p → Grows n old new
grows_close n old new p closes place within known = elim (cases_eq place p) [
  | inl same ↦
      subst (IsOnlyCheaper n old new) (sym same) (record {
        known = λ e. (let m = closes.mark in omega arith);
        cell = closes.cell;
        told = closes.told;
        cost = (let c = closes.cost in omega arith);
      })
  | inr apart ↦ cheaper_same n old new place (closes.others place within apart) known
]

-- what was reached for a cost stays so
pub reached_grows : (seek : Seek) (old new : List ℕ) (to : Cell) (cost : ℕ) → Grows seek.size old new → IsReachedFor seek old to cost → IsReachedFor seek new to cost
reached_grows seek old new to cost grows p =
    let g = grows p.place p.within p.known in
    record {
      place = p.place;
      within = p.within;
      known = g.known;
      there = ap cell_of_word g.cell ∙ p.there;
      cheap = (let c = p.cheap in let d = g.cost in omega arith);
    }
