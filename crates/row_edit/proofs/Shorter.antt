-- Two lists of sets, of which one has a set more, and what their common moves have to do with one another.
use Rattle.std.proofs.Common.{◌≡◌, ℕ, ◌+◌, ◌-◌, ◌<◌, ◌≤◌, List, length, insert, remove, slice_index, arith, inl, inr, subst, sym, ap, ◌∙◌}
use Rattle.std.proofs.lemmas.Bool.{cases_lt}
use Rattle.std.proofs.lemmas.List.Edits.{length-insert, get_or-insert_below, get_or-insert_above, length-remove, get_or-remove_below, get_or-remove_above}
use Rattle.run_pack.specs.Sets.{Has, IsCommon}

-- one list is the other without this place
pub record IsShorter (longer shorter : List ℕ) (place : ℕ) : Type 0 where
  pub size : length longer ≡ length shorter + 1
  pub inside : place ≤ length shorter
  pub before : (k : ℕ) → k < place → slice_index longer k ≡ slice_index shorter k
  pub behind : (k : ℕ) → place ≤ k → slice_index longer (k + 1) ≡ slice_index shorter k

pub shorter-remove : (sets : List ℕ) (place : ℕ) → place < length sets → IsShorter sets (remove sets place) place
shorter-remove sets place inside = record {
  size = sym (length-remove sets place inside);
  inside = omega (arith, length-remove sets place inside);
  before = λ k early. sym (get_or-remove_below sets place 0 k early inside);
  behind = λ k late. sym (get_or-remove_above sets place 0 k late inside);
}

pub shorter-insert : (sets : List ℕ) (place set : ℕ) → place ≤ length sets → IsShorter (insert sets place set) sets place
shorter-insert sets place set inside = record {
  size = length-insert sets place set inside;
  inside = inside;
  before = λ k early. get_or-insert_below sets place set 0 k early inside;
  behind = λ k late. get_or-insert_above sets place set 0 k late inside;
}

-- what is common to some sets is common to others, each of which is one of them
common_along : (xs ys : List ℕ) (from upto from' upto' move : ℕ)
    → ((k : ℕ) → from' ≤ k → k < upto' → (j : ℕ) × (from ≤ j) × (j < upto) × (slice_index xs j ≡ slice_index ys k))
    → IsCommon xs from upto move → IsCommon ys from' upto' move
common_along xs ys from upto from' upto' move same common = record {
  number = common.number;
  everywhere = λ k a b.
      (let one = same k a b in
      subst (λ set. Has set move) one.3 (common.everywhere one.0 one.1 one.2));
}

-- with one set more
pub common_more : (sets : List ℕ) (from upto move : ℕ) → IsCommon sets from upto move → Has (slice_index sets upto) move → IsCommon sets from (upto + 1) move
common_more sets from upto move common has = record {
  number = common.number;
  everywhere = λ place a b. elim (cases_lt place upto) [
    | inl early ↦ common.everywhere place a early
    | inr late ↦ (let same : upto ≡ place = omega arith in subst (λ at. Has (slice_index sets at) move) same has)
  ];
}

pub common_same : (xs ys : List ℕ) (from upto move : ℕ) → ((k : ℕ) → k < upto → slice_index xs k ≡ slice_index ys k) → IsCommon xs from upto move → IsCommon ys from upto move
common_same xs ys from upto move same common =
    common_along xs ys from upto from upto move (λ k a b. (k, a, b, same k b)) common

module _ (longer shorter : List ℕ) (place : ℕ) (short : IsShorter longer shorter place) where
  -- behind the place, one place earlier or later
  pub common_back : (from upto move : ℕ) → place < from → IsCommon longer from upto move → IsCommon shorter (from - 1) (upto - 1) move
  common_back from upto move late common =
      common_along longer shorter from upto (from - 1) (upto - 1) move (λ k a b. (k + 1, omega arith, omega arith, short.behind k (omega arith))) common

  pub common_forth : (from upto move : ℕ) → place ≤ from → IsCommon shorter from upto move → IsCommon longer (from + 1) (upto + 1) move
  common_forth from upto move late common =
      common_along shorter longer from upto (from + 1) (upto + 1) move (λ k a b.
      (let same : k - 1 + 1 ≡ k = omega arith in
      (k - 1, omega arith, omega arith, sym (short.behind (k - 1) (omega arith)) ∙ ap (slice_index longer) same))) common

  -- round the place
  pub common_out : (from upto move : ℕ) → from ≤ place → place < upto → IsCommon longer from upto move → IsCommon shorter from (upto - 1) move
  common_out from upto move a b common =
      common_along longer shorter from upto from (upto - 1) move (λ k c d.
      elim (cases_lt k place) [
        | inl early ↦ (k, omega arith, omega arith, short.before k early)
        | inr late ↦ (k + 1, omega arith, omega arith, short.behind k late)
      ]) common

  pub common_in : (from upto move : ℕ) → from ≤ place → place ≤ upto → Has (slice_index longer place) move → IsCommon shorter from upto move → IsCommon longer from (upto + 1) move
  common_in from upto move a b has common = record {
    number = common.number;
    everywhere = λ k c d.
        elim (cases_lt k place) [
          | inl early ↦ subst (λ set. Has set move) (sym (short.before k early)) (common.everywhere k c (omega arith))
          | inr late ↦ elim (cases_lt place k) [
            | inl behind ↦
                let same : k - 1 + 1 ≡ k = omega arith in
                subst (λ set. Has set move) (sym (short.behind (k - 1) (omega arith)) ∙ ap (slice_index longer) same) (common.everywhere (k - 1) (omega arith) (omega arith))
            | inr upto_place ↦ (let same : place ≡ k = omega arith in subst (λ at. Has (slice_index longer at) move) same has)
          ]
        ];
  }
