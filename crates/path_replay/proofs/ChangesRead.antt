-- The changes of an event, one after another.
use Rattle.std.proofs.Common.{◌≡◌, ◌≢◌, ℕ, suc, ◌+◌, ◌-◌, ◌<◌, ◌≤◌, List, [], ◌∷◌, ◌++◌, length, set, take, true, false, Option, Some, None, MatchOption, is_some, arith, refl, sym, ap, ◌∙◌}
use Rattle.std.specs.Borrow.{Bor}
use Rattle.std.proofs.lemmas.List.{length-set, take_more_set}
use Rattle.text_lines.specs.Words.{words_of}
use Rattle.edit_log.specs.declared.TheConstants.{MAX_CHANGES}
use Rattle.edit_log.specs.declared.edit.CellChange.{CellChange}
use Rattle.path_replay.specs.Events.{changes_with, first_change}

-- so many changes are read: what follows gives with them what all words give
pub record IsReadUpTo (all : Option (List CellChange)) (changes : List CellChange) (count : ℕ) (words : List (List ℕ)) : Type 0 where
  pub some : 1 ≤ count
  pub few : count ≤ MAX_CHANGES
  pub long : length changes ≡ MAX_CHANGES
  pub gives : changes_with (MAX_CHANGES - count) (take count changes) words ≡ all

-- a word is left
pub word_left : (found : Option (Bor (List ℕ) × Bor (List ℕ))) (words : List (List ℕ)) → is_some found ≡ true
    → MatchOption found (words ≡ []) (λ cut. words ≡ cut.0.now ∷ words_of cut.1.now) → words ≢ []
word_left None words there cut = let t : false ≡ true = there in absurd (cc)
word_left (Some two) words there cut = λ empty. let t : [] ≡ two.0.now ∷ words_of two.1.now = sym empty ∙ cut in absurd (cc)

-- the next words are no change
pub read_not : (all : Option (List CellChange)) (changes : List CellChange) (count : ℕ) (left : List (List ℕ))
    → IsReadUpTo all changes count left → left ≢ [] → count < MAX_CHANGES → first_change left ≡ None → all ≡ None
read_not all changes count [] so_far some below none = absurd (some refl)
read_not all changes count (word ∷ words) so_far some below none =
    let step : MAX_CHANGES - count ≡ suc (MAX_CHANGES - (count + 1)) = omega (arith, below) in
    sym so_far.gives ∙ rw (step, none) refl

-- they are one
pub read_more : (all : Option (List CellChange)) (changes : List CellChange) (count : ℕ) (left next : List (List ℕ)) (change : CellChange)
    → IsReadUpTo all changes count left → left ≢ [] → count < MAX_CHANGES → first_change left ≡ Some (change, next)
    → IsReadUpTo all (set changes count change) (count + 1) next
read_more all changes count [] next change so_far some below found = absurd (some refl)
read_more all changes count (word ∷ words) next change so_far some below found =
    let step : MAX_CHANGES - count ≡ suc (MAX_CHANGES - (count + 1)) = omega (arith, below) in
    let more : take (count + 1) (set changes count change) ≡ take count changes ++ change ∷ [] =
    take_more_set changes count change (omega (arith, below, so_far.long)) in
    let same : changes_with (MAX_CHANGES - count) (take count changes) (word ∷ words)
    ≡ changes_with (MAX_CHANGES - (count + 1)) (take count changes ++ change ∷ []) next = rw (step, found) refl in
    record {
      some = omega (arith, so_far.some);
      few = omega (arith, below);
      long = length-set changes count change ∙ so_far.long;
      gives = ap (λ before. changes_with (MAX_CHANGES - (count + 1)) before next) more ∙ sym same ∙ so_far.gives;
    }

-- too many words
pub read_past : (all : Option (List CellChange)) (changes : List CellChange) (count : ℕ) (left : List (List ℕ))
    → IsReadUpTo all changes count left → left ≢ [] → MAX_CHANGES ≤ count → all ≡ None
read_past all changes count [] so_far some past = absurd (some refl)
read_past all changes count (word ∷ words) so_far some past =
    let none : MAX_CHANGES - count ≡ 0 = omega (arith, past) in
    sym so_far.gives ∙ rw none refl
