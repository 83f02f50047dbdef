-- A row and what is known of its list, from edit to edit.
use Rattle.std.proofs.Common.{◌≡◌, refl, ℕ, ◌+◌, ◌-◌, ◌<◌, ◌≤◌, List, [], ◌∷◌, ◌++◌, length, map, drop, get_or, arith, subst}
use Rattle.std.proofs.lemmas.List.{drop_more, drop_all}
use Rattle.std.proofs.lemmas.List.Elements.{All-cons, All-push, All-get_or}
use Rattle.std.proofs.lemmas.List.Edits.{length-remove}
use Rattle.run_pack.specs.Runs.{IsPacked, run_of_word}
use Rattle.row_edit.specs.declared.PlaceSet.{PlaceSet}
use Rattle.row_edit.specs.declared.each.RowEdit.{RowEdit}
use Rattle.row_edit.specs.declared.each.RowEdit.TheVariants.{Out}
use Rattle.row_edit.specs.Edits.{IsSetOf, IsKnownRow, TakesOut, edited, edited_by, Suits, SuitEach, TakesEdits}
use Rattle.row_edit.specs.Rooms.{EditsRow, MovesKnown, KeepsKnown, IsBetween}

pub edits_out : (words : List ℕ) (places : ℕ) (out : PlaceSet) (known : List PlaceSet) (old new : List ℕ)
    → TakesOut words places out known old new → EditsRow words places (Out out) known old new (places - 1)
edits_out words places out known old new takes sets row its = record {
  appends = takes sets (record { packed = row.packed; count = row.count; agree = All-cons (λ one. IsSetOf sets one) out known its row.agree });
  count = omega (arith, length-remove sets out.place its.inside, row.count);
}

-- ---- what is known

-- what is known so far, with one of the former sets more
pub knows_more : (edit : RowEdit) (known next : List PlaceSet) (new d : PlaceSet) (i : ℕ)
    → KeepsKnown edit known next → i < length known → MovesKnown edit (get_or known i d) new → KeepsKnown edit known (next ++ new ∷ [])
knows_more edit known next new d i before inside moves sets its all =
    All-push (λ one. IsSetOf (edited sets edit) one) next new (before sets its all)
    (moves sets its (All-get_or (λ one. IsSetOf sets one) known i d inside all))

-- ---- the row

pub goes_on : (words : List ℕ) (places : ℕ) (edit : RowEdit) (known : List PlaceSet) (new : List ℕ) (after : ℕ) (next : List PlaceSet)
    → EditsRow words places edit known [] new after → KeepsKnown edit known next
    → (sets : List ℕ) → IsKnownRow words places known sets → Suits sets edit → IsKnownRow new after next (edited sets edit)
goes_on words places edit known new after next edits keeps sets row its =
    let made = edits sets row its in
    record {
      packed = rw made.appends.behind made.appends.packed;
      count = made.count;
      agree = keeps sets its row.agree;
    }

-- whichever list it is, it is between two edits
abbrev pub AreBetween : List ℕ → ℕ → List PlaceSet → List RowEdit → ℕ → List ℕ → ℕ → List PlaceSet → Type 0
AreBetween words places known edits i now left next = (sets : List ℕ) → IsKnownRow words places known sets → SuitEach sets edits → IsBetween sets edits (drop i edits) now left next

pub between_first : (words : List ℕ) (places : ℕ) (known : List PlaceSet) (edits : List RowEdit) → AreBetween words places known edits 0 words places known
between_first words places known edits sets row suit = record {
  now = sets;
  row = row;
  suit = suit;
  same = refl;
}

pub between_more : (words : List ℕ) (places : ℕ) (known : List PlaceSet) (edits : List RowEdit) (i : ℕ) (d : RowEdit) (now : List ℕ) (left : ℕ)
    (next : List PlaceSet) (now' : List ℕ) (left' : ℕ) (next' : List PlaceSet)
    → AreBetween words places known edits i now left next → i < length edits
    → ((sets : List ℕ) → IsKnownRow now left next sets → Suits sets (get_or edits i d) → IsKnownRow now' left' next' (edited sets (get_or edits i d)))
    → AreBetween words places known edits (i + 1) now' left' next'
between_more words places known edits i d now left next now' left' next' between inside goes sets row suit =
    let b = between sets row suit in
    let split = drop_more edits i d inside in
    let suits : SuitEach b.now (get_or edits i d ∷ drop (i + 1) edits) = rw split at b.suit in
    let leads : edited_by b.now (get_or edits i d ∷ drop (i + 1) edits) ≡ edited_by sets edits = rw split at b.same in
    record {
      now = edited b.now (get_or edits i d);
      row = goes b.now b.row suits.0;
      suit = suits.1;
      same = leads;
    }

pub between_all : (words : List ℕ) (places : ℕ) (known : List PlaceSet) (edits : List RowEdit) (i : ℕ) (now : List ℕ) (left : ℕ) (next : List PlaceSet) (old new : List ℕ)
    → AreBetween words places known edits i now left next → length edits ≤ i → new ≡ old ++ now → TakesEdits words places edits known old new
between_all words places known edits i now left next old new between all behind sets row suit =
    let b = between sets row suit in
    let leads : b.now ≡ edited_by sets edits = rw (drop_all i edits all) at b.same in
    record {
      row = now;
      behind = behind;
      packed = subst (λ list. IsPacked (map run_of_word now) list) leads b.row.packed;
    }
