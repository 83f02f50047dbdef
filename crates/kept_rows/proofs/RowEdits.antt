-- Lists of sets without some places, and with some more, and the edits that lead there.
use Rattle.std.proofs.Common.{◌≡◌, ℕ, zero, suc, ◌+◌, ◌-◌, ◌<◌, ◌≤◌, List, [], ◌∷◌, ◌++◌, length, map, take, drop, get_or, slice_index, All, inl, inr, refl, sym, ap, subst, ◌∙◌, arith, insert, remove}
use Rattle.std.proofs.lemmas.Bool.{cases_lt}
use Rattle.std.proofs.lemmas.List.{drop_more, drop_all, take_more, take_all, map-append, length-map}
use Rattle.std.proofs.lemmas.List.Edits.{length-insert, get_or-insert_below, get_or-insert_at, get_or-insert_above, length-remove, get_or-remove_below, get_or-remove_above}
use Rattle.row_edit.specs.declared.PlaceSet.{PlaceSet}
use Rattle.row_edit.specs.declared.each.RowEdit.{RowEdit}
use Rattle.row_edit.specs.declared.each.RowEdit.TheVariants.{Out, In}
use Rattle.row_edit.specs.Edits.{IsSetOf, edited, edited_by, Suits, SuitEach}
use Rattle.kept_rows.specs.Gaps.{past_one, past, AreGaps}
use Rattle.kept_rows.specs.RowEdits.{places_of, sets_of, AreHoles, takes, puts, outs, ins}
use Rattle.kept_rows.proofs.Gaps.{one_before, one_behind, past_before}

-- ---- one place

read_removed : (sets : List ℕ) (gap place : ℕ) → gap < length sets → get_or (remove sets gap) place 0 ≡ get_or sets (past_one gap place) 0
read_removed sets gap place inside = elim (cases_lt place gap) [
  | inl before ↦ get_or-remove_below sets gap 0 place before inside ∙ ap (λ k. get_or sets k 0) (sym (one_before gap place before))
  | inr behind ↦ get_or-remove_above sets gap 0 place behind inside ∙ ap (λ k. get_or sets k 0) (sym (one_behind gap place behind))
]

read_inserted : (sets : List ℕ) (gap set place : ℕ) → gap ≤ length sets → get_or (insert sets gap set) (past_one gap place) 0 ≡ get_or sets place 0
read_inserted sets gap set place inside = elim (cases_lt place gap) [
  | inl before ↦ ap (λ k. get_or (insert sets gap set) k 0) (one_before gap place before) ∙ get_or-insert_below sets gap set 0 place before inside
  | inr behind ↦ ap (λ k. get_or (insert sets gap set) k 0) (one_behind gap place behind) ∙ get_or-insert_above sets gap set 0 place behind inside
]

-- ---- some places less

pub taken_size : (least count : ℕ) (holes : List PlaceSet) → AreGaps least count (places_of holes) → (sets : List ℕ) → length sets ≡ count + length holes → length (takes sets holes) ≡ count
taken_size least count [] are sets size = omega (arith, size)
taken_size least count (hole ∷ holes) are sets size =
    let rest = taken_size (hole.place + 1) (count + 1) holes are.2 sets (omega (arith, size)) in
    let most = are.1 in
    omega (arith, length-remove (takes sets holes) hole.place (omega (arith, rest)), rest)

pub taken_read : (least count : ℕ) (holes : List PlaceSet) → AreGaps least count (places_of holes) → (sets : List ℕ) → length sets ≡ count + length holes
    → (place : ℕ) → get_or (takes sets holes) place 0 ≡ get_or sets (past (places_of holes) place) 0
taken_read least count [] are sets size place = refl
taken_read least count (hole ∷ holes) are sets size place =
    let long : length sets ≡ (count + 1) + length holes = omega (arith, size) in
    let rest = taken_size (hole.place + 1) (count + 1) holes are.2 sets long in
    let most = are.1 in
    read_removed (takes sets holes) hole.place place (omega (arith, rest)) ∙ taken_read (hole.place + 1) (count + 1) holes are.2 sets long (past_one hole.place place)

-- ---- some places more

more_size : (sets : List ℕ) (count : ℕ) (hole : PlaceSet) → hole.place ≤ count → length sets ≡ count → length (insert sets hole.place hole.set) ≡ count + 1
more_size sets count hole most size = omega (arith, length-insert sets hole.place hole.set (omega (arith, size)), size)

pub put_size : (least count : ℕ) (holes : List PlaceSet) → AreGaps least count (places_of holes) → (sets : List ℕ) → length sets ≡ count → length (puts sets holes) ≡ count + length holes
put_size least count [] are sets size = omega (arith, size)
put_size least count (hole ∷ holes) are sets size =
    omega (arith, put_size (hole.place + 1) (count + 1) holes are.2 (insert sets hole.place hole.set) (more_size sets count hole are.1 size))

pub put_read : (least count : ℕ) (holes : List PlaceSet) → AreGaps least count (places_of holes) → (sets : List ℕ) → length sets ≡ count
    → (place : ℕ) → get_or (puts sets holes) (past (places_of holes) place) 0 ≡ get_or sets place 0
put_read least count [] are sets size place = refl
put_read least count (hole ∷ holes) are sets size place =
    let most = are.1 in
    put_read (hole.place + 1) (count + 1) holes are.2 (insert sets hole.place hole.set) (more_size sets count hole are.1 size) (past_one hole.place place)
    ∙ read_inserted sets hole.place hole.set place (omega (arith, size))

pub put_at : (least count : ℕ) (holes : List PlaceSet) → AreGaps least count (places_of holes) → (sets : List ℕ) → length sets ≡ count
    → (number : ℕ) → number < length holes → get_or (puts sets holes) (get_or (places_of holes) number 0) 0 ≡ get_or (sets_of holes) number 0
put_at least count [] are sets size number l = absurd (omega arith)
put_at least count (hole ∷ holes) are sets size zero l =
    let most = are.1 in
    ap (λ k. get_or (puts (insert sets hole.place hole.set) holes) k 0) (sym (past_before (hole.place + 1) (count + 1) (places_of holes) are.2 hole.place (omega arith)))
    ∙ put_read (hole.place + 1) (count + 1) holes are.2 (insert sets hole.place hole.set) (more_size sets count hole are.1 size) hole.place
    ∙ get_or-insert_at sets hole.place hole.set 0 (omega (arith, size))
put_at least count (hole ∷ holes) are sets size (suc number) l =
    put_at (hole.place + 1) (count + 1) holes are.2 (insert sets hole.place hole.set) (more_size sets count hole are.1 size) number (omega arith)

-- ---- edits

edited_more : (sets : List ℕ) (edits : List RowEdit) (one : RowEdit) → edited_by sets (edits ++ one ∷ []) ≡ edited (edited_by sets edits) one
edited_more sets [] one = refl
edited_more sets (edit ∷ edits) one = edited_more (edited sets edit) edits one

suits_more : (sets : List ℕ) (edits : List RowEdit) (one : RowEdit) → SuitEach sets edits → Suits (edited_by sets edits) one → SuitEach sets (edits ++ one ∷ [])
suits_more sets [] one suit last = (last, tt)
suits_more sets (edit ∷ edits) one suit last = (suit.0, suits_more (edited sets edit) edits one suit.1 last)

pub edited_outs : (sets : List ℕ) (holes : List PlaceSet) → edited_by sets (outs holes) ≡ takes sets holes
edited_outs sets [] = refl
edited_outs sets (hole ∷ holes) = edited_more sets (outs holes) (Out hole) ∙ ap (λ list. remove list hole.place) (edited_outs sets holes)

pub outs_suit : (least count : ℕ) (holes : List PlaceSet) → AreGaps least count (places_of holes) → (sets : List ℕ) → length sets ≡ count + length holes → All (IsSetOf sets) holes
    → SuitEach sets (outs holes)
outs_suit least count [] are sets size all = tt
outs_suit least count (hole ∷ holes) are sets size all =
    let long : length sets ≡ (count + 1) + length holes = omega (arith, size) in
    let rest = taken_size (hole.place + 1) (count + 1) holes are.2 sets long in
    let most = are.1 in
    let own : IsSetOf sets hole = all zero hole (omega arith) in
    suits_more sets (outs holes) (Out hole) (outs_suit (hole.place + 1) (count + 1) holes are.2 sets long (λ number d l. all (suc number) d (omega arith)))
    (subst (λ list. IsSetOf list hole) (sym (edited_outs sets holes)) (record {
      inside = omega (arith, rest);
      is =
          taken_read (hole.place + 1) (count + 1) holes are.2 sets long hole.place
          ∙ ap (λ k. get_or sets k 0) (past_before (hole.place + 1) (count + 1) (places_of holes) are.2 hole.place (omega arith)) ∙ own.is;
    }))

pub edited_ins : (sets : List ℕ) (holes : List PlaceSet) → edited_by sets (ins holes) ≡ puts sets holes
edited_ins sets [] = refl
edited_ins sets (hole ∷ holes) = edited_ins (insert sets hole.place hole.set) holes

pub ins_suit : (least count : ℕ) (holes : List PlaceSet) → AreGaps least count (places_of holes) → (sets : List ℕ) → length sets ≡ count → SuitEach sets (ins holes)
ins_suit least count [] are sets size = tt
ins_suit least count (hole ∷ holes) are sets size = (
  let most = are.1 in omega (arith, size),
  ins_suit (hole.place + 1) (count + 1) holes are.2 (insert sets hole.place hole.set) (more_size sets count hole are.1 size),
)

-- ---- loops

-- the first holes are noted
pub record AreHolesTo (gaps sets : List ℕ) (upto : ℕ) (holes : List PlaceSet) : Type 0 where
  pub places : places_of holes ≡ take upto gaps
  pub sets_are : sets_of holes ≡ take upto sets

module _ (gaps sets : List ℕ) where
  pub holes_none : AreHolesTo gaps sets 0 []
  holes_none = record { places = refl; sets_are = refl }

  pub holes_more : (upto : ℕ) (holes : List PlaceSet) (one : PlaceSet) → AreHolesTo gaps sets upto holes → upto < length gaps → upto < length sets
      → one.place ≡ get_or gaps upto 0 → one.set ≡ get_or sets upto 0 → AreHolesTo gaps sets (upto + 1) (holes ++ one ∷ [])
  holes_more upto holes one to l m place set = record {
    places = map-append (λ hole. hole.place) holes (one ∷ []) ∙ ap (λ list. list ++ one.place ∷ []) to.places ∙ ap (λ p. take upto gaps ++ p ∷ []) place ∙ sym (take_more gaps upto 0 l);
    sets_are = map-append (λ hole. hole.set) holes (one ∷ []) ∙ ap (λ list. list ++ one.set ∷ []) to.sets_are ∙ ap (λ s. take upto sets ++ s ∷ []) set ∙ sym (take_more sets upto 0 m);
  }

  pub holes_all : (upto : ℕ) (holes : List PlaceSet) → AreHolesTo gaps sets upto holes → upto ≡ length gaps → AreHoles gaps sets holes
  holes_all upto holes to all = record {
    places = to.places ∙ take_all upto gaps (omega (arith, all));
    sets_are = to.sets_are ∙ ap (λ n. take n sets) all;
  }

-- the last holes are taken out
module _ (holes : List PlaceSet) where
  pub outs_none : outs (drop (length holes) holes) ≡ []
  outs_none = ap outs (drop_all (length holes) holes (omega arith))

  pub outs_more : (index at : ℕ) (edits : List RowEdit) (hole d : PlaceSet) → edits ≡ outs (drop (length holes - index) holes) → index < length holes → at ≡ length holes - 1 - index → hole ≡ get_or holes at d
      → edits ++ Out hole ∷ [] ≡ outs (drop (length holes - (index + 1)) holes)
  outs_more index at edits hole d so_far l at_is is =
      let next : at ≡ length holes - (index + 1) = omega arith in
      let back : at + 1 ≡ length holes - index = omega arith in
      ap (λ list. list ++ Out hole ∷ []) (so_far ∙ ap (λ n. outs (drop n holes)) (sym back))
      ∙ ap (λ one. outs (drop (at + 1) holes) ++ Out one ∷ []) is
      ∙ ap outs (sym (drop_more holes at d (omega arith)))
      ∙ ap (λ n. outs (drop n holes)) next

  pub outs_all : (index : ℕ) (edits : List RowEdit) → edits ≡ outs (drop (length holes - index) holes) → length holes ≤ index → edits ≡ outs holes
  outs_all index edits so_far all = let none : length holes - index ≡ 0 = omega arith in so_far ∙ ap (λ n. outs (drop n holes)) none
