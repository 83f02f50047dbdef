-- How a list of edits is kept: all changes one after the other, and where each edit ends.
use Rattle.std.proofs.Common.{◌≡◌, ℕ, zero, suc, ◌+◌, ◌-◌, ◌*◌, ◌<◌, ◌≤◌, List, [], ◌∷◌, ◌++◌, length, get_or, take, drop, max, All, Bool, true, false, ◌==◌, if◌then◌else◌, Result, Ok, Err, IsOk, is_ok, arith, refl, ap, sym, subst, ◌∙◌}
use Rattle.std.specs.List.{flat_map}
use Rattle.std.proofs.lemmas.List.{append-nil, drop-append-le, get_or-drop, length-append, length-drop, length-take, take_all, take_more, take-append-le, take-append-drop}
use Rattle.std.proofs.Math.Seq.{drop-append-add, take-append_seam}
use Rattle.edit_log.specs.declared.TheConstants.{MAX_CHANGES}
use Rattle.edit_log.specs.declared.edit.CellChange.{CellChange}
use Rattle.edit_log.specs.declared.edit.Edit.{Edit}
use Rattle.edit_log.specs.EditLists.{AreEnds, EditLog, IsStored, edit_list, edits_between}

abbrev pub all_of : {A : Type 0} → List (List A) → List A
all_of lists = flat_map (λ list. list) lists

-- ends rise, and not by much
pub ends_rise : (start : ℕ) (ends : List ℕ) (last : ℕ) → AreEnds start ends last → start ≤ last
ends_rise start [] last is = omega (arith, is)
ends_rise start (end ∷ ends) last is = omega (arith, is.0, ends_rise end ends last is.2)

pub ends_bound : (start : ℕ) (ends : List ℕ) (last : ℕ) → AreEnds start ends last → last ≤ start + MAX_CHANGES * length ends
ends_bound start [] last is = omega (arith, is)
ends_bound start (end ∷ ends) last is = omega (arith, is.1, ends_bound end ends last is.2)

-- one edit more at the end
ends_push : (start : ℕ) (ends : List ℕ) (last size : ℕ) → AreEnds start ends last → 1 ≤ size → size ≤ MAX_CHANGES
    → AreEnds start (ends ++ (last + size) ∷ []) (last + size)
ends_push start [] last size is some few = (omega (arith, is, some), omega (arith, is, few), refl)
ends_push start (end ∷ ends) last size is some few = (is.0, is.1, ends_push end ends last size is.2 some few)

-- what is left of the changes past the first edit
rest_size : (start end : ℕ) (ends : List ℕ) (changes : List CellChange) (last : ℕ) → last ≡ start + length changes → start < end → AreEnds end ends last
    → last ≡ end + length (drop (end - start) changes)
rest_size start end ends changes last size rises is =
    omega (arith, size, length-drop (end - start) changes, ends_rise end ends last is, rises)

-- the size of the first edit
first_size : (start end : ℕ) (ends : List ℕ) (changes : List CellChange) (last : ℕ) → last ≡ start + length changes → AreEnds end ends last
    → length (take (end - start) changes) ≡ end - start
first_size start end ends changes last size is =
    omega (arith, size, length-take (end - start) changes, ends_rise end ends last is)

none_left : {A : Type 0} (xs : List A) → length xs ≡ 0 → xs ≡ []
none_left [] e = refl
none_left (x ∷ xs) e = absurd (omega (arith, e))

pub edits_count : (start : ℕ) (ends : List ℕ) (changes : List CellChange) → length (edits_between start ends changes) ≡ length ends
edits_count start [] changes = refl
edits_count start (end ∷ ends) changes = ap suc (edits_count end ends (drop (end - start) changes))

pub edits_all : (start : ℕ) (ends : List ℕ) (changes : List CellChange) (last : ℕ) → last ≡ start + length changes → AreEnds start ends last
    → all_of (edits_between start ends changes) ≡ changes
edits_all start [] changes last size is = sym (none_left changes (omega (arith, size, is)))
edits_all start (end ∷ ends) changes last size is =
    ap (λ rest. take (end - start) changes ++ rest)
    (edits_all end ends (drop (end - start) changes) last (rest_size start end ends changes last size is.0 is.2) is.2)
    ∙ take-append-drop (end - start) changes

pub record HasSize (edit : Edit) : Type 0 where
  pub some : 1 ≤ length edit
  pub few : length edit ≤ MAX_CHANGES

sized_cons : (edit : Edit) (edits : List Edit) → HasSize edit → All HasSize edits → All HasSize (edit ∷ edits)
sized_cons edit edits here rest zero d lt = here
sized_cons edit edits here rest (suc k) d lt = rest k d (omega (arith, lt))

pub edits_sized : (start : ℕ) (ends : List ℕ) (changes : List CellChange) (last : ℕ) → last ≡ start + length changes → AreEnds start ends last
    → All HasSize (edits_between start ends changes)
edits_sized start [] changes last size is = λ k d lt. absurd (omega (arith, lt))
edits_sized start (end ∷ ends) changes last size is =
    let first : length (take (end - start) changes) ≡ end - start = first_size start end ends changes last size is.2 in
    sized_cons (take (end - start) changes) (edits_between end ends (drop (end - start) changes))
    (record { some = omega (arith, first, is.0); few = omega (arith, first, is.1) })
    (edits_sized end ends (drop (end - start) changes) last (rest_size start end ends changes last size is.0 is.2) is.2)

pub edits_push : (start : ℕ) (ends : List ℕ) (changes edit : List CellChange) (last : ℕ) → last ≡ start + length changes → AreEnds start ends last
    → edits_between start (ends ++ (last + length edit) ∷ []) (changes ++ edit) ≡ edits_between start ends changes ++ edit ∷ []
edits_push start [] changes edit last size is =
    let none : changes ≡ [] = none_left changes (omega (arith, size, is)) in
    let count : length (changes ++ edit) ≤ last + length edit - start = omega (arith, size, length-append changes edit) in
    ap (λ xs. xs ∷ []) (take_all (last + length edit - start) (changes ++ edit) count ∙ ap (λ l. l ++ edit) none)
edits_push start (end ∷ ends) changes edit last size is =
    let within : end - start ≤ length changes = omega (arith, size, ends_rise end ends last is.2, is.0) in
    let rest : edits_between end (ends ++ (last + length edit) ∷ []) (drop (end - start) changes ++ edit)
    ≡ edits_between end ends (drop (end - start) changes) ++ edit ∷ [] =
    edits_push end ends (drop (end - start) changes) edit last (rest_size start end ends changes last size is.0 is.2) is.2 in
    rw (take-append-le (end - start) changes edit within, drop-append-le (end - start) changes edit within)
    (ap (λ r. take (end - start) changes ∷ r) rest)

-- an edit ends behind its changes and those before it
ends_are : (start : ℕ) (ends : List ℕ) (changes : List CellChange) (last place d : ℕ) → last ≡ start + length changes → AreEnds start ends last
    → place < length ends → get_or ends place d ≡ start + length (all_of (take (suc place) (edits_between start ends changes)))
ends_are start [] changes last place d size is below = absurd (omega (arith, below))
ends_are start (end ∷ ends) changes last zero d size is below =
    let first : length (take (end - start) changes) ≡ end - start = first_size start end ends changes last size is.2 in
    let whole : length (take (end - start) changes ++ []) ≡ length (take (end - start) changes) = ap length (append-nil (take (end - start) changes)) in
    omega (arith, first, whole, is.0)
ends_are start (end ∷ ends) changes last (suc place) d size is below =
    let first : length (take (end - start) changes) ≡ end - start = first_size start end ends changes last size is.2 in
    let left : List CellChange = drop (end - start) changes in
    let rest : get_or ends place d ≡ end + length (all_of (take (suc place) (edits_between end ends left))) =
    ends_are end ends left last place d (rest_size start end ends changes last size is.0 is.2) is.2 (omega (arith, below)) in
    let whole : length (take (end - start) changes ++ all_of (take (suc place) (edits_between end ends left)))
    ≡ length (take (end - start) changes) + length (all_of (take (suc place) (edits_between end ends left))) =
    length-append (take (end - start) changes) (all_of (take (suc place) (edits_between end ends left))) in
    omega (arith, rest, whole, first, is.0)

pub end_is : (edits : List Edit) (ends : List ℕ) (changes : List CellChange) (before place d : ℕ) → edits_between 0 ends changes ≡ edits
    → AreEnds 0 ends (length changes) → before < length ends → place ≡ before + 1 → get_or ends before d ≡ length (all_of (take place edits))
end_is edits ends changes before place d seen is below next =
    let step : suc before ≡ place = omega (arith, next) in
    let at : get_or ends before d ≡ 0 + length (all_of (take (suc before) (edits_between 0 ends changes))) =
    ends_are 0 ends changes (length changes) before d (omega arith) is below in
    let same : length (all_of (take (suc before) (edits_between 0 ends changes))) ≡ length (all_of (take place edits)) =
    ap (λ n. length (all_of (take n (edits_between 0 ends changes)))) step ∙ ap (λ l. length (all_of (take place l))) seen in
    omega (arith, at, same)

-- a list of a list of lists stands in them all between its ends
pub one_of_all : {A : Type 0} (lists : List (List A)) (place : ℕ) (d : List A) → place < length lists
    → take (length (all_of (take (suc place) lists)) - length (all_of (take place lists))) (drop (length (all_of (take place lists))) (all_of lists))
    ≡ get_or lists place d
one_of_all [] place d below = absurd (omega (arith, below))
one_of_all (list ∷ lists) zero d below =
    let size : length (list ++ []) - 0 ≡ length list = omega (arith, ap length (append-nil list)) in
    rw size (take-append_seam list (all_of lists))
one_of_all (list ∷ lists) (suc place) d below =
    let before = all_of (take place lists) in
    let through = all_of (take (suc place) lists) in
    let size : length (list ++ through) - length (list ++ before) ≡ length through - length before =
    omega (arith, length-append list through, length-append list before) in
    rw (size, length-append list before, drop-append-add list (all_of lists) (length before))
    (one_of_all lists place d (omega (arith, below)))

pub before_all : {A : Type 0} (lists : List (List A)) (place : ℕ) → length (all_of (take place lists)) ≤ length (all_of lists)
before_all lists zero = omega arith
before_all [] (suc place) = omega arith
before_all (list ∷ lists) (suc place) =
    omega (arith, length-append list (all_of (take place lists)), length-append list (all_of lists), before_all lists place)

pub rises_by_one : {A : Type 0} (lists : List (List A)) (place : ℕ) → length (all_of (take place lists)) ≤ length (all_of (take (suc place) lists))
rises_by_one [] zero = omega arith
rises_by_one [] (suc place) = omega arith
rises_by_one (list ∷ lists) zero = omega arith
rises_by_one (list ∷ lists) (suc place) =
    omega (arith, length-append list (all_of (take place lists)), length-append list (all_of (take (suc place) lists)), rises_by_one lists place)

-- ---- what a list keeps

-- one edit more is stored
pub push_stored : (changes edit longer : List CellChange) (ends more : List ℕ) (last room taken held taken_now held_now : ℕ)
    → IsStored changes ends room taken held → longer ≡ changes ++ edit → last ≡ length longer → more ≡ ends ++ last ∷ []
    → 1 ≤ length edit → length edit ≤ MAX_CHANGES → length ends < room → taken ≤ taken_now → held ≤ held_now
    → IsStored longer more room taken_now held_now
push_stored changes edit longer ends more last room taken held taken_now held_now is el elast em some few below et eh =
    let size : length longer ≡ length changes + length edit = ap length el ∙ length-append changes edit in
    let count : length more ≡ length ends + 1 = ap length em ∙ length-append ends (last ∷ []) in
    let at : last ≡ length changes + length edit = elast ∙ size in
    let cut : AreEnds 0 (ends ++ (length changes + length edit) ∷ []) (length changes + length edit) = ends_push 0 ends (length changes) (length edit) is.cut some few in
    record {
      cut = rw (em, size, at) cut;
      held = omega (arith, count, below);
      changes_held = omega (arith, size, count, few, below, et, is.changes_held);
      ends_held = omega (arith, is.ends_held, eh);
      countable = is.countable;
    }

pub push_seen : (changes edit longer : List CellChange) (ends more : List ℕ) (last room taken held : ℕ) (old : EditLog)
    → IsStored changes ends room taken held → longer ≡ changes ++ edit → last ≡ length longer → more ≡ ends ++ last ∷ []
    → edit_list (edits_between 0 ends changes) (room - length ends) ≡ old
    → edit_list (edits_between 0 more longer) (room - length more) ≡ edit_list (old.edits ++ edit ∷ []) (old.spare - 1)
push_seen changes edit longer ends more last room taken held old is el elast em seen =
    let size : length longer ≡ length changes + length edit = ap length el ∙ length-append changes edit in
    let count : length more ≡ length ends + 1 = ap length em ∙ length-append ends (last ∷ []) in
    let at : last ≡ length changes + length edit = elast ∙ size in
    let edits : edits_between 0 more longer ≡ old.edits ++ edit ∷ [] =
    rw (em, el, at) (edits_push 0 ends changes edit (length changes) (omega arith) is.cut) ∙ ap (λ l. l.edits ++ edit ∷ []) seen in
    let spare : room - length more ≡ old.spare - 1 =
    let was : room - length ends ≡ old.spare = ap (λ l. l.spare) seen in omega (arith, count, was) in
    λ i. record { edits = edits i; spare = spare i }

-- ---- the tail of a list

-- so much of a tail is copied, and there is room for the rest
pub record IsTailTo (edits : List Edit) (place next : ℕ) (list : EditLog) : Type 0 where
  pub past : place ≤ next
  pub so_far : list.edits ≡ take (next - place) (drop place edits)
  pub room : length edits ≤ next + list.spare

pub none_copied : (edits : List Edit) (place : ℕ) (fresh list : EditLog) (count total : ℕ) → fresh ≡ edit_list [] 0 → list.edits ≡ fresh.edits
    → list.spare ≡ max fresh.spare count → total ≡ length edits → count ≡ total - place → IsTailTo edits place place list
none_copied edits place fresh list count total ef el es et ec =
    let none : 0 ≡ place - place = omega arith in
    record {
      past = omega arith;
      so_far = el ∙ ap (λ l. l.edits) ef ∙ ap (λ n. take n (drop place edits)) none;
      room = omega (arith, es, et, ec);
    }

pub one_more_copied : (edits : List Edit) (place next : ℕ) (edit : Edit) (list longer : EditLog) → IsTailTo edits place next list → next < length edits
    → edit ≡ get_or edits next [] → longer ≡ edit_list (list.edits ++ edit ∷ []) (list.spare - 1) → IsTailTo edits place (next + 1) longer
one_more_copied edits place next edit list longer so_far below is made =
    let within : next - place < length (drop place edits) = omega (arith, length-drop place edits, below, so_far.past) in
    let here : place + (next - place) ≡ next = omega (arith, so_far.past) in
    let same : get_or (drop place edits) (next - place) [] ≡ edit =
    get_or-drop place edits (next - place) [] ∙ ap (λ n. get_or edits n []) here ∙ sym is in
    let step : next - place + 1 ≡ next + 1 - place = omega (arith, so_far.past) in
    record {
      past = omega (arith, so_far.past);
      so_far = ap (λ l. l.edits) made ∙ ap (λ l. l ++ edit ∷ []) so_far.so_far
          ∙ ap (λ e. take (next - place) (drop place edits) ++ e ∷ []) (sym same)
          ∙ sym (take_more (drop place edits) (next - place) [] within)
          ∙ ap (λ n. take n (drop place edits)) step;
      room = let left : longer.spare ≡ list.spare - 1 = ap (λ l. l.spare) made in omega (arith, left, so_far.room, below);
    }

pub all_copied : (edits : List Edit) (place next : ℕ) (list : EditLog) → IsTailTo edits place next list → length edits ≤ next
    → list.edits ≡ drop place edits
all_copied edits place next list so_far past =
    so_far.so_far ∙ take_all (next - place) (drop place edits) (omega (arith, length-drop place edits, past, so_far.past))

-- ---- what calls give

pub appended : {A U E : Type 0} (result : Result U E) (new a b : List A) → IsOk result → new ≡ (if is_ok result then a else b) → new ≡ a
appended (Ok u) new a b ok is = is
appended (Err e) new a b ok is = absurd (cc)

pub some_left : {A : Type 0} (xs : List A) (empty : Bool) → empty ≡ false → empty ≡ (length xs == 0) → 1 ≤ length xs
some_left [] empty not_so is = let e : false ≡ true = sym not_so ∙ is in absurd (cc)
some_left (x ∷ xs) empty not_so is = omega arith

-- where the changes of an edit stand among all of them
pub record IsPart (edits : List Edit) (changes : List CellChange) (place start end : ℕ) : Type 0 where
  pub rises : start ≤ end
  pub within : end ≤ length changes
  pub is : take (end - start) (drop start changes) ≡ get_or edits place []

pub part_is : (edits : List Edit) (changes : List CellChange) (place start end : ℕ) → changes ≡ all_of edits → place < length edits
    → start ≡ length (all_of (take place edits)) → end ≡ length (all_of (take (place + 1) edits)) → IsPart edits changes place start end
part_is edits changes place start end all below starts ends =
    let next : place + 1 ≡ suc place = omega arith in
    let ends_too : end ≡ length (all_of (take (suc place) edits)) = ends ∙ ap (λ n. length (all_of (take n edits))) next in
    record {
      rises = omega (arith, starts, ends_too, rises_by_one edits place);
      within = omega (arith, ends_too, ap length all, before_all edits (suc place));
      is = rw (starts, ends_too, all) (one_of_all edits place [] below);
    }

-- the edits of a list have their sizes
pub sized : (edits : List Edit) (ends : List ℕ) (changes : List CellChange) (place : ℕ) → edits_between 0 ends changes ≡ edits
    → AreEnds 0 ends (length changes) → place < length edits → HasSize (get_or edits place [])
sized edits ends changes place seen is below =
    subst (All HasSize) seen (edits_sized 0 ends changes (length changes) (omega arith) is) place [] below
