-- Edits one behind the other in the bytes of a message, as they are read.
use Rattle.std.proofs.Common.{◌≡◌, ℕ, zero, suc, ◌+◌, ◌-◌, ◌*◌, ◌<◌, ◌≤◌, List, [], ◌∷◌, ◌++◌, All, length, take, drop, set, get_or, slice_index, refl, sym, subst, ap, ap₂, ◌∙◌, arith}
use Rattle.std.proofs.Math.Seq.{drop-append-add}
use Rattle.std.proofs.lemmas.List.Elements.{All-push}
use Rattle.std.proofs.lemmas.List.{append-nil, append_assoc, drop-drop, drop_all, drop_at, flat_map_more, length-append, length-drop, take_all, take_more_set}
use Rattle.edit_log.specs.declared.edit.CellChange.{CellChange}
use Rattle.query_proto.specs.Frames.{change_bytes, changes_bytes}
use Rattle.query_proto.proofs.Several.{changes_long}
use Rattle.follow_proto.specs.Feeds.{HasPlace, IsSent, all_edit_bytes, edit_bytes}
use Rattle.follow_node.specs.Reading.{AreEditsOf, BeginsWithNoChange, BeginsWithNoEdit, LacksChanges, SpellNoEdits}

changes_more : (changes : List CellChange) (change : CellChange) → changes_bytes (changes ++ change ∷ []) ≡ changes_bytes changes ++ change_bytes change
changes_more changes change = sym (flat_map_more change_bytes [] changes change)

-- ---- the changes of one edit

-- the changes up to that place were read, behind the first byte
pub record IsReadTo (bytes : List ℕ) (changes : List CellChange) (place : ℕ) : Type 0 where
  pub read : drop 1 bytes ≡ changes_bytes (take place changes) ++ drop (1 + 5 * place) bytes
  pub places : All HasPlace (take place changes)

pub none_read : (bytes : List ℕ) (changes : List CellChange) → IsReadTo bytes changes 0
none_read bytes changes = record { read = refl; places = λ k d lt. absurd (omega arith) }

pub one_more_read : (bytes : List ℕ) (changes : List CellChange) (place : ℕ) (change : CellChange) → IsReadTo bytes changes place
    → place < length changes → drop (1 + 5 * place) bytes ≡ change_bytes change ++ drop (1 + 5 * place + 5) bytes → HasPlace change
    → IsReadTo bytes (set changes place change) (place + 1)
one_more_read bytes changes place change p below e has =
    let next : 1 + 5 * place + 5 ≡ 1 + 5 * (place + 1) = omega arith in
    let rest : List ℕ = drop (1 + 5 * place + 5) bytes in
    record {
      read = p.read ∙ ap (λ l. changes_bytes (take place changes) ++ l) e
          ∙ sym (append_assoc (changes_bytes (take place changes)) (change_bytes change) rest)
          ∙ ap (λ l. l ++ rest) (sym (changes_more (take place changes) change))
          ∙ ap (λ l. changes_bytes l ++ rest) (sym (take_more_set changes place change below))
          ∙ ap (λ n. changes_bytes (take (place + 1) (set changes place change)) ++ drop n bytes) next;
      places = subst (All HasPlace) (sym (take_more_set changes place change below)) (All-push HasPlace (take place changes) change p.places has);
    }

-- what stands behind the first so many changes
changes_from : (place : ℕ) (changes : List CellChange) (rest : List ℕ) → place ≤ length changes
    → drop (5 * place) (changes_bytes changes ++ rest) ≡ changes_bytes (drop place changes) ++ rest
changes_from zero changes rest within = refl
changes_from (suc place) [] rest within = absurd (omega arith)
changes_from (suc place) (change ∷ changes) rest within =
    let at : 5 * suc place ≡ length (change_bytes change) + 5 * place = omega arith in
    ap₂ drop at (append_assoc (change_bytes change) (changes_bytes changes) rest)
    ∙ drop-append-add (change_bytes change) (changes_bytes changes ++ rest) (5 * place)
    ∙ changes_from place changes rest (omega arith)

begins : (bytes rest : List ℕ) (changes : List CellChange) → bytes ≡ changes_bytes changes ++ rest → 0 < length changes → BeginsWithNoChange bytes → ⊥
begins bytes rest [] e some none = absurd (omega arith)
begins bytes rest (change ∷ changes) e some none =
    none change (changes_bytes changes ++ rest) (e ∙ append_assoc (change_bytes change) (changes_bytes changes) rest)

-- where one of them is no change all of them are none
pub read_stuck : (bytes : List ℕ) (place count : ℕ) → place < count → BeginsWithNoChange (drop (1 + 5 * place) bytes) → LacksChanges bytes count
read_stuck bytes place count below none changes first rest size e =
    let here : drop (1 + 5 * place) bytes ≡ changes_bytes (drop place changes) ++ rest =
    sym (drop-drop (5 * place) 1 bytes) ∙ ap (λ l. drop (5 * place) (drop 1 l)) e ∙ changes_from place changes rest (omega arith) in
    begins (drop (1 + 5 * place) bytes) rest (drop place changes) here (omega (arith, length-drop place changes)) none

-- ---- one edit

first_is : (bytes rest : List ℕ) (edit : List CellChange) → bytes ≡ edit_bytes edit ++ rest → slice_index bytes 0 ≡ length edit
first_is bytes rest edit e = ap (λ l. slice_index l 0) e

edit_long : (edit : List CellChange) → length (edit_bytes edit) ≡ 1 + 5 * length edit
edit_long edit = omega (arith, changes_long edit)

pub none_of : (bytes : List ℕ) (count : ℕ) → slice_index bytes 0 ≡ count → (1 ≤ count → count ≤ 64 → 1 + 5 * count ≤ length bytes → ⊥)
    → BeginsWithNoEdit bytes
none_of bytes count is off edit rest size e =
    let same : slice_index bytes 0 ≡ length edit = first_is bytes rest edit e in
    let long : length bytes ≡ length (edit_bytes edit ++ rest) = ap length e in
    off (omega (arith, is, same, size.size.0)) (omega (arith, is, same, size.size.1))
    (omega (arith, is, same, long, length-append (edit_bytes edit) rest, edit_long edit))

pub none_read_of : (bytes : List ℕ) (count : ℕ) → slice_index bytes 0 ≡ count → LacksChanges bytes count → BeginsWithNoEdit bytes
none_read_of bytes count is lacks edit rest size e = lacks edit (length edit) rest (sym (first_is bytes rest edit e) ∙ is) e

pub edit_read : (bytes : List ℕ) (edit : List CellChange) → 0 < length bytes → slice_index bytes 0 ≡ length edit
    → drop 1 bytes ≡ changes_bytes edit ++ drop (1 + 5 * length edit) bytes → bytes ≡ edit_bytes edit ++ drop (1 + 5 * length edit) bytes
edit_read [] edit some is e = absurd (omega arith)
edit_read (first ∷ bytes) edit some is e = ap₂ (λ x l. x ∷ l) is e

-- ---- edits, one behind the other

-- all bytes from a place on
pub all_from : (at : ℕ) (bytes : List ℕ) → take (length bytes - at) (drop at bytes) ≡ drop at bytes
all_from at bytes = take_all (length bytes - at) (drop at bytes) (omega (arith, length-drop at bytes))

same_rest : (one other : List CellChange) (a b : List ℕ) → edit_bytes one ++ a ≡ edit_bytes other ++ b → a ≡ b
same_rest one other a b e =
    let same : length one ≡ length other = ap (λ l. slice_index l 0) e in
    let size : length (edit_bytes one) ≡ length (edit_bytes other) = omega (arith, same, edit_long one, edit_long other) in
    sym (drop_at (edit_bytes one) a (length (edit_bytes one)) refl)
    ∙ ap (drop (length (edit_bytes one))) e
    ∙ drop_at (edit_bytes other) b (length (edit_bytes one)) (sym size)

-- the edits before that place of the bytes were read
pub record AreReadTo (bytes : List ℕ) (count : ℕ) (edits : List (List CellChange)) (at place : ℕ) : Type 0 where
  pub count_is : length edits ≡ place
  pub each : All IsSent edits
  pub within : at ≤ length bytes
  pub read : bytes ≡ all_edit_bytes edits ++ drop at bytes
  -- whatever edits these are the bytes of, the others of them are behind
  pub rest : (others : List (List CellChange)) → AreEditsOf bytes count others → drop at bytes ≡ all_edit_bytes (drop place others)

pub nothing_read : (bytes : List ℕ) (count : ℕ) (edits : List (List CellChange)) → edits ≡ [] → AreReadTo bytes count edits 0 0
nothing_read bytes count edits none = record {
  count_is = ap length none;
  each = subst (All IsSent) (sym none) (λ k d lt. absurd (omega arith));
  within = omega arith;
  read = ap (λ l. all_edit_bytes l ++ bytes) (sym none);
  rest = λ others is. is.bytes_are;
}

pub next_of : (others : List (List CellChange)) (place : ℕ) → place < length others → drop place others ≡ get_or others place [] ∷ drop (place + 1) others
next_of [] place below = absurd (omega arith)
next_of (x ∷ others) zero below = refl
next_of (x ∷ others) (suc place) below =
    let e : suc (place + 1) ≡ suc place + 1 = omega arith in
    next_of others place (omega arith) ∙ ap (λ n. get_or others place [] ∷ drop n (x ∷ others)) e

edits_more : (edits : List (List CellChange)) (edit : List CellChange) → all_edit_bytes (edits ++ edit ∷ []) ≡ all_edit_bytes edits ++ edit_bytes edit
edits_more edits edit = sym (flat_map_more edit_bytes [] edits edit)

pub one_edit_more : (bytes part : List ℕ) (count : ℕ) (edits after : List (List CellChange)) (at place next : ℕ) (edit : List CellChange)
    → AreReadTo bytes count edits at place → place < count → after ≡ edits ++ edit ∷ []
    → part ≡ drop at bytes → part ≡ edit_bytes edit ++ drop (1 + 5 * length edit) part
    → 1 + 5 * length edit ≤ length part → IsSent edit → next ≡ at + (1 + 5 * length edit)
    → AreReadTo bytes count after next (place + 1)
one_edit_more bytes part count edits after at place next edit p below is part_is e_part fits_part size next_is =
    let e : drop at bytes ≡ edit_bytes edit ++ drop (1 + 5 * length edit) (drop at bytes) =
    subst (λ l. l ≡ edit_bytes edit ++ drop (1 + 5 * length edit) l) part_is e_part in
    let fits : 1 + 5 * length edit ≤ length (drop at bytes) = subst (λ l. 1 + 5 * length edit ≤ length l) part_is fits_part in
    let ahead : drop (1 + 5 * length edit) (drop at bytes) ≡ drop next bytes =
    drop-drop (1 + 5 * length edit) at bytes ∙ ap (λ n. drop n bytes) (sym next_is) in
    record {
      count_is = ap length is ∙ length-append edits (edit ∷ []) ∙ ap (λ n. n + 1) p.count_is;
      each = subst (All IsSent) (sym is) (All-push IsSent edits edit p.each size);
      within = omega (arith, p.within, fits, next_is, length-drop at bytes);
      read = p.read ∙ ap (λ l. all_edit_bytes edits ++ l) (e ∙ ap (λ l. edit_bytes edit ++ l) ahead)
          ∙ sym (append_assoc (all_edit_bytes edits) (edit_bytes edit) (drop next bytes))
          ∙ ap (λ l. l ++ drop next bytes) (sym (edits_more edits edit))
          ∙ ap (λ l. all_edit_bytes l ++ drop next bytes) (sym is);
      rest = λ others of.
          let other = get_or others place [] in
          let later = drop (place + 1) others in
          let whole : edit_bytes edit ++ drop next bytes ≡ edit_bytes other ++ all_edit_bytes later =
          sym (e ∙ ap (λ l. edit_bytes edit ++ l) ahead) ∙ p.rest others of ∙ ap all_edit_bytes (next_of others place (omega (arith, of.count_is, below))) in
          same_rest edit other (drop next bytes) (all_edit_bytes later) whole;
    }

pub edits_stuck : (bytes : List ℕ) (count : ℕ) (edits : List (List CellChange)) (at place : ℕ) → AreReadTo bytes count edits at place
    → place < count → BeginsWithNoEdit (drop at bytes) → SpellNoEdits bytes count
edits_stuck bytes count edits at place p below none others of =
    let within : place < length others = omega (arith, of.count_is, below) in
    none (get_or others place []) (all_edit_bytes (drop (place + 1) others)) (of.each place [] within)
    (p.rest others of ∙ ap all_edit_bytes (next_of others place within))

pub edits_read : (bytes : List ℕ) (count : ℕ) (edits : List (List CellChange)) (at place : ℕ) → AreReadTo bytes count edits at place
    → place ≡ count → at ≡ length bytes → AreEditsOf bytes count edits
edits_read bytes count edits at place p all end = record {
  count_is = p.count_is ∙ all;
  each = p.each;
  bytes_are = p.read ∙ ap (λ l. all_edit_bytes edits ++ l) (drop_all at bytes (omega (arith, end))) ∙ append-nil (all_edit_bytes edits);
}

pub edits_left : (bytes : List ℕ) (count : ℕ) (edits : List (List CellChange)) (at place : ℕ) → AreReadTo bytes count edits at place
    → place ≡ count → (at ≡ length bytes → ⊥) → SpellNoEdits bytes count
edits_left bytes count edits at place p all other others of =
    let none : drop place others ≡ [] = drop_all place others (omega (arith, of.count_is, all)) in
    let nothing : length (drop at bytes) ≡ 0 = ap length (p.rest others of ∙ ap all_edit_bytes none) in
    other (omega (arith, nothing, length-drop at bytes, p.within))
