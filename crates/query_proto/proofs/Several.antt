-- Changes one behind the other in the bytes of a frame.
use Rattle.std.proofs.Common.{◌≡◌, ℕ, zero, suc, ◌+◌, ◌*◌, ◌<◌, ◌≤◌, List, [], ◌∷◌, ◌++◌, length, take, drop, set, get_or, slice_index, refl, sym, subst, ap, ap₂, ◌∙◌, arith}
use Rattle.std.proofs.Math.Seq.{drop-append-add}
use Rattle.std.proofs.lemmas.List.{append-nil, append_assoc, drop-drop, drop_all, drop_at, flat_map_more, length-append, length-drop, take_all, take_more, take_more_set}
use Rattle.moves.specs.declared.Terrain.{Terrain}
use Rattle.moves.specs.declared.Terrain.TheVariants.{Blocked, Land, Water}
use Rattle.edit_log.specs.declared.edit.CellChange.{CellChange}
use Rattle.query_proto.specs.declared.kinds.TheConstants as kind
use Rattle.query_proto.specs.Frames.{BeginsWithNoChange, CountsChanges, GrowsFront, IsEditSize, SpellsNoChanges, StandsAtFront}
use Rattle.query_proto.specs.Frames.{change_bytes, changes_bytes, edit_bytes, terrain_byte}

-- ---- their bytes

-- a change has five
pub changes_long : (changes : List CellChange) → length (changes_bytes changes) ≡ 5 * length changes
changes_long [] = refl
changes_long (change ∷ changes) =
    let five : length (change_bytes change) ≡ 5 = refl in
    omega (arith, five, length-append (change_bytes change) (changes_bytes changes), changes_long changes)

-- those from one change on
changes_from : (place : ℕ) (changes : List CellChange) → drop (5 * place) (changes_bytes changes) ≡ changes_bytes (drop place changes)
changes_from zero changes = refl
changes_from (suc place) [] = drop_all (5 * suc place) [] (omega arith)
changes_from (suc place) (change ∷ changes) =
    let at : 5 * suc place ≡ length (change_bytes change) + 5 * place = omega arith in
    ap (λ n. drop n (changes_bytes (change ∷ changes))) at ∙ drop-append-add (change_bytes change) (changes_bytes changes) (5 * place)
    ∙ changes_from place changes

-- those of one change more
changes_more : (changes : List CellChange) (change : CellChange) → changes_bytes (changes ++ change ∷ []) ≡ changes_bytes changes ++ change_bytes change
changes_more changes change = sym (flat_map_more change_bytes [] changes change)

-- those of several changes
pub several_bytes : (changes : List CellChange) → 2 ≤ length changes → edit_bytes changes ≡ kind.CHANGES ∷ length changes ∷ changes_bytes changes
several_bytes [] many = absurd (omega arith)
several_bytes (change ∷ []) many = absurd (omega arith)
several_bytes (change ∷ next ∷ rest) many = refl

pub other_bytes : (changes : List CellChange) (size : ℕ) → size ≡ length changes → (size ≡ 1 → ⊥)
    → edit_bytes changes ≡ kind.CHANGES ∷ length changes ∷ changes_bytes changes
other_bytes [] size is many = refl
other_bytes (change ∷ []) size is many = absurd (many is)
other_bytes (change ∷ next ∷ rest) size is many = refl

-- ---- how they are read

-- a terrain has a number of at most 2
terrain_low : (terrain : Terrain) → terrain_byte terrain ≤ 2
terrain_low Blocked = omega arith
terrain_low Land = omega arith
terrain_low Water = omega arith

pub no_change : (bytes rest : List ℕ) (cell : List ℕ) (byte : ℕ) → length cell ≡ 4 → bytes ≡ cell ++ byte ∷ rest → 2 < byte → BeginsWithNoChange bytes
no_change bytes rest cell byte four e high change others f =
    let same : byte ≡ terrain_byte change.terrain =
    ap (λ l. slice_index l 0) (sym (drop_at cell (byte ∷ rest) 4 four) ∙ ap (drop 4) (sym e ∙ f)) in
    omega (arith, same, high, terrain_low change.terrain)

-- the changes up to that place were read, behind the kind and the number
pub record IsReadTo (frame : List ℕ) (changes : List CellChange) (place : ℕ) : Type 0 where
  pub read : drop 2 frame ≡ changes_bytes (take place changes) ++ drop (2 + 5 * place) frame

pub none_read : (frame : List ℕ) (changes : List CellChange) → IsReadTo frame changes 0
none_read frame changes = record { read = refl }

pub one_more_read : (frame : List ℕ) (changes : List CellChange) (place : ℕ) (change : CellChange) → IsReadTo frame changes place
    → place < length changes → drop (2 + 5 * place) frame ≡ change_bytes change ++ drop (2 + 5 * place + 5) frame
    → IsReadTo frame (set changes place change) (place + 1)
one_more_read frame changes place change p below e =
    let next : 2 + 5 * place + 5 ≡ 2 + 5 * (place + 1) = omega arith in
    let rest : List ℕ = drop (2 + 5 * place + 5) frame in
    record {
      read = p.read ∙ ap (λ l. changes_bytes (take place changes) ++ l) e
          ∙ sym (append_assoc (changes_bytes (take place changes)) (change_bytes change) rest)
          ∙ ap (λ l. l ++ rest) (sym (changes_more (take place changes) change))
          ∙ ap (λ l. changes_bytes l ++ rest) (sym (take_more_set changes place change below))
          ∙ ap (λ n. changes_bytes (take (place + 1) (set changes place change)) ++ drop n frame) next;
    }

pub all_read : (frame : List ℕ) (changes : List CellChange) (place : ℕ) → IsReadTo frame changes place → length changes ≤ place
    → length frame ≡ 2 + 5 * length changes → drop 2 frame ≡ changes_bytes changes
all_read frame changes place p past long =
    let nothing : drop (2 + 5 * place) frame ≡ [] = drop_all (2 + 5 * place) frame (omega arith) in
    p.read ∙ ap₂ (λ l m. changes_bytes l ++ m) (take_all place changes past) nothing ∙ append-nil (changes_bytes changes)

begins : (bytes : List ℕ) (changes : List CellChange) → bytes ≡ changes_bytes changes → 0 < length bytes → BeginsWithNoChange bytes → ⊥
begins bytes [] e some none = let empty : length bytes ≡ 0 = ap length e in omega arith
begins bytes (change ∷ changes) e some none = none change (changes_bytes changes) e

-- where one of them is no change all of them are none
pub read_stuck : (frame : List ℕ) (place : ℕ) → 2 + 5 * place < length frame → BeginsWithNoChange (drop (2 + 5 * place) frame)
    → SpellsNoChanges (drop 2 frame)
read_stuck frame place long none changes e =
    let here : drop (2 + 5 * place) frame ≡ changes_bytes (drop place changes) =
    sym (drop-drop (5 * place) 2 frame) ∙ ap (drop (5 * place)) e ∙ changes_from place changes in
    begins (drop (2 + 5 * place) frame) (drop place changes) here (omega (arith, length-drop (2 + 5 * place) frame)) none

-- a frame that counts changes and has them
pub several_spelled : (frame : List ℕ) (count : ℕ) (edit : List CellChange) → slice_index frame 0 ≡ kind.CHANGES → CountsChanges frame count
    → drop 2 frame ≡ changes_bytes edit → length edit ≡ count → IsEditSize edit × (frame ≡ edit_bytes edit)
several_spelled [] count edit k p e size = absurd (omega (arith, p.long))
several_spelled (first ∷ frame) count edit k p e size = (
  (omega (arith, size, p.several), omega (arith, size, p.few)),
  ap₂ (λ x xs. x ∷ xs) k (p.told ∙ ap₂ (λ n l. n ∷ l) (sym size) e) ∙ sym (several_bytes edit (omega (arith, size, p.several))),
)

-- ---- how they are written

-- the changes up to that place were written, behind the kind and the number
pub record IsPutTo (changes : List CellChange) (place : ℕ) (before after : List ℕ) (at : ℕ) : Type 0 where
  pub front : StandsAtFront (kind.CHANGES ∷ length changes ∷ changes_bytes (take place changes)) before after at
  pub next : at ≡ 2 + 5 * place
  pub len : length after ≡ length before

pub one_more_put : (changes : List CellChange) (place : ℕ) (before mid after : List ℕ) (at next : ℕ) (d : CellChange)
    → IsPutTo changes place before mid at → place < length changes → GrowsFront (change_bytes (get_or changes place d)) at mid after next
    → next ≡ at + 5 → length after ≡ length mid → IsPutTo changes (place + 1) before after next
one_more_put changes place before mid after at next d p below grows is len =
    let change : CellChange = get_or changes place d in
    let same : changes_bytes (take place changes) ++ change_bytes change ≡ changes_bytes (take (place + 1) changes) =
    sym (changes_more (take place changes) change) ∙ ap changes_bytes (sym (take_more changes place d below)) in
    record {
      front = subst (λ l. StandsAtFront (kind.CHANGES ∷ length changes ∷ l) before after next) same
          (grows (kind.CHANGES ∷ length changes ∷ changes_bytes (take place changes)) before p.front);
      next = omega (arith, p.next, is);
      len = len ∙ p.len;
    }

pub all_put : (changes : List CellChange) (place : ℕ) (before after : List ℕ) (at : ℕ) → IsPutTo changes place before after at
    → length changes ≤ place → StandsAtFront (kind.CHANGES ∷ length changes ∷ changes_bytes changes) before after at
all_put changes place before after at p past =
    subst (λ l. StandsAtFront (kind.CHANGES ∷ length changes ∷ changes_bytes l) before after at) (take_all place changes past) p.front
