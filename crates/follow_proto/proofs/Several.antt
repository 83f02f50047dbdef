-- Edits one behind the other, and the changes of each.
use Rattle.std.proofs.Common.{◌≡◌, ℕ, ◌+◌, ◌*◌, ◌<◌, ◌≤◌, List, [], ◌∷◌, ◌++◌, length, take, get_or, refl, sym, subst, ap, ◌∙◌, arith}
use Rattle.std.proofs.lemmas.List.{flat_map_more, length-append, take_all, take_more}
use Rattle.edit_log.specs.declared.edit.CellChange.{CellChange}
use Rattle.query_proto.specs.Frames.{GrowsFront, StandsAtFront, change_bytes, changes_bytes}
use Rattle.query_proto.proofs.Several.{changes_long}
use Rattle.follow_proto.specs.Feeds.{all_edit_bytes, edit_bytes}

-- the bytes of one edit more
pub edits_more : (edits : List (List CellChange)) (edit : List CellChange) → all_edit_bytes (edits ++ edit ∷ []) ≡ all_edit_bytes edits ++ edit_bytes edit
edits_more edits edit = sym (flat_map_more edit_bytes [] edits edit)

-- how many bytes the first so many edits have
pub record IsCountedTo (edits : List (List CellChange)) (place size : ℕ) : Type 0 where
  pub is : size ≡ length (all_edit_bytes (take place edits))
  pub limit : size ≤ 321 * place

pub none_counted : (edits : List (List CellChange)) → IsCountedTo edits 0 0
none_counted edits = record { is = refl; limit = omega arith }

pub one_more_counted : (edits : List (List CellChange)) (place size : ℕ) (edit : List CellChange) → IsCountedTo edits place size
    → place < length edits → edit ≡ get_or edits place [] → length edit ≤ 64 → IsCountedTo edits (place + 1) (size + (1 + 5 * length edit))
one_more_counted edits place size edit p below is few =
    let next : take (place + 1) edits ≡ take place edits ++ edit ∷ [] =
    take_more edits place [] below ∙ ap (λ e. take place edits ++ e ∷ []) (sym is) in
    let bytes : length (all_edit_bytes (take (place + 1) edits)) ≡ length (all_edit_bytes (take place edits) ++ edit_bytes edit) =
    ap (λ l. length (all_edit_bytes l)) next ∙ ap length (edits_more (take place edits) edit) in
    record {
      is = omega (arith, bytes, p.is, length-append (all_edit_bytes (take place edits)) (edit_bytes edit), changes_long edit);
      limit = omega (arith, p.limit, few);
    }

-- the bytes of one change more
changes_more : (changes : List CellChange) (change : CellChange) → changes_bytes (changes ++ change ∷ []) ≡ changes_bytes changes ++ change_bytes change
changes_more changes change = sym (flat_map_more change_bytes [] changes change)

-- the number of the changes was written, and the changes up to that place behind it
pub record IsPutTo (changes : List CellChange) (place : ℕ) (before after : List ℕ) (at : ℕ) : Type 0 where
  pub front : StandsAtFront (length changes ∷ changes_bytes (take place changes)) before after at
  pub next : at ≡ 1 + 5 * place
  pub len : length after ≡ length before

pub one_more_put : (changes : List CellChange) (place : ℕ) (before mid after : List ℕ) (at next : ℕ) (d : CellChange)
    → IsPutTo changes place before mid at → place < length changes → GrowsFront (change_bytes (get_or changes place d)) at mid after next
    → next ≡ at + 5 → length after ≡ length mid → IsPutTo changes (place + 1) before after next
one_more_put changes place before mid after at next d p below grows is len =
    let change : CellChange = get_or changes place d in
    let same : changes_bytes (take place changes) ++ change_bytes change ≡ changes_bytes (take (place + 1) changes) =
    sym (changes_more (take place changes) change) ∙ ap changes_bytes (sym (take_more changes place d below)) in
    record {
      front = subst (λ l. StandsAtFront (length changes ∷ l) before after next) same
          (grows (length changes ∷ changes_bytes (take place changes)) before p.front);
      next = omega (arith, p.next, is);
      len = len ∙ p.len;
    }

pub all_put : (changes : List CellChange) (place : ℕ) (before after : List ℕ) (at : ℕ) → IsPutTo changes place before after at
    → length changes ≤ place → StandsAtFront (edit_bytes changes) before after at
all_put changes place before after at p past =
    subst (λ l. StandsAtFront (length changes ∷ changes_bytes l) before after at) (take_all place changes past) p.front
