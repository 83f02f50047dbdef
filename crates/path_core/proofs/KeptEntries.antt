-- How a board keeps its entries, as entries are made.
use Rattle.std.proofs.Common.{◌≡◌, ℕ, suc, ◌≤◌, List, [], ◌∷◌, ◌++◌, length, get_or, All, arith, refl, sym, ap, ◌∙◌}
use Rattle.std.proofs.Math.ListN.{get_or-append}
use Rattle.std.proofs.lemmas.List.{get_or_push, map-append}
use Rattle.std.proofs.lemmas.List.Elements.{All-push}
use Rattle.edit_log.specs.declared.edit.Edit.{Edit}
use Rattle.path_core.specs.declared.entry.Entry.TheVariants.{Accept}
use Rattle.path_core.specs.declared.kept_entry.KeptEntry.{KeptEntry}
use Rattle.path_core.specs.declared.kept_entry.KeptEntry.TheVariants.{Accept as KeptAccept, Publish as KeptPublish, Halt as KeptHalt}
use Rattle.path_core.specs.KeptEntries.{entries_of, entry_of, IsPlaced}

-- a further edit leaves what is kept as it is
same_entry : (edits more : List Edit) (entry : KeptEntry) → IsPlaced (length edits) entry → entry_of (edits ++ more) entry ≡ entry_of edits entry
same_entry edits more (KeptAccept pass place) placed = ap (Accept pass) (get_or-append edits more [] place placed)
same_entry edits more (KeptPublish pass prefix) placed = refl
same_entry edits more (KeptHalt pass) placed = refl

same_entries : (edits more : List Edit) (kept : List KeptEntry) → All (IsPlaced (length edits)) kept
    → entries_of (edits ++ more) kept ≡ entries_of edits kept
same_entries edits more [] placed = refl
same_entries edits more (entry ∷ kept) placed =
    rw (same_entry edits more entry (placed 0 entry (omega arith)), same_entries edits more kept (λ k d lt. placed (suc k) d (omega (arith, lt)))) refl

still_placed : (count more : ℕ) (entry : KeptEntry) → count ≤ more → IsPlaced count entry → IsPlaced more entry
still_placed count more (KeptAccept pass place) grows placed = omega (arith, placed, grows)
still_placed count more (KeptPublish pass prefix) grows placed = tt
still_placed count more (KeptHalt pass) grows placed = tt

pub all_placed : (count more : ℕ) (kept : List KeptEntry) (entry : KeptEntry) → count ≤ more → All (IsPlaced count) kept → IsPlaced more entry
    → All (IsPlaced more) (kept ++ entry ∷ [])
all_placed count more kept entry grows placed here =
    All-push (IsPlaced more) kept entry (λ k d lt. still_placed count more (get_or kept k d) grows (placed k d lt)) here

-- one entry more
pub entry_added : (edits : List Edit) (kept : List KeptEntry) (entry : KeptEntry)
    → entries_of edits (kept ++ entry ∷ []) ≡ entries_of edits kept ++ entry_of edits entry ∷ []
entry_added edits kept entry = map-append (entry_of edits) kept (entry ∷ [])

-- one that accepts an edit
pub edit_added : (edits : List Edit) (edit : Edit) (kept : List KeptEntry) (pass place : ℕ) → All (IsPlaced (length edits)) kept → place ≡ length edits
    → entries_of (edits ++ edit ∷ []) (kept ++ KeptAccept pass place ∷ []) ≡ entries_of edits kept ++ Accept pass edit ∷ []
edit_added edits edit kept pass place placed last =
    entry_added (edits ++ edit ∷ []) kept (KeptAccept pass place)
    ∙ ap (λ h. h ++ Accept pass (get_or (edits ++ edit ∷ []) place []) ∷ []) (same_entries edits (edit ∷ []) kept placed)
    ∙ ap (λ e. entries_of edits kept ++ Accept pass e ∷ []) (get_or_push edits edit [] place (sym last))
