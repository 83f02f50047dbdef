-- How a board keeps its entries: an accepted edit is named by its place among the accepted ones.
use Rattle.std.specs.Prelude.{ℕ, ◌<◌, List, [], map, slice_index_or}
use Rattle.edit_log.specs.declared.edit.Edit.{Edit}
use Rattle.path_core.specs.declared.entry.Entry.{Entry}
use Rattle.path_core.specs.declared.entry.Entry.TheVariants.{Accept, Publish, Halt}
use Rattle.path_core.specs.declared.kept_entry.KeptEntry.{KeptEntry}
use Rattle.path_core.specs.declared.kept_entry.KeptEntry.TheVariants.{Accept as KeptAccept, Publish as KeptPublish, Halt as KeptHalt}

-- the entry that is kept, given these accepted edits
abbrev pub entry_of : List Edit → KeptEntry → Entry
entry_of edits (KeptAccept pass place) = Accept pass (slice_index_or edits place [])
entry_of edits (KeptPublish pass prefix) = Publish pass prefix
entry_of edits (KeptHalt pass) = Halt pass

-- the history that is kept
abbrev pub entries_of : List Edit → List KeptEntry → List Entry
entries_of edits kept = map (entry_of edits) kept

-- if the entry accepts an edit, its place is below this number of edits
abbrev pub IsPlaced : ℕ → KeptEntry → Type 0
IsPlaced count (KeptAccept pass place) = place < count
IsPlaced count (KeptPublish pass prefix) = Unit {0}
IsPlaced count (KeptHalt pass) = Unit {0}
