-- How events are kept: the edit of one that submits is named by its place in a list of edits.
use Rattle.std.specs.Prelude.{ℕ, ◌<◌, List, [], map, slice_index_or}
use Rattle.edit_log.specs.declared.edit.Edit.{Edit}
use Rattle.path_replay.specs.declared.event.Event.{Event}
use Rattle.path_replay.specs.declared.event.Event.TheVariants.{Submit, Look, Query, Begin, Row, Publish, Halt}
use Rattle.path_replay.specs.declared.kept_event.KeptEvent.{KeptEvent}
use Rattle.path_replay.specs.declared.kept_event.KeptEvent.TheVariants.{Submit as KeptSubmit, Look as KeptLook, Query as KeptQuery, Begin as KeptBegin, Row as KeptRow, Publish as KeptPublish, Halt as KeptHalt}

-- the event that is kept, with these edits
abbrev pub event_of : List Edit → KeptEvent → Event
event_of edits (KeptSubmit pass place) = Submit pass (slice_index_or edits place [])
event_of edits (KeptLook pass) = Look pass
event_of edits (KeptQuery pass start goal) = Query pass start goal
event_of edits (KeptBegin pass) = Begin pass
event_of edits (KeptRow pass) = Row pass
event_of edits (KeptPublish pass) = Publish pass
event_of edits (KeptHalt pass) = Halt pass

-- the events that are kept
abbrev pub events_of : List Edit → List KeptEvent → List Event
events_of edits kept = map (event_of edits) kept

-- there is an edit at the place, of so many
abbrev pub IsPlaced : ℕ → KeptEvent → Type 0
IsPlaced count (KeptSubmit pass place) = place < count
IsPlaced count (KeptLook pass) = Unit {0}
IsPlaced count (KeptQuery pass start goal) = Unit {0}
IsPlaced count (KeptBegin pass) = Unit {0}
IsPlaced count (KeptRow pass) = Unit {0}
IsPlaced count (KeptPublish pass) = Unit {0}
IsPlaced count (KeptHalt pass) = Unit {0}
