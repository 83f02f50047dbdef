-- Messages in two parts: the head, and what it says is behind it.
use Rattle.std.proofs.Common.{◌≡◌, ℕ, ◌-◌, ◌*◌, List, ◌++◌, drop, length, map, min, take, sym, ap, ap₂, ◌∙◌}
use Rattle.std.proofs.lemmas.List.{length-drop, take_min}
use Rattle.moves.specs.Maps.{Map}
use Rattle.edit_log.specs.declared.edit.CellChange.{CellChange}
use Rattle.query_proto.specs.Frames.{terrain_byte}
use Rattle.follow_proto.specs.declared.TheConstants.{MAX_SENT}
use Rattle.follow_proto.specs.Feeds.{HasHead, all_edit_bytes, edits_bytes, start_bytes}

-- the edits of a message, as many as one may have
pub whole_of : (known first count : ℕ) (edits : List (List CellChange)) (head : List ℕ) → count ≡ min MAX_SENT (length edits - first)
    → head ++ all_edit_bytes (take count (drop first edits)) ≡ edits_bytes known (take count (drop first edits))
    → head ++ all_edit_bytes (take count (drop first edits)) ≡ edits_bytes known (take MAX_SENT (drop first edits))
whole_of known first count edits head is e =
    let xs = drop first edits in
    let same : take count xs ≡ take MAX_SENT xs = ap (λ n. take n xs) (is ∙ ap (min MAX_SENT) (sym (length-drop first edits))) ∙ take_min MAX_SENT xs in
    e ∙ ap (edits_bytes known) same

-- the map
pub start_of : (m : Map) (width height : ℕ) (head : List ℕ) → HasHead width height head → width ≡ m.width → height ≡ m.height
    → length m.terrain ≡ m.width * m.height → head ++ map terrain_byte m.terrain ≡ start_bytes m
start_of m width height head has w h cells = has m (sym w) (sym h) (cells ∙ ap₂ (λ a b. a * b) (sym w) (sym h))
