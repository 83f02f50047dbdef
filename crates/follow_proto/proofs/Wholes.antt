-- Messages that are written whole, and their heads.
use Rattle.std.proofs.Common.{◌≡◌, ℕ, ◌+◌, ◌*◌, ◌≤◌, List, [], ◌∷◌, ◌++◌, length, drop, map, refl, sym, subst, ap, ap₂, ◌∙◌, arith}
use Rattle.std.proofs.lemmas.List.{append-nil, drop_all, length-map}
use Rattle.byteorder.specs.Endian.{big_bytes}
use Rattle.moves.specs.Maps.{Map}
use Rattle.edit_log.specs.declared.edit.CellChange.{CellChange}
use Rattle.query_proto.specs.Frames.{StandsAtFront, terrain_byte}
use Rattle.follow_proto.specs.declared.kinds.TheConstants as kind
use Rattle.follow_proto.specs.Feeds.{all_edit_bytes, edits_bytes, frame_bytes, start_bytes}
use Rattle.follow_proto.specs.Feeds.Message.{Start, Edits}

-- what stands at the front of a piece that is no longer is all of it
pub all_of : (bytes before after : List ℕ) (count : ℕ) → length before ≤ length bytes → StandsAtFront bytes before after count → after ≡ bytes
all_of bytes before after count fits stands =
    stands.1 ∙ ap (λ l. bytes ++ l) (drop_all count before (omega (arith, stands.0))) ∙ append-nil bytes

-- a length, a kind and two numbers
abbrev pub head_of : ℕ → ℕ → ℕ → ℕ → List ℕ
head_of size first a b = ((big_bytes 4 size ++ first ∷ []) ++ big_bytes 4 a) ++ big_bytes 4 b

pub start_whole : (m : Map) (w h : ℕ) (head : List ℕ) → head ≡ head_of (9 + w * h) kind.START w h
    → m.width ≡ w → m.height ≡ h → length m.terrain ≡ w * h → head ++ map terrain_byte m.terrain ≡ start_bytes m
start_whole m w h head is mw mh len =
    let cells : List ℕ = map terrain_byte m.terrain in
    let long : length cells ≡ length m.terrain = length-map m.terrain terrain_byte in
    let size : 9 + w * h ≡ length (frame_bytes (Start m)) = omega (arith, len, long) in
    ap (λ l. l ++ cells) (is ∙ ap (λ n. head_of n kind.START w h) size
    ∙ ap₂ (λ a b. head_of (length (frame_bytes (Start m))) kind.START a b) (sym mw) (sym mh))

pub edits_whole : (known size count : ℕ) (edits : List (List CellChange)) (head : List ℕ) → head ≡ head_of (9 + size) kind.EDITS known count
    → size ≡ length (all_edit_bytes edits) → count ≡ length edits → head ++ all_edit_bytes edits ≡ edits_bytes known edits
edits_whole known size count edits head is long counts =
    let whole : 9 + size ≡ length (frame_bytes (Edits known edits)) = omega (arith, long) in
    ap (λ l. l ++ all_edit_bytes edits) (is ∙ ap₂ (λ n k. head_of n kind.EDITS known k) whole counts)
