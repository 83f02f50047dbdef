-- The parts of the frame of a message.
use Rattle.std.proofs.Common.{◌≡◌, ℕ, ◌+◌, ◌*◌, ◌^◌, ◌<◌, ◌≤◌, List, [], ◌∷◌, ◌++◌, length, map, drop, slice_index, sym, subst, ap, ap₂, ◌∙◌, arith}
use Rattle.std.proofs.lemmas.List.{length-drop, length-map}
use Rattle.byteorder.specs.Endian.{big_bytes}
use Rattle.moves.specs.declared.Terrain.{Terrain}
use Rattle.moves.specs.Maps.{Map, IsSearchable, IsWithinLimits, map_of}
use Rattle.edit_log.specs.declared.edit.CellChange.{CellChange}
use Rattle.query_proto.specs.Frames.{terrain_byte}
use Rattle.follow_proto.specs.declared.kinds.TheConstants as kind
use Rattle.follow_proto.specs.Feeds.{all_edit_bytes, frame_bytes}
use Rattle.follow_proto.specs.Feeds.Message.{Start, Edits}
use Rattle.follow_node.specs.Reading.{AreEditsOf, SpellNoEdits, SpellNoTerrain, Spells, SpellsNoEdits, SpellsNoStart}
use Rattle.follow_node.proofs.Numbers.{same_number}
use Rattle.follow_node.proofs.TerrainBytes.{same_terrain}

-- a kind in front of other bytes
pub with_kind : (frame rest : List ℕ) (first : ℕ) → 0 < length frame → slice_index frame 0 ≡ first → drop 1 frame ≡ rest → frame ≡ first ∷ rest
with_kind [] rest first some is e = absurd (omega arith)
with_kind (x ∷ frame) rest first some is e = ap₂ (λ a l. a ∷ l) is e

-- two numbers stand behind the kind
pub record HasTwo (frame : List ℕ) (one other : ℕ) : Type 0 where
  pub long : 9 ≤ length frame
  pub first : drop 1 frame ≡ big_bytes 4 one ++ drop 5 frame
  pub second : drop 5 frame ≡ big_bytes 4 other ++ drop 9 frame
  pub first_low : one < 2 ^ 32
  pub second_low : other < 2 ^ 32

-- they are those of whatever has this frame
record AreTwo (frame : List ℕ) (one other a b : ℕ) (rest : List ℕ) : Type 0 where
  pub first : a ≡ one
  pub second : b ≡ other
  pub behind : rest ≡ drop 9 frame

are_two : (frame rest : List ℕ) (one other a b first : ℕ) → HasTwo frame one other → a < 2 ^ 32 → b < 2 ^ 32
    → frame ≡ first ∷ big_bytes 4 a ++ big_bytes 4 b ++ rest → AreTwo frame one other a b rest
are_two frame rest one other a b first has low least e =
    let one_is = same_number a one (big_bytes 4 b ++ rest) (drop 5 frame) low has.first_low (sym (ap (drop 1) e) ∙ has.first) in
    let other_is = same_number b other rest (drop 9 frame) least has.second_low (one_is.1 ∙ has.second) in
    record { first = one_is.0; second = other_is.0; behind = other_is.1 }

kind_is : (frame rest : List ℕ) (first : ℕ) → frame ≡ first ∷ rest → slice_index frame 0 ≡ first
kind_is frame rest first e = ap (λ l. slice_index l 0) e

-- ---- a map

pub short_start : (frame : List ℕ) → length frame < 9 → SpellsNoStart frame
short_start frame short m spells =
    let cells : List ℕ = map terrain_byte m.terrain in
    let long : length frame ≡ length (frame_bytes (Start m)) = ap length spells.1 in
    omega (arith, short, long)

pub other_start : (frame : List ℕ) (first : ℕ) → slice_index frame 0 ≡ first → (first ≡ kind.START → ⊥) → SpellsNoStart frame
other_start frame first is off m spells = off (sym is ∙ kind_is frame _ kind.START spells.1)

module _ (frame : List ℕ) (w h : ℕ) (has : HasTwo frame w h) where
  record IsStartOf (m : Map) : Type 0 where
    pub width : m.width ≡ w
    pub height : m.height ≡ h
    pub cells : map terrain_byte m.terrain ≡ drop 9 frame

  start_of : (m : Map) → Spells frame (Start m) → IsStartOf m
  start_of m spells =
      let limits = spells.0.limits in
      let is = are_two frame (map terrain_byte m.terrain) w h m.width m.height kind.START has
      (omega (arith, limits.columns)) (omega (arith, limits.rows)) spells.1 in
      record { width = is.first; height = is.second; cells = is.behind }

  pub no_sides : (IsWithinLimits w h → ⊥) → SpellsNoStart frame
  no_sides off m spells =
      let is = start_of m spells in
      let limits = spells.0.limits in
      off (subst (λ a. IsWithinLimits a h) is.width (subst (IsWithinLimits m.width) is.height limits))

  pub other_size : (length frame ≡ 9 + w * h → ⊥) → SpellsNoStart frame
  other_size off m spells =
      let is = start_of m spells in
      let size : length (map terrain_byte m.terrain) ≡ length (drop 9 frame) = ap length is.cells in
      let product : m.width * m.height ≡ w * h = ap₂ (λ a b. a * b) is.width is.height in
      off (omega (arith, size, product, spells.0.cells, length-map m.terrain terrain_byte, length-drop 9 frame, has.long))

  pub no_cells : SpellNoTerrain (drop 9 frame) → SpellsNoStart frame
  no_cells none m spells = none m.terrain (sym (start_of m spells).cells)

  pub same_map : (terrain : List Terrain) → drop 9 frame ≡ map terrain_byte terrain → (m : Map) → Spells frame (Start m) → m ≡ map_of w h terrain
  same_map terrain e m spells =
      let is = start_of m spells in
      let cells : m.terrain ≡ terrain = same_terrain m.terrain terrain (is.cells ∙ e) in
      λ i. record { width = is.width i; height = is.height i; terrain = cells i }

  pub start_read : (terrain : List Terrain) (m : Map) → slice_index frame 0 ≡ kind.START → IsWithinLimits w h → length frame ≡ 9 + w * h
      → drop 9 frame ≡ map terrain_byte terrain → m ≡ map_of w h terrain → IsSearchable m → Spells frame (Start m)
  start_read terrain m is limits size e made few = rw made (
    record {
      limits = limits;
      cells = let long : length (drop 9 frame) ≡ length (map terrain_byte terrain) = ap length e in
          omega (arith, size, long, length-drop 9 frame, length-map terrain terrain_byte);
      searchable = subst IsSearchable made few;
    },
    with_kind frame _ kind.START (omega (arith, has.long)) is
        (has.first ∙ ap (λ l. big_bytes 4 w ++ l) (has.second ∙ ap (λ l. big_bytes 4 h ++ l) e)),
  )

-- ---- edits

pub short_edits : (frame : List ℕ) → length frame < 9 → SpellsNoEdits frame
short_edits frame short known edits spells =
    let long : length frame ≡ length (frame_bytes (Edits known edits)) = ap length spells.1 in
    omega (arith, short, long)

pub other_edits : (frame : List ℕ) (first : ℕ) → slice_index frame 0 ≡ first → (first ≡ kind.EDITS → ⊥) → SpellsNoEdits frame
other_edits frame first is off known edits spells = off (sym is ∙ kind_is frame _ kind.EDITS spells.1)

module _ (frame : List ℕ) (known count : ℕ) (has : HasTwo frame known count) where
  edits_of : (k : ℕ) (edits : List (List CellChange)) → Spells frame (Edits k edits) → AreEditsOf (drop 9 frame) count edits
  edits_of k edits spells =
      let sent = spells.0.1 in
      let is = are_two frame (all_edit_bytes edits) known count k (length edits) kind.EDITS has spells.0.0
      (omega (arith, sent.few)) spells.1 in
      record { count_is = is.second; each = sent.each; bytes_are = sym is.behind }

  pub too_many : (count ≤ 1024 → ⊥) → SpellsNoEdits frame
  too_many off k edits spells = off (omega (arith, (edits_of k edits spells).count_is, spells.0.1.few))

  pub no_edits : SpellNoEdits (drop 9 frame) count → SpellsNoEdits frame
  no_edits none k edits spells = none edits (edits_of k edits spells)

  pub edits_read : (edits : List (List CellChange)) → slice_index frame 0 ≡ kind.EDITS → count ≤ 1024 → AreEditsOf (drop 9 frame) count edits
      → Spells frame (Edits known edits)
  edits_read edits is few of = (
    (has.first_low, record { few = omega (arith, few, of.count_is); each = of.each }),
    with_kind frame _ kind.EDITS (omega (arith, has.long)) is
        (has.first ∙ ap (λ l. big_bytes 4 known ++ l)
        (has.second ∙ ap₂ (λ n l. big_bytes 4 n ++ l) (sym of.count_is) of.bytes_are)),
  )
