-- A frame spells one message at most.
use Rattle.std.proofs.Common.{◌≡◌, ℕ, suc, ◌^◌, ◌<◌, List, [], ◌∷◌, ◌++◌, All, length, drop, map, slice_index, refl, sym, ap, ap₂, ◌∙◌, arith}
use Rattle.std.proofs.lemmas.List.{append_assoc, append-nil}
use Rattle.byteorder.specs.Endian.{big_bytes, big_from}
use Rattle.byteorder.specs.Numbers.{big_number-reads_back}
use Rattle.edit_log.specs.declared.edit.CellChange.{CellChange}
use Rattle.query_proto.specs.Frames.{change_bytes, changes_bytes, terrain_byte}
use Rattle.follow_proto.specs.Feeds.{HasPlace, IsSent, all_edit_bytes, edit_bytes}
use Rattle.follow_proto.specs.Feeds.Message.{Start, Edits, Ahead, NoMemory}
use Rattle.follow_proto.specs.declared.kinds.TheConstants as kind
use Rattle.moves.specs.Maps.{Map, IsWithinLimits}
use Rattle.follow_node.specs.Reading.{Spells}
use Rattle.follow_node.specs.StreamLaws.{FramesSpellOneMessage}
use Rattle.follow_node.proofs.Numbers.{same_number}
use Rattle.follow_node.proofs.TerrainBytes.{same_one, same_terrain}

-- all but the first
all_rest : {X : Type 0} (P : X → Type 0) (x : X) (xs : List X) → All P (x ∷ xs) → All P xs
all_rest P x xs all = λ k d lt. all (suc k) d (omega (arith, lt))

same_short : (a b : ℕ) (r s : List ℕ) → a < 2 ^ 16 → b < 2 ^ 16 → big_bytes 2 a ++ r ≡ big_bytes 2 b ++ s → (a ≡ b) × (r ≡ s)
same_short a b r s low least e = (
  sym (big_number-reads_back 2 a r low) ∙ ap (big_from 0 2) e ∙ big_number-reads_back 2 b s least,
  ap (drop 2) e,
)

same_change : (one other : CellChange) (r s : List ℕ) → HasPlace one → HasPlace other → change_bytes one ++ r ≡ change_bytes other ++ s
    → (one ≡ other) × (r ≡ s)
same_change one other r s a b e =
    let x = same_short one.cell.x other.cell.x (big_bytes 2 one.cell.y ++ terrain_byte one.terrain ∷ r) (big_bytes 2 other.cell.y ++ terrain_byte other.terrain ∷ s) a.0 b.0 e in
    let y = same_short one.cell.y other.cell.y (terrain_byte one.terrain ∷ r) (terrain_byte other.terrain ∷ s) a.1 b.1 x.1 in
    let t = same_one one.terrain other.terrain (ap (λ l. slice_index l 0) y.1) in (
      λ i. record { cell = record { x = x.0 i; y = y.0 i }; terrain = t i },
      ap (drop 1) y.1,
    )

same_changes : (one other : List CellChange) (r s : List ℕ) → length one ≡ length other → All HasPlace one → All HasPlace other
    → changes_bytes one ++ r ≡ changes_bytes other ++ s → (one ≡ other) × (r ≡ s)
same_changes [] [] r s size a b e = (refl, e)
same_changes [] (y ∷ other) r s size a b e = absurd (omega (arith, size))
same_changes (x ∷ one) [] r s size a b e = absurd (omega (arith, size))
same_changes (x ∷ one) (y ∷ other) r s size a b e =
    let whole = sym (append_assoc (change_bytes x) (changes_bytes one) r) ∙ e ∙ append_assoc (change_bytes y) (changes_bytes other) s in
    let first = same_change x y (changes_bytes one ++ r) (changes_bytes other ++ s) (a 0 x (omega arith)) (b 0 y (omega arith)) whole in
    let rest = same_changes one other r s (omega (arith, size)) (all_rest HasPlace x one a) (all_rest HasPlace y other b) first.1 in
    (ap₂ (λ c cs. c ∷ cs) first.0 rest.0, rest.1)

same_edit : (one other : List CellChange) (r s : List ℕ) → IsSent one → IsSent other → edit_bytes one ++ r ≡ edit_bytes other ++ s
    → (one ≡ other) × (r ≡ s)
same_edit one other r s a b e =
    same_changes one other r s (ap (λ l. slice_index l 0) e) a.places b.places (ap (drop 1) e)

-- as many edits with the same bytes in front of others are the same
pub same_edits_then : (one other : List (List CellChange)) (r s : List ℕ) → length one ≡ length other → All IsSent one → All IsSent other
    → all_edit_bytes one ++ r ≡ all_edit_bytes other ++ s → (one ≡ other) × (r ≡ s)
same_edits_then [] [] r s size a b e = (refl, e)
same_edits_then [] (y ∷ other) r s size a b e = absurd (omega (arith, size))
same_edits_then (x ∷ one) [] r s size a b e = absurd (omega (arith, size))
same_edits_then (x ∷ one) (y ∷ other) r s size a b e =
    let whole = sym (append_assoc (edit_bytes x) (all_edit_bytes one) r) ∙ e ∙ append_assoc (edit_bytes y) (all_edit_bytes other) s in
    let first = same_edit x y (all_edit_bytes one ++ r) (all_edit_bytes other ++ s) (a 0 x (omega arith)) (b 0 y (omega arith)) whole in
    let rest = same_edits_then one other r s (omega (arith, size)) (all_rest IsSent x one a) (all_rest IsSent y other b) first.1 in
    (ap₂ (λ c cs. c ∷ cs) first.0 rest.0, rest.1)

-- the edits that a frame spells, and behind how many
pub same_message : (frame : List ℕ) (k known : ℕ) (one other : List (List CellChange)) → Spells frame (Edits k one) → Spells frame (Edits known other)
    → (k ≡ known) × (one ≡ other)
same_message frame k known one other a b =
    let first = same_number k known (big_bytes 4 (length one) ++ all_edit_bytes one) (big_bytes 4 (length other) ++ all_edit_bytes other)
    a.0.0 b.0.0 (ap (drop 1) (sym a.1 ∙ b.1)) in
    let second = same_number (length one) (length other) (all_edit_bytes one) (all_edit_bytes other)
    (omega (arith, a.0.1.few)) (omega (arith, b.0.1.few)) first.1 in
    let ends = append-nil (all_edit_bytes one) ∙ second.1 ∙ sym (append-nil (all_edit_bytes other)) in
    (first.0, (same_edits_then one other [] [] second.0 a.0.1.each b.0.1.each ends).0)

-- the same, where the one frame is the front of the other
pub same_front_message : (frame more : List ℕ) (k known : ℕ) (one other : List (List CellChange)) → Spells frame (Edits k one)
    → Spells (frame ++ more) (Edits known other) → one ≡ other
same_front_message frame more k known one other a b =
    let whole = ap (λ l. l ++ more) (sym a.1) ∙ b.1 in
    let first = same_number k known ((big_bytes 4 (length one) ++ all_edit_bytes one) ++ more) (big_bytes 4 (length other) ++ all_edit_bytes other)
    a.0.0 b.0.0 (ap (drop 1) whole) in
    let second = same_number (length one) (length other) (all_edit_bytes one ++ more) (all_edit_bytes other)
    (omega (arith, a.0.1.few)) (omega (arith, b.0.1.few)) first.1 in
    (same_edits_then one other more [] second.0 a.0.1.each b.0.1.each (second.1 ∙ sym (append-nil (all_edit_bytes other)))).0

-- ---- any message

first_is : (frame rest : List ℕ) (first : ℕ) → frame ≡ first ∷ rest → slice_index frame 0 ≡ first
first_is frame rest first e = ap (λ l. slice_index l 0) e

other_first : (frame rest later : List ℕ) (one other : ℕ) → frame ≡ one ∷ rest → frame ≡ other ∷ later → one ≡ other
other_first frame rest later one other e f = sym (first_is frame rest one e) ∙ first_is frame later other f

same_start : (frame : List ℕ) (one other : Map) → Spells frame (Start one) → Spells frame (Start other) → one ≡ other
same_start frame one other a b =
    let (la, lb) : IsWithinLimits one.width one.height × IsWithinLimits other.width other.height = (a.0.limits, b.0.limits) in
    let w = same_number one.width other.width (big_bytes 4 one.height ++ map terrain_byte one.terrain) (big_bytes 4 other.height ++ map terrain_byte other.terrain)
    (omega (arith, la.columns)) (omega (arith, lb.columns)) (ap (drop 1) (sym a.1 ∙ b.1)) in
    let h = same_number one.height other.height (map terrain_byte one.terrain) (map terrain_byte other.terrain)
    (omega (arith, la.rows)) (omega (arith, lb.rows)) w.1 in
    let t = same_terrain one.terrain other.terrain h.1 in
    λ i. record { width = w.0 i; height = h.0 i; terrain = t i }

pub frames_spell_one_message : FramesSpellOneMessage
frames_spell_one_message frame (Start m) (Start n) a b = ap Start (same_start frame m n a b)
frames_spell_one_message frame (Start m) (Edits k es) a b = absurd (omega (arith, other_first frame _ _ kind.START kind.EDITS a.1 b.1))
frames_spell_one_message frame (Start m) (Ahead n) a b = absurd (omega (arith, other_first frame _ _ kind.START kind.AHEAD a.1 b.1))
frames_spell_one_message frame (Start m) NoMemory a b = absurd (omega (arith, other_first frame _ _ kind.START kind.NO_MEMORY a.1 b.1))
frames_spell_one_message frame (Edits k es) (Start n) a b = absurd (omega (arith, other_first frame _ _ kind.EDITS kind.START a.1 b.1))
frames_spell_one_message frame (Edits k es) (Edits j ds) a b =
    let same = same_message frame k j es ds a b in ap₂ Edits same.0 same.1
frames_spell_one_message frame (Edits k es) (Ahead n) a b = absurd (omega (arith, other_first frame _ _ kind.EDITS kind.AHEAD a.1 b.1))
frames_spell_one_message frame (Edits k es) NoMemory a b = absurd (omega (arith, other_first frame _ _ kind.EDITS kind.NO_MEMORY a.1 b.1))
frames_spell_one_message frame (Ahead n) (Start m) a b = absurd (omega (arith, other_first frame _ _ kind.AHEAD kind.START a.1 b.1))
frames_spell_one_message frame (Ahead n) (Edits k es) a b = absurd (omega (arith, other_first frame _ _ kind.AHEAD kind.EDITS a.1 b.1))
frames_spell_one_message frame (Ahead n) (Ahead m) a b =
    ap Ahead (same_number n m [] [] a.0 b.0 (ap (λ l. drop 1 l ++ []) (sym a.1 ∙ b.1))).0
frames_spell_one_message frame (Ahead n) NoMemory a b = absurd (omega (arith, other_first frame _ _ kind.AHEAD kind.NO_MEMORY a.1 b.1))
frames_spell_one_message frame NoMemory (Start m) a b = absurd (omega (arith, other_first frame _ _ kind.NO_MEMORY kind.START a.1 b.1))
frames_spell_one_message frame NoMemory (Edits k es) a b = absurd (omega (arith, other_first frame _ _ kind.NO_MEMORY kind.EDITS a.1 b.1))
frames_spell_one_message frame NoMemory (Ahead n) a b = absurd (omega (arith, other_first frame _ _ kind.NO_MEMORY kind.AHEAD a.1 b.1))
frames_spell_one_message frame NoMemory NoMemory a b = refl
