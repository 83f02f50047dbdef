-- Frames, cut from what comes in.
use Rattle.std.proofs.Common.{◌≡◌, ◌+◌, ◌-◌, ◌<◌, ◌≤◌, ℕ, Bool, true, false, IsFalse, MatchBool, List, [], ◌∷◌, ◌++◌, length, take, drop, None, Option, Some, inl, inr, refl, sym, subst, ap, ◌∙◌, length-append, arith}
use Rattle.std.specs.List.{copy_within}
use Rattle.std.proofs.Math.Seq.{drop-nil, take-append-add}
use Rattle.std.proofs.lemmas.Bool.{false≢true}
use Rattle.std.proofs.lemmas.List.{drop-take, length-drop, length-take-le, take-append-le, take-take, take_at}
use Rattle.std.proofs.lemmas.List.Edits.{take-paste}
use Rattle.std.proofs.lemmas.Slice.{take-put_mid_below}
use borrow.Rule.Slice.PartMut.{mid_of, put_mid}
use Rattle.byteorder.specs.Endian.{big_bytes}
use Rattle.wire.specs.Talks.{EndsAtZero, FillsRoom, HasLeft, Talk, with_taken}
use Rattle.session.specs.declared.frames.TheConstants.{ROOM}
use Rattle.query_proto.specs.declared.TheConstants.{MAX_REQUEST}
use Rattle.session.specs.declared.sessions.SessionFault.{SessionFault}
use Rattle.session.specs.declared.sessions.SessionFault.TheVariants as fault
use Rattle.session.specs.Conversations.{HasNone, IsBegun, IsPart}
use Rattle.session.specs.Turns.{HoldsFrame, HoldsMore, StopsSo, Takes}
use Rattle.session.proofs.Talking.{holds_none, holds_then}

-- the front of a part of the room was filled
took : (now after : Option Talk) (count : ℕ) (old part : List ℕ) → count ≤ length part → HasLeft now count → FillsRoom now count old part
    → after ≡ with_taken now count → Takes now after (take count part)
took None after count old part fits left fills e = record { front = tt; after_is = e }
took (Some talk) after count old part fits left fills e =
    let size : length (take count part) ≡ count = length-take-le count part fits in
    let front : take count part ≡ take count talk.left =
    ap (take count) fills ∙ take_at (take count talk.left) (drop count old) count (length-take-le count talk.left left) in
    record { front = ap (λ n. take n talk.left) size ∙ sym front; after_is = e ∙ ap (with_taken (Some talk)) (sym size) }

-- the input has ended
pub none_left : (now after : Option Talk) (count : ℕ) → EndsAtZero now count → after ≡ with_taken now count → count ≡ 0 → HasNone after
none_left None after count end e zero = subst HasNone (sym e) tt
none_left (Some talk) after count end e zero = subst HasNone (sym e) (ap (drop count) (end.0 zero) ∙ drop-nil count)

-- how much of the room is filled, behind what was held
pub record IsFilling (before now : Option Talk) (held room : List ℕ) (have most : ℕ) : Type 0 where
  pub more : HoldsMore before now held (take have room)
  pub within : have ≤ most
  pub long : length room ≡ ROOM

pub filling_none : (told : Option Talk) (held room : List ℕ) (have most : ℕ) → take have room ≡ held → length held ≤ most → have ≤ ROOM → length room ≡ ROOM
    → IsFilling told told held room have most
filling_none told held room have most same few fits long =
    let size : length (take have room) ≡ have = length-take-le have room (omega arith) in
    let held_long : length (take have room) ≡ length held = ap (λ (l : List ℕ). length l) same in
    record {
      more = subst (HoldsMore told told held) (sym same) (holds_none told held);
      within = omega arith;
      long = long;
    }

module _ (before now : Option Talk) (held room : List ℕ) (have most : ℕ) (p : IsFilling before now held room have most) (fits : most ≤ ROOM) where
  room_long : have ≤ length room
  room_long = let within = p.within in let long = p.long in omega arith

  pub filling_more : (after : Option Talk) (part : List ℕ) (count : ℕ) → length part ≡ length (mid_of have (most - have) room) → count ≤ length (mid_of have (most - have) room)
      → HasLeft now count → FillsRoom now count (mid_of have (most - have) room) part → after ≡ with_taken now count
      → IsFilling before after held (put_mid have (most - have) room part) (have + count) most
  filling_more after part count size few left fills e =
      let within = p.within in
      let long = p.long in
      let head : length (take have room) ≡ have = length-take-le have room room_long in
      let behind : length (drop have room) ≡ length room - have = length-drop have room in
      let mid : length (mid_of have (most - have) room) ≡ most - have = length-take-le (most - have) (drop have room) (omega arith) in
      let rest : List ℕ = drop (most - have) (drop have room) in
      let rest_long : length rest ≡ length (drop have room) - (most - have) = length-drop (most - have) (drop have room) in
      let part_long : length (part ++ rest) ≡ length part + length rest = length-append part rest in
      let whole_long : length (take have room ++ (part ++ rest)) ≡ length (take have room) + length (part ++ rest) = length-append (take have room) (part ++ rest) in
      let grown : take (have + count) (put_mid have (most - have) room part) ≡ take have room ++ take count part =
      ap (λ n. take (n + count) (take have room ++ (part ++ rest))) (sym head) ∙ take-append-add (take have room) (part ++ rest) count
      ∙ ap (λ (l : List ℕ). take have room ++ l) (take-append-le count part rest (omega arith)) in
      record {
        more = holds_then before now after held (take have room) (take (have + count) (put_mid have (most - have) room part)) p.more
            (record { more = take count part; grown = grown; takes = took now after count (mid_of have (most - have) room) part (omega arith) left fills e });
        within = omega arith;
        long = omega arith;
      }

  -- nothing came
  pub filling_still : (after : Option Talk) (part : List ℕ) → after ≡ now → HoldsMore before after held (take have (put_mid have (most - have) room part))
  filling_still after part e =
      subst (λ told. HoldsMore before told held (take have (put_mid have (most - have) room part))) (sym e)
      (subst (HoldsMore before now held) (sym (take-put_mid_below have (most - have) room part have (omega arith) room_long)) p.more)

-- the part of a room that is held, without its front
held_behind : (room : List ℕ) (have count : ℕ) → count ≤ have → drop count (take have room) ≡ take (have - count) (drop count room)
held_behind room have count within =
    let e : have ≡ count + (have - count) = omega arith in
    ap (λ n. drop count (take n room)) e ∙ drop-take count (have - count) room

-- a frame that is held behind its length
pub frame_held : (room : List ℕ) (have size : ℕ) → 2 + size ≤ have → take size (drop 2 room) ≡ take size (drop 2 (take have room))
frame_held room have size within =
    sym (ap (take size) (held_behind room have 2 (omega arith)) ∙ take-take size (have - 2) (drop 2 room) (omega arith))

-- what is held behind a frame is moved to the front
pub moved_front : (room : List ℕ) (have count : ℕ) → count ≤ have → have ≤ length room
    → take (have - count) (copy_within room count have 0) ≡ drop count (take have room)
moved_front room have count within fits =
    let left : length (drop count room) ≡ length room - count = length-drop count room in
    let same : have - count ≡ 0 + (have - count) = omega arith in
    ap (λ n. take n (copy_within room count have 0)) same
    ∙ take-paste room 0 (drop count room) (have - count) (omega arith) (omega arith) ∙ sym (held_behind room have count within)

-- the length before a frame
pub size_held : (room : List ℕ) (have size : ℕ) → 2 ≤ have → take 2 room ≡ big_bytes 2 size → take 2 (take have room) ≡ big_bytes 2 size
size_held room have size within e = take-take 2 have room within ∙ e

-- ---- what came

pub is_whole : (P Q : Type 0) (whole : Bool) → whole ≡ true → MatchBool whole P Q → P
is_whole P Q true e p = p
is_whole P Q false e p = absurd (false≢true e)

pub not_whole : (P Q : Type 0) (whole : Bool) → whole ≡ false → MatchBool whole P Q → Q
not_whole P Q true e p = absurd (false≢true (sym e))
not_whole P Q false e p = p

-- less than a length is held
pub begun_short : (limit : ℕ) (held : List ℕ) → length held < 2 → IsBegun limit held
begun_short limit [] less = inl refl
begun_short limit (byte ∷ []) less = inr (2, inl (refl, refl))
begun_short limit (first ∷ second ∷ rest) less = absurd (omega (arith, less))

module _ (before after : Option Talk) (old now : List ℕ) (size : ℕ) (short : size ≤ MAX_REQUEST) (held : length old ≡ 2) (is : take 2 old ≡ big_bytes 2 size)
    (p : HoldsMore before after old now) (limit : ℕ) (fits : size ≤ limit) where
  size_still : take 2 now ≡ big_bytes 2 size
  size_still = ap (take 2) p.grown ∙ take-append-le 2 old p.more (omega (arith, held)) ∙ is

  now_long : length now ≡ 2 + length p.more
  now_long = ap (λ (l : List ℕ). length l) p.grown ∙ length-append old p.more ∙ ap (λ n. n + length p.more) held

  pub frame_holds : (ahead : Bool) (most : ℕ) → 2 + size ≤ length now → length now ≤ most → most ≤ (2 + size) + 2 → (IsFalse ahead → most ≡ 2 + size)
      → (2 + size ≡ 3 → most ≡ 2 + size) → HoldsFrame limit ahead now size
  frame_holds ahead most whole few least last alone = record {
    fits = fits;
    short = short;
    size_is = size_still;
    whole = whole;
    most = omega arith;
    last = λ e. let same = last e in omega arith;
    alone = λ e. let same = alone (omega (arith, e)) in omega arith;
  }

  pub part_holds : length now < 2 + size → IsPart limit now (2 + size)
  part_holds less = inr (size, fits, size_still, omega (arith, now_long), refl, less)

  -- it is torn
  pub stops_torn : (why : SessionFault) → why ≡ fault.Torn (length now) (2 + size) → length now < 2 + size → HasNone after → StopsSo limit now after why
  stops_torn why e less none = subst (StopsSo limit now after) (sym e) (refl, part_holds less, none)
