-- One message of a stream, taken of a link piece by piece.
use Rattle.std.proofs.Common.{◌≡◌, ◌⊎◌, inl, inr, ℕ, zero, suc, ◌+◌, ◌-◌, ◌<◌, ◌≤◌, Option, Some, None, MatchOption, Result, Ok, Err, IfErr, IsErrOf, OnOk}
use Rattle.std.proofs.Common.{List, [], ◌∷◌, ◌++◌, length, refl, sym, subst, ap, ◌∙◌, length-append, arith, rules}
use Rattle.std.proofs.lemmas.Bool.{cases_lt}
use Rattle.std.proofs.lemmas.List.{append-nil, append_assoc}
use Rattle.wire.specs.Talks.{Talk}
use Rattle.path_client.specs.Taking.{NothingLeft, Takes as TakesOf}
use Rattle.path_client.proofs.Pieces.{takes_more}
use Rattle.feed_node.proofs.Passing.{takes_none}
use Rattle.follow_proto.specs.declared.TheConstants.{MAX_FRAME}
use Rattle.follow_node.specs.declared.faults.FollowFault.{FollowFault}
use Rattle.follow_node.specs.declared.links.LinkFault.{LinkFault}
use Rattle.follow_node.specs.declared.links.LinkFault.TheVariants as link
use Rattle.follow_node.specs.Streams.{Following, IsBegun, IsWhole, StopsShort, Takes, Took, size_said}
use Rattle.follow_node.specs.Links.{GivesUp, HeedsFrom, IsAwaited, IsInOne, IsOne, LacksPiece, StopsFrom, TakesPiece}
use Rattle.follow_node.proofs.Deciding.{stage}
use Rattle.follow_node.proofs.Taken.{took_both}

-- behind a fault nothing changes
still : (at after : Following) (bytes : List ℕ) (why : FollowFault) → at.fault ≡ Some why → Took at bytes after → after ≡ at
still at after [] why is p = p
still at after (byte ∷ bytes) why is (mid, next, rest) =
    let same : mid ≡ at = subst (λ o. MatchOption o (Takes at byte mid) (λ _. mid ≡ at)) is next in
    still at after bytes why is (subst (λ f. Took f bytes after) same rest)

not_both : (why : Option FollowFault) (one : FollowFault) → why ≡ Some one → why ≡ None → ⊥
not_both None one e f = search rules
not_both (Some other) one e f = search rules

-- the length that a message says is in its first bytes
pub size_stays : (held more : List ℕ) → 4 ≤ length held → size_said (held ++ more) ≡ size_said held
size_stays [] more told = absurd (omega (arith, told))
size_stays (a ∷ []) more told = absurd (omega (arith, told))
size_stays (a ∷ b ∷ []) more told = absurd (omega (arith, told))
size_stays (a ∷ b ∷ c ∷ []) more told = absurd (omega (arith, told))
size_stays (a ∷ b ∷ c ∷ d ∷ rest) more told = refl

none_left : (bytes : List ℕ) → length bytes ≡ 0 → bytes ≡ []
none_left [] e = refl
none_left (byte ∷ bytes) e = absurd (omega (arith, e))

-- a message is whole, and nothing behind it is among the bytes
module _ (front bytes : List ℕ) (is : IsWhole front) where
  ends_here : IsInOne (front ++ bytes) → length bytes ≡ 0
  ends_here (inl short) = omega (arith, is.told, short, length-append front bytes)
  ends_here (inr (low, within)) = omega (arith, is.all, within, length-append front bytes, size_stays front bytes is.told)

one_of : (front : List ℕ) → IsWhole front → IsInOne front → IsOne front
one_of front is (inl short) = record { told = is.told; short = is.short; all = omega (arith, is.told, is.all, short) }
one_of front is (inr (low, within)) = record { told = is.told; short = is.short; all = omega (arith, is.all, within) }

-- these bytes of a message have come: it was begun, and they are held; or it is whole, and nothing is held
abbrev IsAt : List ℕ → Following → Type 0
IsAt part now = (IsBegun part × (now.held ≡ part)) ⊎ (IsOne part × (now.held ≡ []))

took_in : (at after : Following) (bytes : List ℕ) → at.fault ≡ None → IsBegun at.held → Took at bytes after → after.fault ≡ None
    → IsInOne (at.held ++ bytes) → IsAt (at.held ++ bytes) after
took_in at after [] clear begun p unfaulted within =
    inl (subst IsBegun (sym (append-nil at.held)) begun, ap (λ (f : Following). f.held) p ∙ sym (append-nil at.held))
took_in at after (byte ∷ bytes) clear begun (mid, next, rest) unfaulted within =
    let front : List ℕ = at.held ++ byte ∷ [] in
    let takes : Takes at byte mid = subst (λ o. MatchOption o (Takes at byte mid) (λ _. mid ≡ at)) clear next in
    let cut : front ++ bytes ≡ at.held ++ byte ∷ bytes = append_assoc at.held (byte ∷ []) bytes in
    elim (stage front) [
      | inl is ↦
          (let same = takes.begun is in
          let held : mid.held ≡ front = ap (λ (f : Following). f.held) same in
          let seam : mid.held ++ bytes ≡ at.held ++ byte ∷ bytes = ap (λ l. l ++ bytes) held ∙ cut in
          subst (λ l. IsAt l after) seam
          (took_in mid after bytes (ap (λ (f : Following). f.fault) same ∙ clear) (subst IsBegun (sym held) is) rest unfaulted
          (subst IsInOne (sym seam) within)))
      | inr (inl is) ↦
          (let same = takes.too_long is in
          let why = ap (λ (f : Following). f.fault) same in
          absurd (not_both after.fault _ (ap (λ (f : Following). f.fault) (still mid after bytes _ why rest) ∙ why) unfaulted))
      | inr (inr is) ↦
          (let end = takes.whole is in
          let none : bytes ≡ [] = none_left bytes (ends_here front bytes is (subst IsInOne (sym cut) within)) in
          let all : at.held ++ byte ∷ bytes ≡ front = ap (λ l. at.held ++ byte ∷ l) none in
          inr (
            subst IsOne (sym all) (one_of front is (subst IsInOne all within)),
            ap (λ (f : Following). f.held) (subst (λ l. Took mid l after) none rest) ∙ end.held_is,
          ))
    ]

-- ---- one piece

module _ (most held : ℕ) (before after : Following) (told then : Option Talk) where
  module _ (piece : List ℕ) (takes : TakesOf told then piece) (few : length piece ≤ most) where
    pub piece_goes : {A : Type 0} (result : Result A LinkFault) → 0 < length piece → OnOk result (Took before piece after) → OnOk result (after.fault ≡ None)
        → OnOk result (TakesPiece most before told after then)
    piece_goes (Ok done) some took clear = record { piece = piece; some = some; few = few; takes = takes; took = took; unfaulted = clear }
    piece_goes (Err why) some took clear = tt

    pub piece_stops : {A : Type 0} (result : Result A LinkFault) → IfErr result (GivesUp before piece after)
        → IfErr result (λ why. LacksPiece most held before told why after then)
    piece_stops (Ok done) p = tt
    piece_stops (Err (link.Follow why)) p = record { piece = piece; few = few; takes = takes; by = (p.0, p.1) }
    piece_stops (Err (link.Closed have)) p = absurd p
    piece_stops (Err link.ReadFault) p = absurd p
    piece_stops (Err link.WriteFault) p = absurd p

  pub piece_ends : (have : ℕ) → have ≡ held → after ≡ before → TakesOf told then [] → NothingLeft then
      → LacksPiece most held before told (link.Closed have) after then
  piece_ends have is same takes none = record { piece = []; few = omega arith; takes = takes; by = (refl, same, is, none) }

  pub piece_fails : after ≡ before → then ≡ told → LacksPiece most held before told link.ReadFault after then
  piece_fails same kept = record { piece = []; few = omega arith; takes = subst (λ t. TakesOf told t []) (sym kept) (takes_none told); by = (refl, same) }

-- only a fault of the link is one of reading
pub no_read_fault : {A : Type 0} (P : Type 0) (before after : Following) (piece : List ℕ) (result : Result A LinkFault) → IfErr result (GivesUp before piece after)
    → IsErrOf result link.ReadFault → P
no_read_fault P before after piece (Ok done) p is = search rules
no_read_fault P before after piece (Err (link.Follow why)) p is = search rules
no_read_fault P before after piece (Err (link.Closed have)) p is = absurd p
no_read_fault P before after piece (Err link.ReadFault) p is = absurd p
no_read_fault P before after piece (Err link.WriteFault) p is = absurd p

-- ---- piece by piece

-- a piece of as many bytes as are wanted ends in the message
pub record IsAhead (part : List ℕ) (wanted : ℕ) : Type 0 where
  pub some : 0 < wanted
  pub size : length part < 4 → length part + wanted ≤ 4
  pub frame : 4 ≤ length part → (size_said part ≤ MAX_FRAME) × (length part + wanted ≤ 4 + size_said part)

ahead_in : (part piece : List ℕ) (wanted : ℕ) → IsAhead part wanted → length piece ≤ wanted → (length part < 4) ⊎ (4 ≤ length part)
    → IsInOne (part ++ piece)
ahead_in part piece wanted p few (inl begun) = inl (let size = p.size begun in omega (arith, size, few, length-append part piece))
ahead_in part piece wanted p few (inr told) =
    let frame = p.frame told in
    inr (
      omega (arith, frame.0, size_stays part piece told),
      omega (arith, frame.1, few, length-append part piece, size_stays part piece told),
    )

-- how many bytes may still come while some are wanted
abbrev pub left_of : ℕ → List ℕ → ℕ
left_of zero held = 0
left_of (suc wanted) held = 5 + MAX_FRAME - length held

left_some : (wanted : ℕ) (held : List ℕ) → 0 < wanted → left_of wanted held ≡ 5 + MAX_FRAME - length held
left_some zero held some = absurd (omega (arith, some))
left_some (suc wanted) held some = refl

few_begun : (part : List ℕ) → IsBegun part → length part < 4 + MAX_FRAME
few_begun part (inl few) = omega (arith, few)
few_begun part (inr (low, less)) = omega (arith, low, less)

-- what has come of the message
abbrev pub IsStill : List ℕ → Following → ℕ → Type 0
IsStill part now wanted = (IsBegun part × (now.held ≡ part) × IsAhead part wanted) ⊎ (IsOne part × (now.held ≡ []) × (wanted ≡ 0))

pub record IsTaking (before : Following) (told : Option Talk) (now : Following) (then : Option Talk) (wanted : ℕ) : Type 0 where
  pub part : List ℕ
  pub takes : TakesOf told then part
  pub took : Took before part now
  pub unfaulted : now.fault ≡ None
  pub still : IsStill part now wanted

pub taking_none : (before : Following) (told : Option Talk) → before.held ≡ [] → before.fault ≡ None → IsTaking before told before told 4
taking_none before told even clear = record {
  part = [];
  takes = takes_none told;
  took = refl;
  unfaulted = clear;
  still = inl (inl (omega arith), even, record { some = omega arith; size = λ _. omega arith; frame = λ l. absurd (omega (arith, l)) });
}

begun_held : (part held : List ℕ) (now : Following) → IsAt part now → IsBegun now.held
begun_held part held now (inl (begun, is)) = subst IsBegun (sym is) begun
begun_held part held now (inr (one, is)) = subst IsBegun (sym is) (inl (omega arith))

still_wants : (part : List ℕ) (now : Following) (wanted : ℕ) → 0 < length part → IsAt part now → IsAwaited now.held wanted → IsStill part now wanted
still_wants part now wanted some (inr (one, is)) a = inr (one, is, a.none is)
still_wants part now wanted some (inl (begun, is)) a =
    let b = subst (λ l. IsAwaited l wanted) is a in
    inl (
      begun,
      is,
      record {
        some = b.some some;
        size = b.size;
        frame = λ told. (low part begun told, (let all = b.frame told in omega (arith, all)));
      },
    )
  where
    low : (bytes : List ℕ) → IsBegun bytes → 4 ≤ length bytes → size_said bytes ≤ MAX_FRAME
    low bytes (inl few) told = absurd (omega (arith, few, told))
    low bytes (inr (fits, less)) told = fits

module _ (before now : Following) (told then : Option Talk) (wanted : ℕ) (even : before.held ≡ []) (clear : before.fault ≡ None)
    (p : IsTaking before told now then wanted) (more : 0 < wanted) where
  begun : IsStill p.part now wanted → IsBegun p.part × (now.held ≡ p.part) × IsAhead p.part wanted
  begun (inl q) = q
  begun (inr (one, held, none)) = absurd (omega (arith, none, more))

  in_one : (piece : List ℕ) → length piece ≤ wanted → IsInOne (p.part ++ piece)
  in_one piece few = ahead_in p.part piece wanted (begun p.still).2 few (short_or p.part)
    where
      short_or : (bytes : List ℕ) → (length bytes < 4) ⊎ (4 ≤ length bytes)
      short_or bytes = cases_lt (length bytes) 4

  module _ (after : Following) (last : Option Talk) where
    module _ (q : TakesPiece wanted now then after last) where
      whole : Took before (p.part ++ q.piece) after
      whole = took_both before now after p.part q.piece p.took q.took

      came : IsAt (p.part ++ q.piece) after
      came =
          subst (λ l. IsAt (l ++ (p.part ++ q.piece)) after) even
          (took_in before after (p.part ++ q.piece) clear (subst IsBegun (sym even) (inl (omega arith))) whole q.unfaulted
          (subst (λ l. IsInOne (l ++ (p.part ++ q.piece))) (sym even) (in_one q.piece q.few)))

      pub piece_begun : IsBegun after.held
      piece_begun = begun_held (p.part ++ q.piece) after.held after came

      pub taking_more : (next : ℕ) → IsAwaited after.held next → IsTaking before told after last next
      taking_more next a = record {
        part = p.part ++ q.piece;
        takes = takes_more told then last p.part q.piece p.takes q.takes;
        took = whole;
        unfaulted = q.unfaulted;
        still = still_wants (p.part ++ q.piece) after next (omega (arith, q.some, length-append p.part q.piece)) came a;
      }

      left_then : (next : ℕ) → IsAt (p.part ++ q.piece) after → IsAwaited after.held next → left_of next after.held < 5 + MAX_FRAME - length p.part
      left_then next (inl (front, is)) a =
          let some : 0 < length after.held = omega (arith, ap (λ (l : List ℕ). length l) is, length-append p.part q.piece, q.some) in
          let left = left_some next after.held (a.some some) in
          omega (arith, left, ap (λ (l : List ℕ). length l) is, length-append p.part q.piece, q.some, few_begun (p.part ++ q.piece) front)
      left_then next (inr (one, is)) a =
          subst (λ n. left_of n after.held < 5 + MAX_FRAME - length p.part) (sym (a.none is))
          (omega (arith, few_begun p.part (begun p.still).0))

      pub left_falls : (next : ℕ) → IsAwaited after.held next → left_of next after.held < left_of wanted now.held
      left_falls next a =
          let same : left_of wanted now.held ≡ 5 + MAX_FRAME - length p.part =
          left_some wanted now.held more ∙ ap (λ (l : List ℕ). 5 + MAX_FRAME - length l) (begun p.still).1 in
          subst (λ n. left_of next after.held < n) (sym same) (left_then next came a)

    short_behind : (piece : List ℕ) → Took now piece after ⊎ StopsShort now piece after
        → Took before (p.part ++ piece) after ⊎ StopsShort before (p.part ++ piece) after
    short_behind piece (inl q) = inl (took_both before now after p.part piece p.took q)
    short_behind piece (inr q) = inr (record {
      front = p.part ++ q.front;
      byte = q.byte;
      rest = q.rest;
      bytes_are = ap (λ l. p.part ++ l) q.bytes_are ∙ sym (append_assoc p.part q.front (q.byte ∷ q.rest));
      mid = q.mid;
      took = took_both before now q.mid p.part q.front p.took q.took;
      unfaulted = q.unfaulted;
      short = q.short;
    })

    same_part : (piece : List ℕ) → piece ≡ [] → p.part ++ piece ≡ p.part
    same_part piece none = ap (λ l. p.part ++ l) none ∙ append-nil p.part

    takes_all : (piece : List ℕ) → TakesOf then last piece → TakesOf told last (p.part ++ piece)
    takes_all piece q = takes_more told then last p.part piece p.takes q

    pub taking_stops : (why : LinkFault) → LacksPiece wanted (length now.held) now then why after last → StopsFrom before told why after last
    taking_stops (link.Follow fault) q = record {
      part = p.part ++ q.piece;
      takes = takes_all q.piece q.takes;
      by = (short_behind q.piece q.by.0, q.by.1, in_one q.piece q.few);
    }
    taking_stops (link.Closed have) q =
        let b = begun p.still in
        record {
          part = p.part;
          takes = subst (TakesOf told last) (same_part q.piece q.by.0) (takes_all q.piece q.takes);
          by = (
            subst (Took before p.part) (sym q.by.1) p.took,
            ap (λ (f : Following). f.fault) q.by.1 ∙ p.unfaulted,
            b.0,
            q.by.2 ∙ ap (λ (l : List ℕ). length l) b.1,
            q.by.3,
          );
        }
    taking_stops link.ReadFault q =
        let b = begun p.still in
        record {
          part = p.part;
          takes = subst (TakesOf told last) (same_part q.piece q.by.0) (takes_all q.piece q.takes);
          by = (subst (Took before p.part) (sym q.by.1) p.took, ap (λ (f : Following). f.fault) q.by.1 ∙ p.unfaulted, b.0);
        }
    taking_stops link.WriteFault q = absurd q.by

-- nothing more is wanted
pub record IsTaken (before : Following) (told : Option Talk) (now : Following) (then : Option Talk) : Type 0 where
  pub heeds : HeedsFrom before told now then
  pub even : now.held ≡ []
  pub unfaulted : now.fault ≡ None

pub taking_all : (before now : Following) (told then : Option Talk) (wanted : ℕ) → IsTaking before told now then wanted → wanted ≡ 0
    → IsTaken before told now then
taking_all before now told then wanted p none = ended p.still
  where
    ended : IsStill p.part now wanted → IsTaken before told now then
    ended (inl (part, held, ahead)) = absurd (omega (arith, ahead.some, none))
    ended (inr (one, held, over)) = record {
      heeds = record { message = p.part; takes = p.takes; heeds = record { one = one; took = p.took; unfaulted = p.unfaulted } };
      even = held;
      unfaulted = p.unfaulted;
    }
