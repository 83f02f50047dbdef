-- A whole message of a feed, taken by a follower, and the beginning of one.
use Rattle.std.proofs.Common.{◌≡◌, inl, inr, ℕ, ◌+◌, ◌-◌, ◌*◌, ◌<◌, ◌≤◌, None, MatchOption}
use Rattle.std.proofs.Common.{List, [], ◌∷◌, ◌++◌, All, length, take, get_or, suc, refl, sym, subst, ap, ◌∙◌, length-append, arith}
use Rattle.std.proofs.lemmas.Bool.{cases_lt}
use Rattle.std.proofs.lemmas.List.{append-nil, append_assoc, length-map, take_all, take_more}
use Rattle.byteorder.specs.Endian.{big_bytes}
use Rattle.byteorder.specs.Numbers.{big_number-reads_back}
use Rattle.moves.specs.Maps.{Map}
use Rattle.edit_log.specs.declared.edit.CellChange.{CellChange}
use Rattle.query_proto.specs.Frames.{terrain_byte}
use Rattle.query_proto.proofs.Several.{changes_long}
use Rattle.follow_proto.specs.declared.TheConstants.{MAX_FRAME}
use Rattle.follow_proto.specs.Feeds.{AreSent, IsMessage, IsSent, IsStartMap, Message, all_edit_bytes, edit_bytes, frame_bytes, message_bytes}
use Rattle.follow_proto.specs.Feeds.Message.{Start, Edits}
use Rattle.follow_node.specs.Following.{IsNext, Judges, board_after, fault_after}
use Rattle.follow_node.specs.Streams.{EndsMessage, Following, IsBegun, IsWhole, Takes, Took, size_said}
use Rattle.follow_node.specs.Links.{IsOne}
use Rattle.follow_node.proofs.Messages.{size_stays}
use Rattle.follow_node.proofs.Spellings.{frames_spell_one_message}

pub took_cut : (before after : Following) (one other : List ℕ) → Took before (one ++ other) after → (mid : Following) × Took before one mid × Took mid other after
took_cut before after [] other p = (before, refl, p)
took_cut before after (byte ∷ one) other (m, next, rest) =
    let cut = took_cut m after one other rest in (cut.0, (m, next, cut.1), cut.2)

begun_of : (front more : List ℕ) → IsOne (front ++ more) → 0 < length more → IsBegun front
begun_of front more one some = elim (cases_lt (length front) 4) [
  | inl few ↦ inl few
  | inr told ↦
      (let same = size_stays front more told in
      let all = one.all in
      let short = one.short in
      inr (omega (arith, short, same), omega (arith, all, length-append front more, same, some)))
]

taken_by : (at mid : Following) (byte : ℕ) → at.fault ≡ None → MatchOption at.fault (Takes at byte mid) (λ _. mid ≡ at) → Takes at byte mid
taken_by at mid byte unfaulted next = subst (λ o. MatchOption o (Takes at byte mid) (λ _. mid ≡ at)) unfaulted next

-- the beginning of a message is held
pub part_held : (at after : Following) (bytes more : List ℕ) → at.fault ≡ None → IsOne ((at.held ++ bytes) ++ more) → 0 < length more → Took at bytes after
    → after ≡ record at { held = at.held ++ bytes }
part_held at after [] more unfaulted one some p = p ∙ ap (λ l. record at { held = l }) (sym (append-nil at.held))
part_held at after (byte ∷ bytes) more unfaulted one some (mid, next, rest) =
    let there : Following = record at { held = at.held ++ byte ∷ [] } in
    let seam : there.held ++ bytes ≡ at.held ++ byte ∷ bytes = append_assoc at.held (byte ∷ []) bytes in
    let again : IsOne ((there.held ++ bytes) ++ more) = subst (λ l. IsOne (l ++ more)) (sym seam) one in
    let begun = begun_of there.held (bytes ++ more) (subst IsOne (append_assoc there.held bytes more) again) (omega (arith, some, length-append bytes more)) in
    let same : mid ≡ there = (taken_by at mid byte unfaulted next).begun begun in
    part_held there after bytes more unfaulted again some (subst (λ f. Took f bytes after) same rest) ∙ ap (λ l. record at { held = l }) seam

last_of : (message : List ℕ) → 0 < length message → message ≡ take (length message - 1) message ++ get_or message (length message - 1) 0 ∷ []
last_of message some =
    sym (take_all (length message - 1 + 1) message (omega arith)) ∙ take_more message (length message - 1) 0 (omega (arith, some))

-- a whole message is judged
pub whole_judged : (at after : Following) (message : List ℕ) → at.held ≡ [] → at.fault ≡ None → IsOne message → Took at message after
    → EndsMessage at message after
whole_judged at after message even unfaulted one p =
    let front : List ℕ = take (length message - 1) message in
    let last : ℕ = get_or message (length message - 1) 0 in
    let is : message ≡ front ++ last ∷ [] = last_of message (omega (arith, one.told)) in
    let cut = took_cut at after front (last ∷ []) (subst (λ l. Took at l after) is p) in
    let there : Following = record at { held = at.held ++ front } in
    let whole : there.held ++ last ∷ [] ≡ message = ap (λ l. (l ++ front) ++ last ∷ []) even ∙ sym is in
    let held : cut.0 ≡ there = part_held at cut.0 front (last ∷ []) unfaulted (subst IsOne (sym whole) one) (omega arith) cut.1 in
    let step = subst (λ f. Took f (last ∷ []) after) held cut.2 in
    let takes = taken_by there step.0 last unfaulted step.1 in
    let judged = takes.whole (subst IsWhole (sym whole) (record { told = one.told; short = one.short; all = (let all = one.all in omega arith) })) in
    let ends : EndsMessage there message after =
    subst (λ l. EndsMessage there l after) whole (subst (EndsMessage there (there.held ++ last ∷ [])) (sym step.2) judged) in
    record { order = ends.order; held_is = ends.held_is; at = ends.at; judged = ends.judged }

-- ---- messages of a feed

edits_short : (edits : List (List CellChange)) → All IsSent edits → length (all_edit_bytes edits) ≤ 321 * length edits
edits_short [] all = omega arith
edits_short (edit ∷ edits) all =
    let first = all 0 edit (omega arith) in
    let few = first.size.1 in
    let rest = edits_short edits (λ k d lt. all (suc k) d (omega (arith, lt))) in
    omega (arith, few, rest, changes_long edit, length-append (edit_bytes edit) (all_edit_bytes edits))

pub start_short : (map : Map) → IsStartMap map → length (frame_bytes (Start map)) ≤ MAX_FRAME
start_short m is =
    let cells = is.cells in
    let few = is.limits.cells in
    omega (arith, cells, few, length-map m.terrain terrain_byte)

pub edits_fit : (known : ℕ) (edits : List (List CellChange)) → AreSent edits → length (frame_bytes (Edits known edits)) ≤ MAX_FRAME
edits_fit known edits are =
    let few = are.few in
    let short = edits_short edits are.each in
    omega (arith, few, short)

pub one_message : (message : Message) → length (frame_bytes message) ≤ MAX_FRAME → IsOne (message_bytes message)
one_message message short =
    let size = length (frame_bytes message) in
    let said : size_said (message_bytes message) ≡ size = big_number-reads_back 4 size (frame_bytes message) (omega (arith, short)) in
    let long : length (message_bytes message) ≡ 4 + size = length-append (big_bytes 4 size) (frame_bytes message) in
    record { told = omega (arith, long); short = omega (arith, said, short); all = long ∙ ap (λ n. 4 + n) (sym said) }

-- it is heeded where it may come next
pub record IsHeeded (at : Following) (message : Message) (after : Following) : Type 0 where
  pub order_is : after.order ≡ at.order
  pub held_is : after.held ≡ []
  pub board_is : after.board ≡ board_after at.order at.board message
  pub fault_is : after.fault ≡ fault_after message

pub heeded : (at after : Following) (message : Message) → at.held ≡ [] → at.fault ≡ None → IsMessage message → length (frame_bytes message) ≤ MAX_FRAME
    → IsNext at.board message → Took at (message_bytes message) after → IsHeeded at message after
heeded at after message even unfaulted is short next p =
    let ends = whole_judged at after (message_bytes message) even unfaulted (one_message message short) p in
    let judged : Judges at.order at.board (frame_bytes message) at.at after.fault after.board = ends.judged in
    elim judged [
      | inl hears ↦
          (let same = frames_spell_one_message (frame_bytes message) hears.message message hears.continues.spelled (is, refl) in
          record {
            order_is = ends.order;
            held_is = ends.held_is;
            board_is = hears.board ∙ ap (board_after at.order at.board) same;
            fault_is = hears.fault_is ∙ ap fault_after same;
          })
      | inr refuses ↦ absurd (refuses.none message (record { spelled = (is, refl); next = next }))
    ]
