-- What becomes of a follower depends on the bytes alone.
use Rattle.std.proofs.Common.{◌≡◌, ◌⊎◌, inl, inr, ℕ, ◌+◌, Option, Some, None, MatchOption, List, [], ◌∷◌, ◌++◌, length, drop, refl, sym, subst, ap, ◌∙◌}
use Rattle.std.proofs.lemmas.Bool.{cases_lt}
use Rattle.std.proofs.lemmas.List.{append_assoc}
use Rattle.cell_order.specs.declared.OrderKind.{OrderKind}
use Rattle.edit_log.specs.declared.edit.Edit.{Edit}
use Rattle.edit_log.specs.Verdicts.{MayBeAccepted}
use Rattle.path_core.specs.declared.entry.Entry.TheVariants.{Accept}
use Rattle.path_core.specs.Histories.{accepted_count, map_now, IsLegal}
use Rattle.follow_proto.specs.declared.TheConstants.{MAX_FRAME}
use Rattle.follow_node.specs.declared.faults.FollowFault.{FollowFault}
use Rattle.follow_node.specs.Following.{Followed, Judges, LeavesBoard, TakesFront, TakesNone, accepts, board_after, fault_after, with_edits, CanAllBeAccepted}
use Rattle.follow_node.specs.StreamLaws.{BytesDecide}
use Rattle.follow_node.specs.Streams.{Following, EndsMessage, IsBegun, IsTooLong, IsWhole, Takes, Took, size_said}
use Rattle.follow_node.proofs.Spellings.{frames_spell_one_message, same_message}
use Rattle.follow_node.proofs.Submitted.{accepts_both}

-- an edit that may not be accepted behind some edits is accepted in no list that begins with these and it
not_in : (board : Followed) (taken rest : List Edit) (refused : Edit)
    → (MayBeAccepted (map_now board.start (with_edits board taken).history) (accepted_count (with_edits board taken).history) refused → ⊥)
    → CanAllBeAccepted board (taken ++ refused ∷ rest) → ⊥
unfolding IsLegal
not_in board taken rest refused cannot can =
    let cut : board.history ++ accepts (taken ++ refused ∷ rest) ≡ (board.history ++ accepts taken) ++ Accept 0 refused ∷ accepts rest =
    ap (λ l. board.history ++ l) (accepts_both taken (refused ∷ rest)) ∙ sym (append_assoc board.history (accepts taken) (accepts (refused ∷ rest))) in
    cannot (can (board.history ++ accepts taken) (Accept 0 refused) (accepts rest) cut)

-- lists that are the same with a cut each: the one front is the other, or one of them goes on past the cut of the other
record GoesPast (front : List Edit) (cut : Edit) (longer : List Edit) : Type 0 where
  pub later : List Edit
  pub is : longer ≡ front ++ cut ∷ later

past_one : (x : Edit) (front : List Edit) (cut : Edit) (longer : List Edit) → GoesPast front cut longer → GoesPast (x ∷ front) cut (x ∷ longer)
past_one x front cut longer p = record { later = p.later; is = ap (λ l. x ∷ l) p.is }

-- where two cuts of one list are
abbrev AreCuts : List Edit → Edit → List Edit → Edit → Type 0
AreCuts one a other b = (one ≡ other) ⊎ (GoesPast one a other ⊎ GoesPast other b one)

cuts_one : (x y : Edit) (one other : List Edit) (a b : Edit) → x ≡ y → AreCuts one a other b → AreCuts (x ∷ one) a (y ∷ other) b
cuts_one x y one other a b e (inl same) = inl (ap (λ l. x ∷ l) same ∙ ap (λ z. z ∷ other) e)
cuts_one x y one other a b e (inr (inl p)) = inr (inl (record { later = p.later; is = ap (λ l. y ∷ l) p.is ∙ ap (λ z. z ∷ (one ++ a ∷ p.later)) (sym e) }))
cuts_one x y one other a b e (inr (inr p)) = inr (inr (record { later = p.later; is = ap (λ l. x ∷ l) p.is ∙ ap (λ z. z ∷ (other ++ b ∷ p.later)) e }))

cuts : (one other : List Edit) (a b : Edit) (r s : List Edit) → one ++ a ∷ r ≡ other ++ b ∷ s → AreCuts one a other b
cuts [] [] a b r s e = inl refl
cuts [] (y ∷ other) a b r s e = let first : a ≡ y = cc in inr (inl (record { later = other; is = ap (λ z. z ∷ other) (sym first) }))
cuts (x ∷ one) [] a b r s e = let first : x ≡ b = cc in inr (inr (record { later = one; is = ap (λ z. z ∷ one) first }))
cuts (x ∷ one) (y ∷ other) a b r s e =
    let first : x ≡ y = cc in
    let rest : one ++ a ∷ r ≡ other ++ b ∷ s = cc in
    cuts_one x y one other a b first (cuts one other a b r s rest)

same_front : (board : Followed) (frame : List ℕ) (one other : List Edit) → TakesFront board frame one → TakesFront board frame other → one ≡ other
same_front board frame one other p q =
    elim (cuts one other p.refused q.refused p.rest q.rest (same_message frame _ _ _ _ p.spelled q.spelled).1) [
      | inl same ↦ same
      | inr (inl past) ↦ absurd (not_in board one past.later p.refused p.cannot (subst (CanAllBeAccepted board) past.is q.can))
      | inr (inr past) ↦ absurd (not_in board other past.later q.refused q.cannot (subst (CanAllBeAccepted board) past.is p.can))
    ]

same_taken : (board : Followed) (frame : List ℕ) (one other : List Edit) → TakesNone board frame one ⊎ TakesFront board frame one
    → TakesNone board frame other ⊎ TakesFront board frame other → one ≡ other
same_taken board frame one other (inl p) (inl q) = p.empty ∙ sym q.empty
same_taken board frame one other (inl p) (inr q) = absurd (p.none _ q.spelled)
same_taken board frame one other (inr p) (inl q) = absurd (q.none _ p.spelled)
same_taken board frame one other (inr p) (inr q) = same_front board frame one other p q

same_left : (before : Option Followed) (frame : List ℕ) (after other : Option Followed) → LeavesBoard before frame after → LeavesBoard before frame other
    → after ≡ other
same_left None frame after other p q = p ∙ sym q
same_left (Some board) frame after other (one, p, e) (two, q, f) =
    e ∙ ap (λ l. Some (with_edits board l)) (same_taken board frame one two p q) ∙ sym f

-- what becomes of a board by a frame
record SameEnd (why other : Option FollowFault) (after then : Option Followed) : Type 0 where
  pub fault : why ≡ other
  pub board : after ≡ then

same_judged : (order : OrderKind) (before : Option Followed) (frame : List ℕ) (at : ℕ) (why other : Option FollowFault) (after then : Option Followed)
    → Judges order before frame at why after → Judges order before frame at other then → SameEnd why other after then
same_judged order before frame at why other after then (inl p) (inl q) =
    let same = frames_spell_one_message frame p.message q.message p.continues.spelled q.continues.spelled in
    record {
      fault = p.fault_is ∙ ap fault_after same ∙ sym q.fault_is;
      board = p.board ∙ ap (board_after order before) same ∙ sym q.board;
    }
same_judged order before frame at why other after then (inl p) (inr q) = absurd (q.none p.message p.continues)
same_judged order before frame at why other after then (inr p) (inl q) = absurd (p.none q.message q.continues)
same_judged order before frame at why other after then (inr p) (inr q) = record {
  fault = p.fault_is ∙ sym q.fault_is;
  board = same_left before frame after then p.board q.board;
}

-- ---- one byte, and all

same_ended : (before after other : Following) (held : List ℕ) → EndsMessage before held after → EndsMessage before held other → after ≡ other
same_ended before after other held p q =
    let end = same_judged before.order before.board (drop 4 held) before.at after.fault other.fault after.board other.board p.judged q.judged in
    λ i. record {
      order = (p.order ∙ sym q.order) i;
      board = end.board i;
      held = (p.held_is ∙ sym q.held_is) i;
      at = (p.at ∙ sym q.at) i;
      fault = end.fault i;
    }

same_by : (before after other : Following) (byte : ℕ) → Takes before byte after → Takes before byte other
    → IsBegun (before.held ++ byte ∷ []) ⊎ (IsTooLong (before.held ++ byte ∷ []) ⊎ IsWhole (before.held ++ byte ∷ [])) → after ≡ other
same_by before after other byte p q (inl is) = p.begun is ∙ sym (q.begun is)
same_by before after other byte p q (inr (inl is)) = p.too_long is ∙ sym (q.too_long is)
same_by before after other byte p q (inr (inr is)) = same_ended before after other (before.held ++ byte ∷ []) (p.whole is) (q.whole is)

pub stage : (held : List ℕ) → IsBegun held ⊎ (IsTooLong held ⊎ IsWhole held)
stage held = elim (cases_lt (length held) 4) [
  | inl few ↦ inl (inl few)
  | inr told ↦ elim (cases_lt MAX_FRAME (size_said held)) [
    | inl long ↦ inr (inl (record { told = told; long = long }))
    | inr short ↦ elim (cases_lt (length held) (4 + size_said held)) [
      | inl part ↦ inl (inr (short, part))
      | inr all ↦ inr (inr (record { told = told; short = short; all = all }))
    ]
  ]
]

same_next : (why : Option FollowFault) (before after other : Following) (byte : ℕ)
    → MatchOption why (Takes before byte after) (λ _. after ≡ before) → MatchOption why (Takes before byte other) (λ _. other ≡ before) → after ≡ other
same_next None before after other byte p q = same_by before after other byte p q (stage (before.held ++ byte ∷ []))
same_next (Some why) before after other byte p q = p ∙ sym q

pub bytes_decide : BytesDecide
bytes_decide before after other [] p q = p ∙ sym q
bytes_decide before after other (byte ∷ bytes) (m, p, rest) (n, q, later) =
    bytes_decide n after other bytes (subst (λ f. Took f bytes after) (same_next before.fault before m n byte p q) rest) later
