-- What becomes of a board by a whole frame.
use Rattle.std.proofs.Common.{◌≡◌, ℕ, inl, inr, Some, None, List, [], ◌∷◌, ◌++◌, slice_index, refl, sym, subst, ap, ◌∙◌, arith}
use Rattle.std.proofs.lemmas.List.{append-nil, append_assoc}
use Rattle.cell_order.specs.declared.OrderKind.{OrderKind}
use Rattle.edit_log.specs.declared.edit.Edit.{Edit}
use Rattle.edit_log.specs.Verdicts.{MayBeAccepted}
use Rattle.path_core.specs.declared.entry.Entry.TheVariants.{Accept}
use Rattle.path_core.specs.Histories.{accepted_count, map_now, IsLegal}
use Rattle.follow_proto.specs.declared.kinds.TheConstants as kind
use Rattle.follow_proto.specs.Feeds.{Message}
use Rattle.follow_proto.specs.Feeds.Message.{Start, Edits, Ahead, NoMemory}
use Rattle.follow_node.specs.declared.faults.FollowFault.{FollowFault}
use Rattle.follow_node.specs.declared.faults.FollowFault.TheVariants as fault
use Rattle.follow_node.specs.Reading.{Spells, SpellsNoEdits, SpellsNoStart}
use Rattle.follow_node.specs.Following.{Followed, Continues, JudgesOrHalts, Judges, accepts, with_edits, CanAllBeAccepted}
use Rattle.follow_node.specs.Hearing.{AcceptsAll, AcceptsFront, Begins, BeginsNot, GoesOn, GoesOnOrHalts, IsFaultOf, RunsOutBehind, SpellsNoEnd, SubmitsFront}
use Rattle.follow_node.proofs.Spellings.{same_message}
use Rattle.follow_node.proofs.Submitted.{accepts_both, with_none}

kind_is : (frame rest : List ℕ) (first : ℕ) → frame ≡ first ∷ rest → slice_index frame 0 ≡ first
kind_is frame rest first e = ap (λ l. slice_index l 0) e

different : (first : ℕ) → first ≡ kind.EDITS → (first ≡ kind.EDITS → ⊥) → ⊥
different first e off = off e

-- ---- the first frame

pub begun : (order : OrderKind) (frame : List ℕ) (at : ℕ) (board : Followed) → Begins order frame board → Judges order None frame at None (Some board)
begun order frame at board p = inl (record {
  message = Start board.start;
  continues = record { spelled = p.spelled; next = tt };
  board = ap Some p.new;
  fault_is = refl;
})

no_start : (frame : List ℕ) → SpellsNoStart frame → (m : Message) → Continues None frame m → ⊥
no_start frame none (Start map) c = none map c.spelled
no_start frame none (Edits known edits) c = c.next
no_start frame none (Ahead accepted) c = c.next
no_start frame none NoMemory c = c.next

pub not_begun : (order : OrderKind) (frame : List ℕ) (at : ℕ) (why : FollowFault) → BeginsNot frame at why → JudgesOrHalts order None frame at (Some why) None
not_begun order frame at (fault.Bad place) p = inl (inr (record {
  none = λ m c. no_start frame p.1 m c;
  fault_is = ap (λ n. Some (fault.Bad n)) p.0;
  board = refl;
}))
not_begun order frame at (fault.Ahead accepted) p = absurd p
not_begun order frame at fault.LeaderMemory p = absurd p
not_begun order frame at fault.NoMemory p = inr (record { fault_is = refl; board = refl })

-- ---- a frame behind it

module _ (board : Followed) (frame : List ℕ) (at : ℕ) where
  -- no frame that has neither edits nor the end of a feed may come
  none_continues : SpellsNoEnd frame → ((edits : List Edit) → Spells frame (Edits (accepted_count board.history) edits) → CanAllBeAccepted board edits → ⊥)
      → (m : Message) → Continues (Some board) frame m → ⊥
  none_continues ends none (Start map) c = c.next
  none_continues ends none (Edits known edits) c =
      none edits (subst (λ k. Spells frame (Edits k edits)) c.next.0 c.spelled) c.next.1
  none_continues ends none (Ahead accepted) c = ends.ahead accepted c.spelled
  none_continues ends none NoMemory c = ends.no_memory c.spelled

  no_end : slice_index frame 0 ≡ kind.EDITS → SpellsNoEnd frame
  no_end is = record {
    ahead = λ accepted s. different kind.AHEAD (sym (kind_is frame _ kind.AHEAD s.1) ∙ is) (λ e. absurd (omega (arith, e)));
    no_memory = λ s. different kind.NO_MEMORY (sym (kind_is frame _ kind.NO_MEMORY s.1) ∙ is) (λ e. absurd (omega (arith, e)));
  }

  refuses_none : SpellsNoEnd frame → ((edits : List Edit) → Spells frame (Edits (accepted_count board.history) edits) → ⊥)
      → GoesOn board frame at (Some (fault.Bad at)) board
  refuses_none ends none order = inr (record {
    none = none_continues ends (λ edits s can. none edits s);
    fault_is = refl;
    board = ([], inl (record { none = none; empty = refl }), ap Some (sym (with_none board)));
  })

  -- a frame with edits that do not go on from those that were accepted
  pub refuses_sent : (known : ℕ) (edits : List Edit) → Spells frame (Edits known edits) → (known ≡ accepted_count board.history → ⊥)
      → GoesOn board frame at (Some (fault.Bad at)) board
  refuses_sent known edits spelled off order =
      refuses_none (no_end (kind_is frame _ kind.EDITS spelled.1)) (λ others s.
      off (same_message frame known (accepted_count board.history) edits others spelled s).0) order

  -- a frame of edits that spells none
  pub refuses_edits : slice_index frame 0 ≡ kind.EDITS → SpellsNoEdits frame
      → GoesOn board frame at (Some (fault.Bad at)) board
  refuses_edits is none order = refuses_none (no_end is) (λ edits s. none (accepted_count board.history) edits s) order

  -- a frame without edits
  pub says : (why : FollowFault) → SpellsNoEdits frame → IsFaultOf frame at why → GoesOnOrHalts board frame at (Some why) board
  says (fault.Bad place) other p order =
      subst (λ n. JudgesOrHalts order (Some board) frame at (Some (fault.Bad n)) (Some board)) (sym p.0)
      (inl (refuses_none p.1 (λ edits s. other (accepted_count board.history) edits s) order))
  says (fault.Ahead accepted) other p order = inl (inl (record {
    message = Ahead accepted;
    continues = record { spelled = p; next = tt };
    board = refl;
    fault_is = refl;
  }))
  says fault.LeaderMemory other p order = inl (inl (record {
    message = NoMemory;
    continues = record { spelled = p; next = tt };
    board = refl;
    fault_is = refl;
  }))
  says fault.NoMemory other p order = absurd p

  -- memory ran out before any edit was accepted
  pub runs_out : GoesOnOrHalts board frame at (Some fault.NoMemory) board
  runs_out order = inr (record { fault_is = refl; board = inl refl })

  module _ (known : ℕ) (edits : List Edit) (after : Followed) (spelled : Spells frame (Edits known edits)) (is : known ≡ accepted_count board.history) where
    here : Spells frame (Edits (accepted_count board.history) edits)
    here = subst (λ k. Spells frame (Edits k edits)) is spelled

    pub heard_all : AcceptsAll board edits after → GoesOn board frame at None after
    heard_all p order = inl (record {
      message = Edits known edits;
      continues = record { spelled = spelled; next = (is, p.can) };
      board = ap Some p.board;
      fault_is = refl;
    })

    pub all_of : (taken : List Edit) (next : Edit) (rest : List Edit) → CanAllBeAccepted board (taken ++ next ∷ rest)
        → MayBeAccepted (map_now board.start (with_edits board taken).history) (accepted_count (with_edits board taken).history) next
    unfolding IsLegal
    all_of taken next rest legal =
        let cut : board.history ++ accepts (taken ++ next ∷ rest) ≡ (board.history ++ accepts taken) ++ Accept 0 next ∷ accepts rest =
        ap (λ l. board.history ++ l) (accepts_both taken (next ∷ rest)) ∙ sym (append_assoc board.history (accepts taken) (accepts (next ∷ rest))) in
        legal (board.history ++ accepts taken) (Accept 0 next) (accepts rest) cut

    heard_front : (why : FollowFault) → slice_index frame 0 ≡ kind.EDITS → SubmitsFront board edits at why after → GoesOnOrHalts board frame at (Some why) after
    heard_front (fault.Bad place) first p order = inl (inr (record {
      none = none_continues (no_end first) (λ others s can.
          let same = (same_message frame (accepted_count board.history) (accepted_count board.history) others edits s here).1 in
          subst (λ (b : Followed). MayBeAccepted (map_now b.start b.history) (accepted_count b.history) p.next → ⊥) p.board p.cause.1
          (all_of p.taken p.next p.rest (subst (CanAllBeAccepted board) (same ∙ p.edits_are) can)));
      fault_is = ap (λ n. Some (fault.Bad n)) p.cause.0;
      board = (
        p.taken,
        inr (record {
          refused = p.next;
          rest = p.rest;
          spelled = subst (λ l. Spells frame (Edits (accepted_count board.history) l)) p.edits_are here;
          can = p.can;
          cannot = subst (λ (b : Followed). MayBeAccepted (map_now b.start b.history) (accepted_count b.history) p.next → ⊥) p.board p.cause.1;
        }),
        ap Some p.board,
      );
    }))
    heard_front (fault.Ahead accepted) first p order = absurd p.cause
    heard_front fault.LeaderMemory first p order = absurd p.cause
    heard_front fault.NoMemory first p order = inr (record {
      fault_is = refl;
      board = inr (
        p.taken,
        record {
          rest = p.next ∷ p.rest;
          spelled = subst (λ l. Spells frame (Edits (accepted_count board.history) l)) p.edits_are here;
          can = p.can;
        },
        ap Some p.board,
      );
    })

    heard_most : (why : FollowFault) → RunsOutBehind board edits why after → GoesOnOrHalts board frame at (Some why) after
    heard_most why p order = inr (record {
      fault_is = ap Some p.fault_is;
      board = inr (
        edits,
        record {
          rest = [];
          spelled = subst (λ l. Spells frame (Edits (accepted_count board.history) l)) (sym (append-nil edits)) here;
          can = p.all.can;
        },
        ap Some p.all.board,
      );
    })

    pub heard_some : (why : FollowFault) → AcceptsFront board edits at why after → GoesOnOrHalts board frame at (Some why) after
    heard_some why (inl p) = heard_front why (kind_is frame _ kind.EDITS spelled.1) p
    heard_some why (inr p) = heard_most why p
