-- What becomes of a follower by bytes, piece by piece.
use Rattle.std.proofs.Common.{◌≡◌, ◌⊎◌, inl, inr, ℕ, ◌+◌, ◌<◌, Some, None, MatchOption, List, [], ◌∷◌, ◌++◌, length, take, drop, get_or, refl, sym, subst, ap, ◌∙◌}
use Rattle.std.proofs.lemmas.List.{append_assoc, take-append-drop, take_more}
use Rattle.follow_node.specs.declared.faults.FollowFault.{FollowFault}
use Rattle.follow_node.specs.Streams.{Following, RunsShort, StopsShort, Takes, TakesNext, Took}

next_taken : (before after : Following) (byte : ℕ) → before.fault ≡ None → Takes before byte after → TakesNext before byte after
next_taken before after byte unfaulted takes = subst (λ o. MatchOption o (Takes before byte after) (λ _. after ≡ before)) (sym unfaulted) takes

-- the bytes of one piece, and those of the next
pub took_both : (before mid after : Following) (one other : List ℕ) → Took before one mid → Took mid other after → Took before (one ++ other) after
took_both before mid after [] other p q = subst (λ f. Took f other after) p q
took_both before mid after (byte ∷ one) other (m, next, rest) q = (m, next, took_both m mid after one other rest q)

pub took_more : (before mid after : Following) (bytes : List ℕ) (byte : ℕ) → Took before bytes mid → mid.fault ≡ None → Takes mid byte after
    → Took before (bytes ++ byte ∷ []) after
took_more before mid after bytes byte p unfaulted takes =
    took_both before mid after bytes (byte ∷ []) p (after, next_taken mid after byte unfaulted takes, refl)

-- behind a fault all bytes are passed over
pub passes_over : (at : Following) (bytes : List ℕ) (why : FollowFault) → at.fault ≡ Some why → Took at bytes at
passes_over at [] why is = refl
passes_over at (byte ∷ bytes) why is =
    (at, subst (λ o. MatchOption o (Takes at byte at) (λ _. at ≡ at)) (sym is) refl, passes_over at bytes why is)

module _ (before mid after : Following) (piece : List ℕ) (place : ℕ) (p : Took before (take place piece) mid) (unfaulted : mid.fault ≡ None)
    (below : place < length piece) where
  pub took_next : Takes mid (get_or piece place 0) after → Took before (take (place + 1) piece) after
  took_next takes = subst (λ l. Took before l after) (sym (take_more piece place 0 below))
      (took_more before mid after (take place piece) (get_or piece place 0) p unfaulted takes)

  cut : (take place piece ++ get_or piece place 0 ∷ []) ++ drop (place + 1) piece ≡ piece
  cut = ap (λ l. l ++ drop (place + 1) piece) (sym (take_more piece place 0 below)) ∙ take-append-drop (place + 1) piece

  pub took_all : (why : FollowFault) → after.fault ≡ Some why → Takes mid (get_or piece place 0) after ⊎ RunsShort mid (get_or piece place 0) after
      → Took before piece after ⊎ StopsShort before piece after
  took_all why is (inl takes) = inl (subst (λ l. Took before l after) (take-append-drop (place + 1) piece)
      (took_both before after after (take (place + 1) piece) (drop (place + 1) piece) (took_next takes) (passes_over after (drop (place + 1) piece) why is)))
  took_all why is (inr short) = inr (record {
    front = take place piece;
    byte = get_or piece place 0;
    rest = drop (place + 1) piece;
    bytes_are = sym (sym (append_assoc (take place piece) (get_or piece place 0 ∷ []) (drop (place + 1) piece)) ∙ cut);
    mid = mid;
    took = p;
    unfaulted = unfaulted;
    short = short;
  })
