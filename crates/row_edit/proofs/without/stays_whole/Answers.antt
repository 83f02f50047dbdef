use Rattle.std.proofs.Common.{inl, inr, arith}
use Rattle.std.proofs.lemmas.Bool.{leb-true}
use Rattle.row_edit.proofs.without.stays_whole.Goals as goal

pub returns-then-span-places : goal.returns-then-span-places
returns-then-span-places c past sets all move early late =
    let has = c.both.ensures move (c.shared-front.ensures sets all move early) (c.shared-back.ensures sets all move late) in
    elim (c.rest_of-fresh.ensures move has) [
      | inl own ↦ inl own
      | inr new ↦ inr (c.has_none_below.ensures c.if-has_none_below.true move new, λ inside. absurd (omega (arith, leb-true _ _ past)))
    ]

pub returns-else-span-places : goal.returns-else-span-places
returns-else-span-places c apart sets all move early late =
    let has = c.both.ensures move (c.shared-front.ensures sets all move early) (c.shared-back.ensures sets all move late) in
    elim (c.rest_of-fresh.ensures move has) [
      | inl own ↦ inl own
      | inr new ↦
          inr (c.has_none_below.ensures c.if-has_none_below.true move new, λ inside behind. c.is_apart.ensures apart move new (c.most_at.ensures sets all move early.number behind))
    ]
