use Rattle.std.proofs.Common.{◌≡◌, ◌∙◌, ◌++◌, ◌∷◌, [], ap, refl, sym, subst}
use Rattle.std.specs.Arc.{arc_value}
use Rattle.std.specs.List.{ReversedBelow}
use Rattle.std.specs.Option.{option_to_list}
use Rattle.std.specs.Vec.{vec_capacity}
use Rattle.path_board.proofs.Dealt.{dealing_all, dealing_more, dealing_none, new_holds, next_of_deal, next_value}
use Rattle.path_board.proofs.sharing.deal.Goals as goal

pub loop-seat-init : goal.loop-seat-init
loop-seat-init c = let s = c.args.seats in
    dealing_none arc_value s.items c.reverse.new.self.items c.args.versions.items _ _ c.requires.deal
    (subst (ReversedBelow s.items c.reverse.new.self.items) s.ok.0 c.reverse.ensures.by_index)
    (sym c.reverse.new.self.ok.0 ∙ c.reverse.ensures.len ∙ s.ok.0) c.requires.room.0 c.requires.room.1

pub loop-seat-preserved : goal.loop-seat-preserved
loop-seat-preserved c = let had_is : c.loop-seat.versions.items ≡ c.pop-in-Some.new.self.items ++ c.unwrap-held.result ∷ [] =
    c.pop-in-Some.ensures.items ∙ ap (λ o. c.pop-in-Some.new.self.items ++ option_to_list o) c.unwrap-held.ensures in
    dealing_more arc_value c.args.seats.items c.args.versions.items (vec_capacity c.loop-seat.passes) (vec_capacity c.push_reserved.new.self) c.loop-seat.seats.items
    c.pop.new.self.items c.in-Some.seat c.loop-seat.versions.items c.pop-in-Some.new.self.items c.unwrap-held.result c.loop-seat.passes.items c.push_reserved.new.self.items _
    c.loop-seat.invariant c.in-Some.ensures.items had_is c.push_reserved.ensures.capacity refl (c.len-number.ensures ∙ c.loop-seat.passes.ok.0) refl refl
    c.push_reserved.ensures.items

pub invariant_of-push_reserved-clause-idle : goal.invariant_of-push_reserved-clause-idle
invariant_of-push_reserved-clause-idle c = (next_of_deal arc_value c.args.seats.items c.args.versions.items (vec_capacity c.loop-seat.passes) c.loop-seat.seats.items
    c.pop.new.self.items c.in-Some.seat c.loop-seat.versions.items c.loop-seat.passes.items c.requires.deal c.loop-seat.invariant c.in-Some.ensures.items).idle

pub invariant_of-push_reserved-clause-numbered : goal.invariant_of-push_reserved-clause-numbered
invariant_of-push_reserved-clause-numbered c = (next_of_deal arc_value c.args.seats.items c.args.versions.items (vec_capacity c.loop-seat.passes) c.loop-seat.seats.items
    c.pop.new.self.items c.in-Some.seat c.loop-seat.versions.items c.loop-seat.passes.items c.requires.deal c.loop-seat.invariant c.in-Some.ensures.items).number
    ∙ sym (c.len-number.ensures ∙ c.loop-seat.passes.ok.0)

pub invariant_of-push_reserved-clause-holds : goal.invariant_of-push_reserved-clause-holds
invariant_of-push_reserved-clause-holds c = let has = c.requires.deal in
    let had_is : c.loop-seat.versions.items ≡ c.pop-in-Some.new.self.items ++ c.unwrap-held.result ∷ [] =
    c.pop-in-Some.ensures.items ∙ ap (λ o. c.pop-in-Some.new.self.items ++ option_to_list o) c.unwrap-held.ensures in
    let new = next_of_deal arc_value c.args.seats.items c.args.versions.items (vec_capacity c.loop-seat.passes) c.loop-seat.seats.items
    c.pop.new.self.items c.in-Some.seat c.loop-seat.versions.items c.loop-seat.passes.items has c.loop-seat.invariant c.in-Some.ensures.items in
    new_holds has.id has.board _ _ c.in-Some.seat (arc_value c.unwrap-held.result) new has.is.empty has.is.copies_are.published
    (next_value arc_value c.args.seats.items c.args.versions.items (vec_capacity c.loop-seat.passes) c.loop-seat.seats.items c.loop-seat.versions.items
    c.pop-in-Some.new.self.items c.unwrap-held.result c.loop-seat.passes.items has c.loop-seat.invariant had_is)

pub returns : goal.returns
returns c = dealing_all arc_value c.args.seats.items c.args.versions.items _ c.loop-seat.seats.items c.loop-seat.versions.items c.loop-seat.passes.items c.loop-seat.invariant
    (sym c.loop-seat.seats.ok.0 ∙ c.in_default.ensures.cases.0)
