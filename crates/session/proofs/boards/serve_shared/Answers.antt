use Rattle.std.proofs.Common.{◌≡◌, ◌+◌, ◌++◌, ◌∷◌, [], ap, length, length-append, subst, sym, ◌∙◌, arith}
use Rattle.std.specs.Option.{option_to_list}
use Rattle.std.specs.Vec.{vec_capacity, vec_len}
use Rattle.path_board.specs.declared.pass.Pass.{Pass}
use Rattle.session.specs.Builders.{HasBuilt}
use Rattle.session.specs.Crews.{any_of, has_failed}
use Rattle.session.specs.Seats.{place_of, standing_of}
use Rattle.session.specs.Trades.{FitsAt, IsHeldBy, feeds_at}
use Rattle.session.proofs.Crewing.{all_front, have_run, may_begin}
use Rattle.session.proofs.Hiring.{back_long}
use Rattle.session.proofs.boards.serve_shared.Goals as goal

pub serve_beside-builder-requires-clause-ready : goal.serve_beside-builder-requires-clause-ready
serve_beside-builder-requires-clause-ready g c κs within =
    let left = c.pop.new.self.items in
    let had : c.args.passes.items ≡ left ++ c.unwrap.result ∷ [] = c.pop.ensures.items ∙ ap (λ o. left ++ option_to_list o) c.unwrap.ensures in
    may_begin g.D.Door.at (FitsAt c.args.site.now.trade.now) c.hire-crew.result.items c.args.doors.items left
    c.hire-crew.ensures.doors c.hire-crew.ensures.passes c.requires.open
    (all_front (λ pass. FitsAt c.args.site.now.trade.now (place_of pass)) left (c.unwrap.result ∷ []) c.args.passes.items had c.requires.fits)

pub push_reserved-requires : goal.push_reserved-requires
push_reserved-requires g c =
    let crew = c.hire-crew.result.items in
    let then = c.serve_beside-builder.result.1.items in
    let left = c.pop.new.self.items in
    let had : c.args.passes.items ≡ left ++ c.unwrap.result ∷ [] = c.pop.ensures.items ∙ ap (λ o. left ++ option_to_list o) c.unwrap.ensures in
    let had_long : length c.args.passes.items ≡ length left + 1 = ap length had ∙ length-append left (c.unwrap.result ∷ []) in
    let whole : vec_len c.dismiss.new.passes ≡ length left =
    c.dismiss.new.passes.ok.0 ∙ ap length c.dismiss.ensures.passes ∙ back_long then (λ w. w.seat.pass) ∙ c.serve_beside-builder.ensures.ran.long
    ∙ sym (back_long crew (λ w. w.seat.pass)) ∙ ap length c.hire-crew.ensures.passes in
    let room : vec_capacity c.dismiss.new.passes ≡ vec_capacity c.args.passes =
    c.dismiss.ensures.room ∙ c.hire-crew.ensures.room_of_passes ∙ c.pop.ensures.capacity in
    let counted = c.args.passes.ok.0 in
    let kept = c.args.passes.ok.1 in
    omega (arith, had_long, whole, room, counted, kept)

pub returns-clause-parted : goal.returns-clause-parted
returns-clause-parted g c =
    let left = c.pop.new.self.items in
    let had : c.args.passes.items ≡ left ++ c.unwrap.result ∷ [] = c.pop.ensures.items ∙ ap (λ o. left ++ option_to_list o) c.unwrap.ensures in
    let had_long : length c.args.passes.items ≡ length left + 1 = ap length had ∙ length-append left (c.unwrap.result ∷ []) in
    let total = c.requires.long in
    let after = c.serve_beside-builder.result.0.pass in
    record {
      first = left;
      builder = c.unwrap.result;
      passes_are = had;
      long = omega (arith, had_long, total);
      first_after = c.dismiss.new.passes.items;
      builder_after = after;
      passes_after_are = c.push_reserved.ensures.items;
      ran = have_run g.D.Door.at (IsHeldBy c.args.site.now.trade.now)
          (feeds_at c.args.site.now.trade.now) c.hire-crew.result.items c.serve_beside-builder.result.1.items c.args.doors.items left
          c.dismiss.new.doors.items c.dismiss.new.passes.items c.serve_beside-builder.ensures.ran c.hire-crew.ensures.doors c.hire-crew.ensures.passes
          c.dismiss.ensures.doors c.dismiss.ensures.passes c.any_failed-failed.result
          (c.any_failed-failed.ensures ∙ ap (λ l. any_of l (λ w. has_failed w.ended)) c.deref.ensures.value);
      same = subst (λ (p : Pass). place_of after ≡ place_of p) c.seated-builder.ensures c.serve_beside-builder.ensures.same;
      built = subst (λ (p : Pass). HasBuilt (place_of p) (standing_of p) c.serve_beside-builder.result.2 (g.E.Ear.at c.args.ear.now).rung (standing_of after)
          (g.E.Ear.at c.serve_beside-builder.new.ear).rung) c.seated-builder.ensures c.serve_beside-builder.ensures.built;
    }
