use Rattle.std.proofs.Common.{◌≡◌, ◌≢◌, sym, ◌∙◌, arith}
use Rattle.std.proofs.lemmas.Bool.{false≢true}
use Rattle.std.proofs.lemmas.List.{length_push}
use Rattle.walk_rows.proofs.Descending.{alone_is_kept, alone_leads_on}
use Rattle.walk_rows.proofs.Walking.{inside_way, under_way_next}
use Rattle.walk_rows.proofs.along.go_on.Goals as goal

pub loop-init : goal.loop-init
loop-init c = record { way = c.requires.way; long = omega arith }

pub forced_move-requires : goal.forced_move-requires
forced_move-requires c = inside_way _ _ _ _ c.loop.invariant.way

pub take-requires : goal.take-requires
take-requires c =
    let apart : c.loop.trail.at ≢ c.args.route.goal = λ same. false≢true (sym c.if-is_reached.false ∙ c.is_reached.ensures.1 same) in
    let on = alone_leads_on _ c.args.route _ c.requires.searched _ c.loop.invariant.way.ahead apart c.in-Some.by c.in-Some.ensures in
    (on.next, on.legal)

pub loop-preserved : goal.loop-preserved
loop-preserved c =
    let apart : c.loop.trail.at ≢ c.args.route.goal = λ same. false≢true (sym c.if-is_reached.false ∙ c.is_reached.ensures.1 same) in
    let ahead = c.loop.invariant.way.ahead in
    let on = alone_leads_on _ c.args.route _ c.requires.searched _ ahead apart c.in-Some.by c.in-Some.ensures in
    let kept = alone_is_kept _ c.args.route _ c.requires.searched _ ahead apart c.in-Some.by c.in-Some.ensures in
    rw c.in_ok-take-in-Some.ensures.moves
    (record {
      way = under_way_next _ _ _ _ c.loop.invariant.way apart c.in-Some.by kept on _ c.in_ok-take-in-Some.ensures.at;
      long = (let before = c.loop.invariant.long in let more = length_push c.loop.trail.moves.items c.in-Some.by in omega arith);
    })
