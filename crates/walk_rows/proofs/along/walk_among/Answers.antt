use Rattle.std.proofs.Common.{◌≡◌, ◌≢◌, ap, sym, ◌∙◌, arith}
use Rattle.std.proofs.lemmas.Bool.{false≢true}
use Rattle.std.proofs.lemmas.List.{length_push}
use Rattle.walk_rows.proofs.Descending.{kept_leads_on}
use Rattle.walk_rows.proofs.Home.{among, goal_among, kept_at_home}
use Rattle.walk_rows.proofs.Walking.{ready_kept, ready_none, too_long, under_way_done, under_way_next}
use Rattle.walk_rows.proofs.along.walk_among.Goals as goal

pub place_of-to-requires : goal.place_of-to-requires
place_of-to-requires c = goal_among _ _ _ c.requires.home

pub loop-init : goal.loop-init
loop-init c = record {
  way = c.requires.way;
  ready = ready_none _ _ c.in_ok-bench.ensures.count c.in_ok-bench.ensures.marks c.in_ok-bench.ensures.none;
  room = rw c.in_ok-bench.ensures.room (omega arith);
  long = omega arith;
}

pub returns-then-is_reached : goal.returns-then-is_reached
returns-then-is_reached c = under_way_done _ _ _ _ c.loop.invariant.way (c.is_reached.ensures.0 c.if-is_reached.true)

pub next_move-requires-clause-at : goal.next_move-requires-clause-at
next_move-requires-clause-at c = among _ _ _ c.requires.home _ c.loop.invariant.way.ahead

pub take-requires : goal.take-requires
take-requires c =
    let apart : c.loop.trail.at ≢ c.args.route.goal = λ same. false≢true (sym c.if-is_reached.false ∙ c.is_reached.ensures.1 same) in
    let kept = rw c.place_of-to.ensures.there at c.in_ok-by.ensures.kept in
    let on = kept_leads_on _ _ _ c.requires.home _ c.loop.invariant.way.ahead apart c.requires.cells c.in_ok-by.by kept in
    (on.next, on.legal)

pub go_on-requires-clause-way : goal.go_on-requires-clause-way
go_on-requires-clause-way c =
    let apart : c.loop.trail.at ≢ c.args.route.goal = λ same. false≢true (sym c.if-is_reached.false ∙ c.is_reached.ensures.1 same) in
    let kept = rw c.place_of-to.ensures.there at c.in_ok-by.ensures.kept in
    let on = kept_leads_on _ _ _ c.requires.home _ c.loop.invariant.way.ahead apart c.requires.cells c.in_ok-by.by kept in
    rw c.in_ok-take.ensures.moves
    (under_way_next _ _ _ _ c.loop.invariant.way apart c.in_ok-by.by (kept_at_home _ _ _ c.requires.home _ c.in_ok-by.by kept) on _ c.in_ok-take.ensures.at)

pub loop-preserved : goal.loop-preserved
loop-preserved c = record {
  way = c.in_ok-go_on.ensures.way;
  ready = ready_kept _ _ _ c.in_ok-by.ensures.ready c.learn.ensures.tiles c.learn.ensures.rows c.learn.ensures.wanted;
  room = rw (ap (λ plain. plain.room) c.learn.ensures.plain, c.in_ok-by.ensures.room) c.loop.invariant.room;
  long =
      (let before = c.loop.invariant.long in
      let more = rw c.in_ok-take.ensures.moves at c.in_ok-go_on.ensures.long in
      let one = length_push c.loop.trail.moves.items c.in_ok-by.by in
      omega arith);
}

pub returns : goal.returns
returns c =
    too_long _ _ _ _ c.loop.invariant.way _ c.requires.home c.requires.cells.sources
    (let end = c.loop.auto.counter-end in let past = c.loop-test.false in let long = c.loop.invariant.long in omega arith)
