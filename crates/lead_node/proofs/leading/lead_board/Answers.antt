use Rattle.std.proofs.Common.{◌≡◌, ◌≢◌, ◌+◌, ◌<◌, All, false, length, refl, subst, sym, arith, ◌∙◌}
use Rattle.path_core.specs.Boards.{Boarded}
use Rattle.path_core.specs.Passes.{pass_of}
use Rattle.session.specs.ServedBoards.{AreServed}
use Rattle.lead_node.specs.Leading.{IsFed}
use Rattle.std.proofs.lemmas.List.Elements.{All-push}
use Rattle.lead_node.proofs.LedBoards.{led_doors, led_fed, led_quiet, named_below}
use Rattle.lead_node.proofs.leading.lead_board.Goals as goal

pub serve_trades-requires-clause-fits : goal.serve_trades-requires-clause-fits
serve_trades-requires-clause-fits g c κs within = λ number place is map by. by.1 ∙ c.requires.start ∙ sym is.start

pub serve_trades-requires-clause-open : goal.serve_trades-requires-clause-open
serve_trades-requires-clause-open g c κs within =
    subst (All (λ door. (g.D.Door.at door).closed ≡ false)) (sym c.in-Ok.ensures.every)
    (All-push (λ door. (g.D.Door.at door).closed ≡ false) c.args.doors.items c.args.feed c.requires.open c.requires.open_feed)

pub returns-in-Ok-serve_trades-clause-named : goal.returns-in-Ok-serve_trades-clause-named
returns-in-Ok-serve_trades-clause-named g c =
    subst (λ (b : Boarded). All (λ entry. pass_of entry < length c.args.doors.items + 2) b.history) (sym c.led_of.ensures.board)
    (named_below c.in-Ok-serve_trades.served.board.history c.args.doors.items c.args.feed c.in-Ok.every.items c.in-Ok.ensures.every
    c.in-Ok-serve_trades.ensures.named)

pub returns-in-Ok-serve_trades-clause-quiet : goal.returns-in-Ok-serve_trades-clause-quiet
returns-in-Ok-serve_trades-clause-quiet g c =
    subst (λ (b : Boarded). All (λ entry. pass_of entry ≢ length c.args.doors.items) b.history) (sym c.led_of.ensures.board)
    (led_quiet g.D.Door.at c.args.board c.in-Ok-serve_trades.served.board.history c.args.start.now.map _ _ c.args.doors.items c.args.feed c.in-Ok.every.items c.in-Ok-serve_trades.served.doors.items c.led_of.result.doors.items c.led_of.result.feed
    c.in-Ok.ensures.every c.led_of.ensures.doors c.in-Ok-serve_trades.ensures.served (refl, refl) (λ pass other map is. other is.0)
    (omega (arith, c.len-count.ensures, c.args.doors.ok.0)))

pub returns-in-Ok-serve_trades-clause-served : goal.returns-in-Ok-serve_trades-clause-served
returns-in-Ok-serve_trades-clause-served g c =
    subst (λ (b : Boarded). AreServed g.D.Door.at c.args.board c.args.doors.items c.led_of.result.doors.items b.history)
    (sym c.led_of.ensures.board)
    (led_doors g.D.Door.at c.args.board c.in-Ok-serve_trades.served.board.history c.args.start.now.map _ _ c.args.doors.items c.args.feed c.in-Ok.every.items c.in-Ok-serve_trades.served.doors.items c.led_of.result.doors.items c.led_of.result.feed
    c.in-Ok.ensures.every c.led_of.ensures.doors c.in-Ok-serve_trades.ensures.served (refl, refl) (λ pass other map is. other is.0)
    (omega (arith, c.len-count.ensures, c.args.doors.ok.0)))

pub returns-in-Ok-serve_trades-clause-fed : goal.returns-in-Ok-serve_trades-clause-fed
returns-in-Ok-serve_trades-clause-fed g c =
    subst (λ (b : Boarded). IsFed g.D.Door.at c.args.start.now.map c.args.board (length c.args.doors.items)
    c.args.feed c.led_of.result.feed b.history)
    (sym c.led_of.ensures.board)
    (led_fed g.D.Door.at c.args.board c.in-Ok-serve_trades.served.board.history c.args.start.now.map _ _ c.args.doors.items c.args.feed c.in-Ok.every.items c.in-Ok-serve_trades.served.doors.items c.led_of.result.doors.items c.led_of.result.feed
    c.in-Ok.ensures.every c.led_of.ensures.doors c.in-Ok-serve_trades.ensures.served (refl, refl) (λ pass other map is. other is.0)
    (omega (arith, c.len-count.ensures, c.args.doors.ok.0)))
