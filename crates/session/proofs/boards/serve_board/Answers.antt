use Rattle.std.proofs.lemmas.Result.{IfOk-weaker}
use Rattle.session.specs.declared.trades.Trade.TheVariants as trade
use Rattle.session.specs.ServedBoards.{AreServed, AreServedBy}
use Rattle.session.specs.Trades.{IsHeldBy, feeds_at}
use Rattle.session.proofs.Parting.{all_by_sessions}
use Rattle.session.proofs.boards.serve_board.Goals as goal

pub serve_trades-requires-clause-fits : goal.serve_trades-requires-clause-fits
serve_trades-requires-clause-fits g c κs within = λ number place is map by. absurd by

pub returns-clause-served : goal.returns-clause-served
returns-clause-served g c =
    IfOk-weaker c.serve_trades.result
    (λ served. AreServedBy g.D.Door.at (IsHeldBy trade.Sessions) (feeds_at trade.Sessions) c.args.board
    c.args.doors.items served.doors.items served.board.history)
    (λ served. AreServed g.D.Door.at c.args.board c.args.doors.items served.doors.items served.board.history)
    (λ served by. all_by_sessions g.D.Door.at trade.Sessions c.args.board served.board.history c.args.doors.items
    served.doors.items (λ number map none. none) by)
    c.serve_trades.ensures.served
