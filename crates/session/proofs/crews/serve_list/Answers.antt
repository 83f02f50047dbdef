use Rattle.std.proofs.Common.{List, ap, length, subst, sym, ◌∙◌}
use Rattle.session.specs.Crews.{HaveAllRun}
use Rattle.session.specs.declared.crews.Worker.{Worker}
use Rattle.session.specs.Trades.{IsHeldBy, feeds_at}
use Rattle.session.proofs.Hiring.{lent_back}
use Rattle.session.proofs.crews.serve_list.Goals as goal

pub returns : goal.returns
returns g c =
    let held = IsHeldBy c.args.trade.now in
    let silent = feeds_at c.args.trade.now in
    let had = c.args.crew.items in
    let new = c.serve_crew.new.crew in
    let whole = c.as_mut_slice.ensures.value in
    let back = lent_back had new c.args.crew.len c.args.crew.ok.0 (c.serve_crew.ensures.long ∙ ap length whole) in
    record {
      ran = subst (HaveAllRun g.D.Door.at held silent had) (sym back)
          (subst (λ (l : List (Worker g.row.D.Denot g.row.B.Denot g.row.D-Conn.Denot)). HaveAllRun g.D.Door.at held silent l new) whole
          (record { long = c.serve_crew.ensures.long; each = c.serve_crew.ensures.each }));
    }
