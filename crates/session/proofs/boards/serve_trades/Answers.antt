use Rattle.std.proofs.Common.{◌<◌, ap, slice_index_or, subst, ◌∙◌}
use Rattle.path_core.specs.Histories.{published_prefix}
use Rattle.path_core.specs.Passes.{pass_of}
use Rattle.path_board.specs.Foundations.{foundation_of}
use Rattle.session.specs.Trades.{FitsAt, IsHeldBy, feeds_at}
use Rattle.session.proofs.Parting.{all_fit, all_passes, are_served, base_is, built_by, failed_so, long_after}
use Rattle.session.proofs.boards.serve_trades.Goals as goal

pub serve_shared-parted-requires-clause-fits : goal.serve_shared-parted-requires-clause-fits
serve_shared-parted-requires-clause-fits g c κs within = all_fit (FitsAt c.args.trade.now) _ _ _ _ c.requires.fits c.in-Ok-share.ensures.ok

pub close-board-requires : goal.close-board-requires
close-board-requires g c = record {
  passes = all_passes g.D.Door.at (IsHeldBy c.args.trade.now) (feeds_at c.args.trade.now)
      _ _ _ _ _ _ _ _ _ _ _
      c.in-Ok-share.ensures.ok c.requires.some c.serve_shared-parted.ensures.parted;
}

pub returns-clause-base : goal.returns-clause-base
returns-clause-base g c =
    base_is g.D.Door.at (IsHeldBy c.args.trade.now) (feeds_at c.args.trade.now)
    _ _ _ _ _ _ _ _ _ _ _
    c.in-Ok-share.ensures.ok c.requires.some c.serve_shared-parted.ensures.parted (foundation_of c.close-board.result) c.close-board.ensures.base

pub returns-clause-named : goal.returns-clause-named
returns-clause-named g c =
    λ k d early. subst (λ n. pass_of (slice_index_or c.close-board.result.history k d) < n)
    (long_after g.D.Door.at (IsHeldBy c.args.trade.now) (feeds_at c.args.trade.now)
    _ _ _ _ _ _ _ _ _ _ _
    c.in-Ok-share.ensures.ok c.requires.some c.serve_shared-parted.ensures.parted) (c.close-board.ensures.named k d early)

pub returns-clause-served : goal.returns-clause-served
returns-clause-served g c =
    are_served g.D.Door.at (IsHeldBy c.args.trade.now) (feeds_at c.args.trade.now)
    _ _ _ _ _ _ _ _ _ _ _
    c.in-Ok-share.ensures.ok c.requires.some c.serve_shared-parted.ensures.parted c.close-board.result.history
    (c.version.ensures.version.after ∙ ap published_prefix c.requires.none) c.close-board.ensures.seen

pub returns-clause-built : goal.returns-clause-built
returns-clause-built g c =
    built_by g.D.Door.at (IsHeldBy c.args.trade.now) (feeds_at c.args.trade.now)
    _ _ _ _ _ _ _ _ _ _ _
    c.in-Ok-share.ensures.ok c.requires.some c.serve_shared-parted.ensures.parted c.close-board.result.history
    (c.version.ensures.version.after ∙ ap published_prefix c.requires.none) c.close-board.ensures.seen

pub returns-clause-failed : goal.returns-clause-failed
returns-clause-failed g c =
    failed_so g.D.Door.at (IsHeldBy c.args.trade.now) (feeds_at c.args.trade.now)
    _ _ _ _ _ _ _ _ _ _ _
    c.in-Ok-share.ensures.ok c.requires.some c.serve_shared-parted.ensures.parted c.close-board.result.history
    (c.version.ensures.version.after ∙ ap published_prefix c.requires.none) c.close-board.ensures.seen
