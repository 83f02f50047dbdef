use Rattle.std.proofs.Common.{◌≡◌, subst, ◌∙◌}
use Rattle.wire.specs.Talks.{SendsPrefix, with_sent}
use Rattle.follow_proto.specs.Feeds.{start_bytes}
use Rattle.path_board.specs.Passes.{base_by}
use Rattle.feed_node.proofs.Fed.{fed_behind, start_unsent}
use Rattle.feed_node.proofs.feeding.feed_link.Goals as goal

pub returns-in-Ok-clause-feeds : goal.returns-in-Ok-clause-feeds
returns-in-Ok-clause-feeds g c =
    fed_behind (start_bytes (base_by c.args.pass.now).start) _ _ _ _ _ c.answer_asks.result
    (subst (λ m. (g.L.Link.at c.send_start.new.link).talk ≡ with_sent (g.L.Link.at c.args.link.now).talk (start_bytes m)) (c.grid.ensures.map ∙ c.requires.start) c.in-Ok.ensures.sent)
    c.answer_asks.ensures.feeds

pub returns-in-Err-clause-feeds : goal.returns-in-Err-clause-feeds
returns-in-Err-clause-feeds g c =
    start_unsent (start_bytes (base_by c.args.pass.now).start) _ _ _
    (subst (λ m. SendsPrefix (g.L.Link.at c.args.link.now).talk (g.L.Link.at c.send_start.new.link).talk (start_bytes m)) (c.grid.ensures.map ∙ c.requires.start)
    c.in-Err.ensures.prefix)
