use Rattle.follow_node.proofs.Submitted.{newer, some_edits}
use Rattle.follow_node.proofs.hearing.accept_all.Goals as goal

pub publish_after-requires : goal.publish_after-requires
publish_after-requires c = λ some. newer _ _ _ c.in-Ok.ensures.all (some_edits _ _ c.is_empty.ensures some)
