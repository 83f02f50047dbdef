use Rattle.path_board.proofs.Dealt.{copies_more, copies_none}
use Rattle.path_board.proofs.sharing.copies.Goals as goal

pub loop-made-init : goal.loop-made-init
loop-made-init c = copies_none _ _ _ c.version.ensures.version c.new-all.ensures.items

pub loop-made-preserved : goal.loop-made-preserved
loop-made-preserved c = copies_more _ _ _ _ _ _ c.loop-made.invariant c.in_ok-copy_version.ensures c.in_ok-push.ensures.items
