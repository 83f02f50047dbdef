use Rattle.run_pack.proofs.Nearing.{from_above, one_back, word_after, some_before}
use Rattle.run_pack.proofs.near.go_back.Goals as goal

pub loop-run-init : goal.loop-run-init
loop-run-init c = from_above c.args.words.now _ _ c.requires.rises c.requires.inside c.requires.next

pub loop-run-preserved : goal.loop-run-preserved
loop-run-preserved c =
    let after = word_after c.args.words.now c.args.place c.loop-run.run _ c.loop-run.invariant.within c.starts_by.ensures c.loop-run-test.true in
    one_back _ _ _ c.loop-run.invariant (some_before _ _ _ c.requires.rises after) after
