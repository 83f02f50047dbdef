use Rattle.live_search.specs.Ends.{NoneIsListedOpen}
use Rattle.live_search.proofs.ending.open_in_list.Given as goal

abbrev pub invariant-loop-index : goal.invariant-loop-index
invariant-loop-index l = NoneIsListedOpen l.seek l.state l.key l.index
