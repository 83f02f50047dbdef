use Rattle.live_search.proofs.Chains.{IsPutOn}
use Rattle.live_search.proofs.ending.put_rest.Given as goal

abbrev pub invariant-loop : goal.invariant-loop
invariant-loop l = IsPutOn l.fn.walk l.before l.fn.room l.walk l.room l.count l.counter
