use Rattle.grid_search.proofs.Queueing.{none_first}
use Rattle.grid_search.proofs.open_list.OpenList.take_first.Goals as goal

pub returns-then-first_key-clause-none : goal.returns-then-first_key-clause-none
returns-then-first_key-clause-none c =
    none_first _ c.args.self.now c.take.new.self c.take.result c.first_key.result c.first_key-2.result c.self.view_is c.requires
    c.first_key.ensures.none c.first_key-2.ensures.first c.if-first_key.true c.take.ensures.none
