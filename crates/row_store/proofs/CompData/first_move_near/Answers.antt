use Rattle.row_store.proofs.CompLaws.{found_by_number, covering_move, begins_best}
use Rattle.row_store.proofs.CompData.first_move_near.Goals as goal

pub returns-clause-best : goal.returns-clause-best
returns-clause-best c =
    let from = rw (← c.self.view_is) at c.requires.from in
    let to = rw (← c.self.view_is) at c.requires.to in
    let found = found_by_number _ _ _ _ c.of.ensures c.find_word_near-number.ensures.limit c.unwrap_or_default.ensures
    _ _ c.args.to c.row.ensures.row c.find_word_near-number.ensures.found in
    rw (← c.self.view_is) (begins_best _ c.self.invariant.0 _ _ _ from to found c.requires.apart)

pub returns-clause-covering : goal.returns-clause-covering
returns-clause-covering c =
    let from = rw (← c.self.view_is) at c.requires.from in
    let to = rw (← c.self.view_is) at c.requires.to in
    let found = found_by_number _ _ _ _ c.of.ensures c.find_word_near-number.ensures.limit c.unwrap_or_default.ensures
    _ _ c.args.to c.row.ensures.row c.find_word_near-number.ensures.found in
    rw (← c.self.view_is) (covering_move _ c.self.invariant.0 _ _ _ from to found)

pub returns-clause-run : goal.returns-clause-run
returns-clause-run c = rw (← c.self.view_is) (rw c.row.ensures.row at c.find_word_near-number.ensures.last)
