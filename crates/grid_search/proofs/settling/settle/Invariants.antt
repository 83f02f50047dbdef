use Rattle.std.proofs.Common.{◌≡◌, ◌-◌, ◌*◌}
use Rattle.moves.specs.Maps.{passable_count}
use Rattle.grid_search.specs.Queues.{opened, taken_from}
use Rattle.grid_search.proofs.Turning.{IsSearching}
use Rattle.grid_search.proofs.settling.settle.Given as goal

abbrev pub invariant-loop-next : goal.invariant-loop-next
invariant-loop-next l = record {
  searching : IsSearching l.grid l.fn.source l.order l.count (opened l.keys l.list);
  straight : l.list.straight.room ≡ l.fn.list.straight.room;
  diagonal : l.list.diagonal.room ≡ l.fn.list.diagonal.room;
}

abbrev pub decreases-loop-next : goal.decreases-loop-next
decreases-loop-next l = 2 * passable_count l.grid - taken_from (opened l.keys l.list)
