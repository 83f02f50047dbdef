use Rattle.bake_parts.specs.Plans.{IsReady, MayHaveRoom, PutsRows}
use Rattle.bake_parts.proofs.bench.put_rows.Given as goal

abbrev pub invariant-loop-index : goal.invariant-loop-index
invariant-loop-index l = record {
  rows : PutsRows l.component l.sources l.index l.at l.fn.room l.room;
  ready : IsReady l.component l.bench;
  plain : MayHaveRoom l.grid l.bench.plain;
}
