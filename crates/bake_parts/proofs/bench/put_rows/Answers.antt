use Rattle.std.proofs.Common.{◌≡◌, [], refl, sym, subst, arith}
use Rattle.bake_parts.specs.Plans.{MayHaveRoom, PutsRows}
use Rattle.bake_parts.proofs.Fronts.{front_none}
use Rattle.bake_parts.proofs.Rows.{rows_more, rows_none}
use Rattle.bake_parts.proofs.bench.put_rows.Goals as goal

pub loop-index-init : goal.loop-index-init
loop-index-init c =
    record {
      rows = rows_none c.args.component.now c.args.sources c.args.room.now c.put-at.new.room c.put-at.result c.put-at.ensures.end
          (c.put-at.ensures.front c.args.room.now [] refl (front_none c.args.room.now));
      ready = c.in_ok-bench.ensures.ready;
      plain = subst (λ p. MayHaveRoom c.args.grid.now p) (sym c.in_ok-bench.ensures.none) tt;
    }

pub loop-index-preserved : goal.loop-index-preserved
loop-index-preserved c =
    let inside = c.requires.sources in
    let less = c.loop-index-test.true in
    record {
      rows = rows_more c.args.component.now c.args.sources c.loop-index.index _ _ _ _ _ (omega arith) c.loop-index.invariant.rows c.in_ok-end.ensures.row;
      ready = c.in_ok-end.ensures.ready;
      plain = c.in_ok-end.ensures.plain;
    }

pub returns : goal.returns
returns c =
    let end = c.loop-index-test.false in
    let upto = c.loop-index.auto.index-end in
    let all : c.loop-index.index ≡ c.args.sources.count = omega arith in
    subst (λ n. PutsRows c.args.component.now c.args.sources n c.loop-index.at c.args.room.now c.loop-index.room) all c.loop-index.invariant.rows
