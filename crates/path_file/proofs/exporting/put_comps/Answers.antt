use Rattle.std.proofs.Common.{[], Global, map, arith}
use Rattle.std.specs.Arc.{arc_value}
use Rattle.std.proofs.lemmas.List.{length-map}
use Rattle.row_store.specs.Comps.{Comp}
use Rattle.path_file.specs.Files.{rows_bytes}
use Rattle.path_file.specs.Puttings.{rows_of_comps}
use Rattle.path_file.proofs.LengthLemmas.{rows_of_item}
use Rattle.path_file.proofs.PutLemmas.{each_more, each_refused, on_err}
use Rattle.path_file.proofs.exporting.put_comps.Goals as goal

pub returns-in_err-put_rows-clause-prefix : goal.returns-in_err-put_rows-clause-prefix
returns-in_err-put_rows-clause-prefix g c =
    on_err _ _ (each_refused rows_bytes (rows_of_comps (map arc_value c.args.comps.now)) [] _ _ _ c.args.buffer.now c.loop-comp.buffer c.loop-comp.comp-index c.loop-comp.invariant.written (omega (arith, length-map (map arc_value c.args.comps.now) (λ (comp : Comp). comp.rows), length-map c.args.comps.now (arc_value {X = Comp} {Z = Global})))
    _ (rows_of_item arc_value c.args.comps.now c.loop-comp.comp-index c.comp-item.result c.deref.result.now c.loop-comp-test.true c.comp-item.is c.deref.ensures) c.in_err-put_rows.ensures.prefix)

pub loop-comp-preserved : goal.loop-comp-preserved
loop-comp-preserved g c = record {
  written = each_more rows_bytes (rows_of_comps (map arc_value c.args.comps.now)) [] _ _ _ c.args.buffer.now c.loop-comp.buffer c.loop-comp.comp-index c.loop-comp.invariant.written (omega (arith, length-map (map arc_value c.args.comps.now) (λ (comp : Comp). comp.rows), length-map c.args.comps.now (arc_value {X = Comp} {Z = Global})))
      _ _ (rows_of_item arc_value c.args.comps.now c.loop-comp.comp-index c.comp-item.result c.deref.result.now c.loop-comp-test.true c.comp-item.is c.deref.ensures) c.in_ok-put_rows.ensures.put;
  later = omega (arith, c.loop-comp.invariant.later, c.in_ok-put_rows.ensures.later);
}
