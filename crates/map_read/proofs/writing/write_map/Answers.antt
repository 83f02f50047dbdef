use Rattle.std.proofs.Common.{ℕ, List, ◌++◌, length, ap, sym, ◌∙◌, arith}
use Rattle.map_read.proofs.WritingLemmas.{written_none, written_more, written_all, text_length}
use Rattle.map_read.proofs.writing.write_map.Goals as goal

pub loop-y-init : goal.loop-y-init
loop-y-init c =
    let header = c.as_bytes.ensures.value ∙ c.in_ok-header.ensures in
    let start = ap (λ (text : List ℕ). text ++ c.as_bytes.result.now) c.in_ok-text.ensures.items in
    written_none c.args.grid.now c.extend_from_slice.new.self.items (c.in_ok-extend_from_slice.ensures.items ∙ start ∙ rw (sym c.width-width.ensures.width, sym c.height-height.ensures.height) header)

pub loop-y-preserved : goal.loop-y-preserved
loop-y-preserved c =
    written_more c.args.grid.now c.loop-y.text.items c.push_row.new.text.items c.loop-y.y (rw c.height-height.ensures.height at c.loop-y-test.true) c.in_ok-push_row.ensures c.loop-y.invariant

pub returns-clause-text : goal.returns-clause-text
returns-clause-text c = written_all c.args.grid.now c.loop-y.text.items c.loop-y.y (rw c.height-height.ensures.height at c.loop-y-test.false) c.loop-y.invariant

pub returns-clause-limit : goal.returns-clause-limit
returns-clause-limit c =
    let text = written_all c.args.grid.now c.loop-y.text.items c.loop-y.y (rw c.height-height.ensures.height at c.loop-y-test.false) c.loop-y.invariant in
    let long = ap (λ (bytes : List ℕ). length bytes) text in
    omega (arith, long, text_length c.args.grid.now c.height-height.ensures.limits)
