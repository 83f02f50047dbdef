use Rattle.std.proofs.Common.{◌≡◌, ◌/◌, map, get_or, refl, ap, ◌∙◌, arith}
use Rattle.run_pack.specs.declared.Run.{Run}
use Rattle.run_pack.specs.Runs.{run_of_word, end_at}
use Rattle.row_check.specs.Following.{step_numbered}
use Rattle.row_check.proofs.Standing.{run_small, start_small, end_more, end_last, end_small, cursor_made}
use Rattle.row_check.proofs.cursors.cursor_at.Goals as goal
use Rattle.row_check.proofs.cursors.cursor_at.Goals.{then-run-row, else-run-row}

pub overflow_cast-result : goal.overflow_cast-result
overflow_cast-result c =
    let small = run_small c.args.row.now c.args.edges.now c.args.places c.args.run c.requires.row c.requires.places c.requires.run in
    omega arith

pub overflow_cast-result-2 : goal.overflow_cast-result-2
overflow_cast-result-2 c =
    let small = start_small c.args.row.now c.args.edges.now c.args.places c.args.run c.requires.row c.requires.places c.requires.run 0 in
    let at : c.run_of-kept.result.start ≡ (get_or c.args.row.now c.args.run 0) / 8 = ap (λ (r : Run). r.start) c.run_of-kept.ensures in
    omega arith

pub overflow_cast-result-3 : goal.overflow_cast-result-3
overflow_cast-result-3 c =
    let small = end_small c.args.row.now c.args.edges.now c.args.places c.args.run c.requires.row c.requires.places c.requires.run in
    let is : c.if-run-row.end ≡ end_at (map run_of_word c.args.row.now) c.args.places c.args.run = elim c.if-run-row.branch [
      | then-run-row w ↦ w.end-is ∙ ap (λ (r : Run). r.start) w.run_of.ensures
          ∙ end_more c.args.row.now c.args.edges.now c.args.places c.args.run c.requires.row c.requires.places c.requires.run w.if-run-row.true 0
      | else-run-row w ↦ w.end-is ∙ end_last c.args.row.now c.args.edges.now c.args.places c.args.run c.requires.row c.requires.places c.requires.run w.if-run-row.false
    ] in
    omega (arith, is, small)

pub returns-clause-cursor : goal.returns-clause-cursor
returns-clause-cursor c =
    let is : c.if-run-row.end ≡ end_at (map run_of_word c.args.row.now) c.args.places c.args.run = elim c.if-run-row.branch [
      | then-run-row w ↦ w.end-is ∙ ap (λ (r : Run). r.start) w.run_of.ensures
          ∙ end_more c.args.row.now c.args.edges.now c.args.places c.args.run c.requires.row c.requires.places c.requires.run w.if-run-row.true 0
      | else-run-row w ↦ w.end-is ∙ end_last c.args.row.now c.args.edges.now c.args.places c.args.run c.requires.row c.requires.places c.requires.run w.if-run-row.false
    ] in
    let number = ap (λ (r : Run). r.mv) c.run_of-kept.ensures in
    cursor_made c.args.row.now c.args.edges.now c.args.places c.args.run c.requires.row c.requires.places c.requires.run _ 0 0 refl
    (ap (λ (r : Run). r.start) c.run_of-kept.ensures) is
    (ap (λ k. get_or c.args.edges.now k 0) (c.from.ensures ∙ number)) (c.step_numbered.ensures.key ∙ ap step_numbered number)
