use Rattle.std.proofs.Common.{arith, string_bytes, refl, sym, ◌∙◌}
use Rattle.std.proofs.lemmas.Option.{get_or_from_slice_get}
use Rattle.path_replay.proofs.Replaying.{replayed_none, replayed_more, replayed_cut}
use Rattle.path_replay.proofs.Saying.{on_err}
use Rattle.path_replay.proofs.running.run_events.Goals as goal

pub loop-place-init : goal.loop-place-init
loop-place-init c =
    replayed_none c.args.board.now c.args.board.now c.args.events.now (string_bytes c.new-text.result) c.in_ok-passes.passes.items refl c.requires.board.new
    c.new-text.ensures.bytes c.in_ok-passes.ensures

pub loop-place-preserved : goal.loop-place-preserved
loop-place-preserved c =
    replayed_more c.args.board.now c.args.events.now c.loop-place.place _ (string_bytes c.loop-place.text) (string_bytes c.run_event.new.text) c.loop-place.board
    c.run_event.new.board c.loop-place.passes.items c.run_event.new.passes.items (omega (arith, c.loop-place-test.true, c.len-place-end.ensures))
    (sym (get_or_from_slice_get c.args.events.now c.loop-place.place c.unwrap-event.result c.unwrap-event.result (sym c.get.ensures ∙ c.unwrap-event.ensures)))
    c.loop-place.invariant c.in_ok-run_event.ensures.line c.in_ok-run_event.ensures.passes c.in_ok-run_event.ensures.grows

pub returns-in_err-run_event-clause-refused : goal.returns-in_err-run_event-clause-refused
returns-in_err-run_event-clause-refused c =
    on_err c.from_residual-in_err-run_event.result
    (replayed_cut c.args.board.now c.args.events.now c.loop-place.place _ (string_bytes c.loop-place.text) c.loop-place.board c.run_event.new.board
    c.loop-place.passes.items (omega (arith, c.loop-place-test.true, c.len-place-end.ensures))
    (sym (get_or_from_slice_get c.args.events.now c.loop-place.place c.unwrap-event.result c.unwrap-event.result (sym c.get.ensures ∙ c.unwrap-event.ensures)))
    c.loop-place.invariant c.in_err-run_event.ensures.refused)
