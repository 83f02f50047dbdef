use Rattle.std.proofs.Common.{◌≡◌, [], ◌∷◌, ◌++◌, sym, subst, ◌∙◌}
use Rattle.text_lines.specs.Words.{words_of}
use Rattle.path_replay.specs.Events.{words_said}
use Rattle.path_replay.specs.Inside.{IsReadAs}
use Rattle.path_replay.proofs.LinesRead.{none_read, blank_read, event_read, line_refused, all_read}
use Rattle.path_replay.proofs.reading.read_events.Goals as goal
use Rattle.path_replay.proofs.reading.read_events.Goals.{then-not-is_blank+in-Some-event_of+in_ok-push-in-Some-event_of, else-not-is_blank}

pub loop-line-init : goal.loop-line-init
loop-line-init c = none_read c.args.bytes.now c.of-lines.result c.new-events.result c.requires c.of-lines.ensures c.new-events.ensures

pub returns-in-None-clause-refused : goal.returns-in-None-clause-refused
returns-in-None-clause-refused c =
    line_refused c.args.bytes.now c.loop-line.number c.loop-line.events c.loop-line.lines c.next.new.self c.in-Some.line.now c.in-Some.ensures.line
    c.loop-line.invariant (sym c.if-not-is_blank.ensures)
    (subst (IsReadAs (words_said (words_of c.in-Some.line.now))) c.in-None.is c.event_of.ensures.event)

pub loop-line-preserved : goal.loop-line-preserved
loop-line-preserved c =
    elim c.if-not-is_blank.branch [
      | then-not-is_blank+in-Some-event_of+in_ok-push-in-Some-event_of w ↦
          let items : c.if-not-is_blank.events ≡ c.loop-line.events ++ w.in-Some-event_of.event ∷ [] =
          w.events-is ∙ w.in_ok-push-in-Some-event_of.ensures in
          rw items (event_read c.args.bytes.now c.loop-line.number c.loop-line.events c.loop-line.lines c.next.new.self c.in-Some.line.now c.in-Some.ensures.line
          c.loop-line.invariant w.in-Some-event_of.event (sym w.if-not-is_blank.ensures)
          (subst (IsReadAs (words_said (words_of c.in-Some.line.now))) w.in-Some-event_of.is w.event_of.ensures.event)
          w.in-Some-event_of.ensures.pass)
      | else-not-is_blank w ↦
          let items : c.if-not-is_blank.events ≡ c.loop-line.events = w.events-is in
          rw items (blank_read c.args.bytes.now c.loop-line.number c.loop-line.events c.loop-line.lines c.next.new.self c.in-Some.line.now c.in-Some.ensures.line
          c.loop-line.invariant (sym w.if-not-is_blank.ensures))
    ]

pub returns-clause-events : goal.returns-clause-events
returns-clause-events c = all_read c.args.bytes.now c.loop-line.lines c.loop-line.number c.loop-line.events c.in_default.ensures.line c.loop-line.invariant
