use Rattle.std.proofs.Common.{◌≡◌, ◌≢◌, ◌∙◌, Some, inl, refl, subst}
use Rattle.path_commands.specs.declared.commands.Kind.TheVariants as kind
use Rattle.path_commands.specs.Requests.{HasLimits, aim_of, asked, of_map, request_of, source_of, verify}
use Rattle.path_commands.specs.Runs.{Asks, file_over, run_over}
use Rattle.path_commands.specs.Words.{texts_of}
use Rattle.path_run.specs.RunEnds.{output_over}
use Rattle.path_run.proofs.RunLemmas.{db_no_fault, db_not_done, map_no_fault, map_not_done, prints_answer, prints_refusal, words_cause}
use Rattle.path_run.proofs.run.Goals as goal

pub answer-requires-clause-sides : goal.answer-requires-clause-sides
answer-requires-clause-sides g c = λ lives outlives. (subst (λ request. HasLimits (asked request)) c.in-Ok-OfMap.field-0-is c.in-Ok-OfMap.ensures.limits).0

pub answer-requires-clause-workers : goal.answer-requires-clause-workers
answer-requires-clause-workers g c = λ lives outlives. (subst (λ request. HasLimits (asked request)) c.in-Ok-OfMap.field-0-is c.in-Ok-OfMap.ensures.limits).2

pub print-requires-clause-done : goal.print-requires-clause-done
print-requires-clause-done g c =
    map_not_done (file_over (g.F.Files.at c.args.files.now) (g.F.Files.at c.answer.new.files)) (source_of c.in-Ok-OfMap.asked.source) (aim_of c.in-Ok-OfMap.asked.aim)
    c.in-Ok-OfMap.asked.build.order c.answer.result c.answer.ensures.refused

pub print-requires-clause-write : goal.print-requires-clause-write
print-requires-clause-write g c =
    map_no_fault (file_over (g.F.Files.at c.args.files.now) (g.F.Files.at c.answer.new.files)) (source_of c.in-Ok-OfMap.asked.source) (aim_of c.in-Ok-OfMap.asked.aim)
    c.in-Ok-OfMap.asked.build.order c.answer.result c.answer.ensures.refused

pub print-requires-in-Ok-Verify-clause-done : goal.print-requires-in-Ok-Verify-clause-done
print-requires-in-Ok-Verify-clause-done g c =
    db_not_done (file_over (g.F.Files.at c.args.files.now) (g.F.Files.at c.verify.new.files) c.in-Ok-Verify.name.now) c.verify.result c.verify.ensures.refused

pub print-requires-in-Ok-Verify-clause-write : goal.print-requires-in-Ok-Verify-clause-write
print-requires-in-Ok-Verify-clause-write g c =
    db_no_fault (file_over (g.F.Files.at c.args.files.now) (g.F.Files.at c.verify.new.files) c.in-Ok-Verify.name.now) c.verify.result c.verify.ensures.refused

pub returns-in-Ok-OfMap-clause-printed : goal.returns-in-Ok-OfMap-clause-printed
returns-in-Ok-OfMap-clause-printed g c = λ _.
    let run = run_over c.args.words.now (g.F.Files.at c.args.files.now) (g.F.Files.at c.answer.new.files) in
    let output = output_over g.O.Sink.bytes g.O.Sink.faults c.args.out.now c.print.new.out in
    let given = c.in-Ok-OfMap.asked in
    prints_answer run output c.args.input.now c.args.house.now c.args.ear.now c.print.result c.print.ensures.fault
    (of_map (source_of given.source) (aim_of given.aim) given.build)
    (subst (λ request. Asks run (asked request)) c.in-Ok-OfMap.field-0-is c.in-Ok-OfMap.ensures.request)
    c.answer.result c.answer.ensures.done c.answer.ensures.refused c.print.ensures.put

pub returns-in-Ok-Verify-clause-printed : goal.returns-in-Ok-Verify-clause-printed
returns-in-Ok-Verify-clause-printed g c = λ _.
    let run = run_over c.args.words.now (g.F.Files.at c.args.files.now) (g.F.Files.at c.verify.new.files) in
    let output = output_over g.O.Sink.bytes g.O.Sink.faults c.args.out.now c.print-in-Ok-Verify.new.out in
    prints_answer run output c.args.input.now c.args.house.now c.args.ear.now c.print-in-Ok-Verify.result c.print-in-Ok-Verify.ensures.fault
    (verify c.in-Ok-Verify.name.now)
    (subst (λ request. Asks run (asked request)) c.in-Ok-Verify.field-0-is c.in-Ok-Verify.ensures.request)
    c.verify.result c.verify.ensures.done c.verify.ensures.refused c.print-in-Ok-Verify.ensures.put

pub returns-in-Err-clause-printed : goal.returns-in-Err-clause-printed
returns-in-Err-clause-printed g c = λ printed.
    let run = run_over c.args.words.now (g.F.Files.at c.args.files.now) (g.F.Files.at c.args.files.now) in
    let output = output_over g.O.Sink.bytes g.O.Sink.faults c.args.out.now c.end_refused.new.out in
    let known = c.in-Err.ensures.refused.kind in
    let other : c.in-Err.refusal.kind ≢ kind.Talk = λ same. cc in
    prints_refusal run output c.args.input.now c.args.house.now c.args.ear.now c.end_refused.result (c.end_refused.ensures.fault other)
    _ (words_cause (texts_of c.args.words.now) c.in-Err.refusal.error c.in-Err.ensures.refused.usage) (c.end_refused.ensures.put other)

pub returns-in-Ok-Follow-clause-follow : goal.returns-in-Ok-Follow-clause-follow
returns-in-Ok-Follow-clause-follow g c = λ _. record {
  ends = inl (record {
    asked = c.in-Ok-Follow.asked;
    asks = subst (λ request. request_of (texts_of c.args.words.now) ≡ Some (asked request)) c.in-Ok-Follow.field-0-is c.in-Ok-Follow.ensures.request;
    called = c.follow.ensures.called;
    ends = c.follow.ensures.ends;
    reads = c.follow.ensures.read;
    writes = c.follow.ensures.write;
    bad = c.follow.ensures.bad_answer;
    memory = c.follow.ensures.leader_memory;
  });
  unopened = record { none = c.follow.ensures.only.asked ∙ c.requires.unasked; quiet = c.follow.ensures.only.door_faults };
  unread = refl;
  deaf = refl;
}
