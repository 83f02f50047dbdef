use Rattle.path_commands.specs.Runs.{run_over}
use Rattle.bake_run.proofs.BakeLemmas.{image_cut, image_done, image_put, line_cause, line_cut, line_put, no_done, no_fault}
use Rattle.bake_run.proofs.run.Goals as goal

pub refuse-requires-clause-done : goal.refuse-requires-clause-done
refuse-requires-clause-done g c = no_done (run_over c.args.words.now (g.F.Files.at c.args.files.now) (g.F.Files.at c.version_asked.new.files)) c.in-Err.status c.in-Err.ensures.refused

pub refuse-requires-clause-write : goal.refuse-requires-clause-write
refuse-requires-clause-write g c = no_fault (run_over c.args.words.now (g.F.Files.at c.args.files.now) (g.F.Files.at c.version_asked.new.files)) c.in-Err.status c.in-Err.ensures.refused

pub returns-in-Ok-clause-image : goal.returns-in-Ok-clause-image
returns-in-Ok-clause-image g c =
    image_put (run_over c.args.words.now (g.F.Files.at c.args.files.now) (g.F.Files.at c.version_asked.new.files)) c.in-Ok.version c.put_image.result
    (g.O.Sink.bytes c.args.out.now) (g.O.Sink.bytes c.put_image.new.out) c.in-Ok.ensures.version c.put_image.ensures.whole

pub returns-in-Ok-clause-cause : goal.returns-in-Ok-clause-cause
returns-in-Ok-clause-cause g c = λ other written.
    image_done (run_over c.args.words.now (g.F.Files.at c.args.files.now) (g.F.Files.at c.version_asked.new.files)) c.in-Ok.version c.put_image.result
    (g.O.Sink.bytes c.args.out.now) (g.O.Sink.bytes c.put_image.new.out) c.in-Ok.ensures.version c.put_image.ensures.whole other written

pub returns-in-Ok-clause-line : goal.returns-in-Ok-clause-line
returns-in-Ok-clause-line g c = λ other written.
    image_done (run_over c.args.words.now (g.F.Files.at c.args.files.now) (g.F.Files.at c.version_asked.new.files)) c.in-Ok.version c.put_image.result
    (g.O.Sink.bytes c.args.out.now) (g.O.Sink.bytes c.put_image.new.out) c.in-Ok.ensures.version c.put_image.ensures.whole other written

pub returns-in-Ok-clause-cut : goal.returns-in-Ok-clause-cut
returns-in-Ok-clause-cut g c = λ cut.
    image_cut (run_over c.args.words.now (g.F.Files.at c.args.files.now) (g.F.Files.at c.version_asked.new.files)) c.in-Ok.version c.put_image.result
    (g.O.Sink.bytes c.args.out.now) (g.O.Sink.bytes c.put_image.new.out) c.in-Ok.ensures.version (c.put_image.ensures.cut cut)

pub returns-in-Err-clause-image : goal.returns-in-Err-clause-image
returns-in-Err-clause-image g c = λ done.
    line_put (run_over c.args.words.now (g.F.Files.at c.args.files.now) (g.F.Files.at c.version_asked.new.files)) c.in-Err.status c.refuse.result
    (g.O.Sink.bytes c.args.out.now) (g.O.Sink.bytes c.refuse.new.out) c.in-Err.ensures.refused c.refuse.ensures.whole done

pub returns-in-Err-clause-cause : goal.returns-in-Err-clause-cause
returns-in-Err-clause-cause g c = λ _ written.
    line_cause (run_over c.args.words.now (g.F.Files.at c.args.files.now) (g.F.Files.at c.version_asked.new.files)) c.in-Err.status c.refuse.result
    (g.O.Sink.bytes c.args.out.now) (g.O.Sink.bytes c.refuse.new.out) c.in-Err.ensures.refused c.refuse.ensures.whole written

pub returns-in-Err-clause-line : goal.returns-in-Err-clause-line
returns-in-Err-clause-line g c = λ _ written. (c.refuse.ensures.whole written).1

pub returns-in-Err-clause-cut : goal.returns-in-Err-clause-cut
returns-in-Err-clause-cut g c = λ cut.
    let put = c.refuse.ensures.cut cut in
    line_cut (run_over c.args.words.now (g.F.Files.at c.args.files.now) (g.F.Files.at c.version_asked.new.files)) c.in-Err.status c.refuse.result
    (g.O.Sink.bytes c.args.out.now) (g.O.Sink.bytes c.refuse.new.out) c.in-Err.ensures.refused put.0 put.1 put.2
