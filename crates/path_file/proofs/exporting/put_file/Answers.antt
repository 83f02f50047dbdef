use Rattle.std.proofs.Common.{[], map}
use Rattle.std.specs.Arc.{arc_value}
use Rattle.std.specs.Io.KnownBytes.{Appends}
use Rattle.std.proofs.lemmas.Result.{IfErr-weaker, IfOk-weaker}
use Rattle.wire.specs.Contents.{PutsPrefix}
use Rattle.path_file.specs.Files.{file_of}
use Rattle.path_file.proofs.PutLemmas.{file_finished, file_unfinished, on_err, some_of_comps, some_of_ground, some_of_head}
use Rattle.path_file.proofs.exporting.put_file.Goals as goal

pub returns-in_err-put_head-clause-prefix : goal.returns-in_err-put_head-clause-prefix
returns-in_err-put_head-clause-prefix g c =
    let t0 = g.S.Sink.bytes c.args.sink.now in
    let v = c.args.version.now in
    on_err _ _ (some_of_head v c.head_of.result v.map v.comps t0 t0 t0 t0 (g.S.Sink.bytes c.put_head.new.sink) c.new-buffer.result [] [] []
    c.head_of.ensures c.new-buffer.ensures c.in_err-put_head.ensures.prefix)

pub returns-in_err-put_ground-clause-prefix : goal.returns-in_err-put_ground-clause-prefix
returns-in_err-put_ground-clause-prefix g c =
    let t0 = g.S.Sink.bytes c.args.sink.now in
    let t1 = g.S.Sink.bytes c.put_head.new.sink in
    let v = c.args.version.now in
    on_err _ _ (some_of_ground v c.head_of.result c.grid.result.now v.comps t0 t1 t0 t0 (g.S.Sink.bytes c.put_ground.new.sink) c.new-buffer.result c.put_head.new.buffer [] []
    c.head_of.ensures c.new-buffer.ensures c.grid.ensures.map c.in_ok-put_head.ensures.put c.in_err-put_ground.ensures.prefix)

pub returns-in_err-put_comps-clause-prefix : goal.returns-in_err-put_comps-clause-prefix
returns-in_err-put_comps-clause-prefix g c =
    let t0 = g.S.Sink.bytes c.args.sink.now in
    let t1 = g.S.Sink.bytes c.put_head.new.sink in
    let t2 = g.S.Sink.bytes c.put_ground.new.sink in
    let v = c.args.version.now in
    on_err _ _ (some_of_comps v c.head_of.result c.grid.result.now (map arc_value c.comps.result.now) t0 t1 t2 t0 (g.S.Sink.bytes c.put_comps.new.sink)
    c.new-buffer.result c.put_head.new.buffer c.put_ground.new.buffer []
    c.head_of.ensures c.new-buffer.ensures c.grid.ensures.map c.in_ok-put_head.ensures.put c.in_ok-put_ground.ensures.put c.comps.ensures c.in_err-put_comps.ensures.prefix)

pub returns-clause-put : goal.returns-clause-put
returns-clause-put g c =
    let t0 = g.S.Sink.bytes c.args.sink.now in
    let t1 = g.S.Sink.bytes c.put_head.new.sink in
    let t2 = g.S.Sink.bytes c.put_ground.new.sink in
    let t3 = g.S.Sink.bytes c.put_comps.new.sink in
    let t4 = g.S.Sink.bytes c.flush.new.sink in
    let v = c.args.version.now in
    IfOk-weaker c.flush.result (λ _. Appends t3 t4 c.put_comps.new.buffer) (λ _. Appends t0 t4 (file_of v))
    (λ _ q. file_finished v c.head_of.result c.grid.result.now (map arc_value c.comps.result.now) t0 t1 t2 t3 t4 c.new-buffer.result c.put_head.new.buffer c.put_ground.new.buffer c.put_comps.new.buffer
    c.head_of.ensures c.new-buffer.ensures c.grid.ensures.map c.in_ok-put_head.ensures.put c.in_ok-put_ground.ensures.put c.comps.ensures c.in_ok-put_comps.ensures.put q)
    c.flush.ensures.put

pub returns-clause-prefix : goal.returns-clause-prefix
returns-clause-prefix g c =
    let t0 = g.S.Sink.bytes c.args.sink.now in
    let t1 = g.S.Sink.bytes c.put_head.new.sink in
    let t2 = g.S.Sink.bytes c.put_ground.new.sink in
    let t3 = g.S.Sink.bytes c.put_comps.new.sink in
    let t4 = g.S.Sink.bytes c.flush.new.sink in
    let v = c.args.version.now in
    IfErr-weaker c.flush.result (λ _. PutsPrefix t3 t4 c.put_comps.new.buffer) (λ _. PutsPrefix t0 t4 (file_of v))
    (λ _ q. file_unfinished v c.head_of.result c.grid.result.now (map arc_value c.comps.result.now) t0 t1 t2 t3 t4 c.new-buffer.result c.put_head.new.buffer c.put_ground.new.buffer c.put_comps.new.buffer
    c.head_of.ensures c.new-buffer.ensures c.grid.ensures.map c.in_ok-put_head.ensures.put c.in_ok-put_ground.ensures.put c.comps.ensures c.in_ok-put_comps.ensures.put q)
    c.flush.ensures.prefix
