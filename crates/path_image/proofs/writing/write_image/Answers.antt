use Rattle.std.proofs.Common.{subst}
use Rattle.std.specs.List.{flat_map}
use Rattle.path_image.specs.Images.{head_of, homes_of, starts_of, table_of}
use Rattle.path_image.specs.Writing.{Puts, PutsSome}
use Rattle.path_image.proofs.Putting.{in_first, in_second, in_third, in_fourth, puts_four, image_some, image_put, image_unfinished, on_err}
use Rattle.path_image.proofs.writing.write_image.Goals as goal

pub returns-in_err-put_words-clause-prefix : goal.returns-in_err-put_words-clause-prefix
returns-in_err-put_words-clause-prefix g c =
    let v = c.args.version.now in
    on_err _ _ (image_some v _ _ _ c.new-piece.ensures
    (in_first (head_of v) (homes_of v) (starts_of v) (flat_map table_of v.comps) _ _ _
    (subst (PutsSome (g.S.Sink.bytes c.args.sink.now) c.new-piece.result (g.S.Sink.bytes c.put_words.new.sink)) c.head_words.ensures c.in_err-put_words.ensures.prefix)))

pub returns-in_err-put_homes-clause-prefix : goal.returns-in_err-put_homes-clause-prefix
returns-in_err-put_homes-clause-prefix g c =
    let v = c.args.version.now in
    let head = subst (Puts (g.S.Sink.bytes c.args.sink.now) c.new-piece.result (g.S.Sink.bytes c.put_words.new.sink) c.put_words.new.piece) c.head_words.ensures c.in_ok-put_words.ensures.put in
    on_err _ _ (image_some v _ _ _ c.new-piece.ensures
    (in_second (head_of v) (homes_of v) (starts_of v) (flat_map table_of v.comps) _ _ _ _ _ head c.in_err-put_homes.ensures.prefix))

pub returns-in_err-put_starts-clause-prefix : goal.returns-in_err-put_starts-clause-prefix
returns-in_err-put_starts-clause-prefix g c =
    let v = c.args.version.now in
    let head = subst (Puts (g.S.Sink.bytes c.args.sink.now) c.new-piece.result (g.S.Sink.bytes c.put_words.new.sink) c.put_words.new.piece) c.head_words.ensures c.in_ok-put_words.ensures.put in
    on_err _ _ (image_some v _ _ _ c.new-piece.ensures
    (in_third (head_of v) (homes_of v) (starts_of v) (flat_map table_of v.comps) _ _ _ _ _ head _ _ c.in_ok-put_homes.ensures.put c.in_err-put_starts.ensures.prefix))

pub returns-in_err-put_tables-clause-prefix : goal.returns-in_err-put_tables-clause-prefix
returns-in_err-put_tables-clause-prefix g c =
    let v = c.args.version.now in
    let head = subst (Puts (g.S.Sink.bytes c.args.sink.now) c.new-piece.result (g.S.Sink.bytes c.put_words.new.sink) c.put_words.new.piece) c.head_words.ensures c.in_ok-put_words.ensures.put in
    on_err _ _ (image_some v _ _ _ c.new-piece.ensures
    (in_fourth (head_of v) (homes_of v) (starts_of v) (flat_map table_of v.comps) _ _ _ _ _ head _ _ c.in_ok-put_homes.ensures.put _ _ c.in_ok-put_starts.ensures.put
    c.in_err-put_tables.ensures.prefix))

pub returns-in_err-send-clause-prefix : goal.returns-in_err-send-clause-prefix
returns-in_err-send-clause-prefix g c =
    let v = c.args.version.now in
    let head = subst (Puts (g.S.Sink.bytes c.args.sink.now) c.new-piece.result (g.S.Sink.bytes c.put_words.new.sink) c.put_words.new.piece) c.head_words.ensures c.in_ok-put_words.ensures.put in
    on_err _ _ (image_unfinished v _ _ _ c.new-piece.ensures _ _
    (puts_four (head_of v) (homes_of v) (starts_of v) (flat_map table_of v.comps) _ _ _ _ _ head _ _ c.in_ok-put_homes.ensures.put _ _ c.in_ok-put_starts.ensures.put _ c.in_ok-put_tables.ensures.put)
    c.in_err-send.ensures.prefix)

pub returns-clause-put : goal.returns-clause-put
returns-clause-put g c =
    let v = c.args.version.now in
    let head = subst (Puts (g.S.Sink.bytes c.args.sink.now) c.new-piece.result (g.S.Sink.bytes c.put_words.new.sink) c.put_words.new.piece) c.head_words.ensures c.in_ok-put_words.ensures.put in
    image_put v _ _ _ c.new-piece.ensures _ _
    (puts_four (head_of v) (homes_of v) (starts_of v) (flat_map table_of v.comps) _ _ _ _ _ head _ _ c.in_ok-put_homes.ensures.put _ _ c.in_ok-put_starts.ensures.put _ c.in_ok-put_tables.ensures.put)
    c.in_ok-send.ensures.put
