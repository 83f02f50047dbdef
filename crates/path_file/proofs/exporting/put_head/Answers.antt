use Rattle.std.proofs.Common.{ℕ, ◌∷◌, [], OnOk, OnErr, subst}
use Rattle.std.proofs.lemmas.Result.{IfOk-weaker, IfErr-weaker}
use Rattle.cell_order.specs.Orders.{kind_of}
use Rattle.path_file.specs.Files.{head_bytes, mark, number_bytes, prefix_bytes, sides_bytes, width_bytes}
use Rattle.path_file.specs.Puttings.{PutsSome, Writes}
use Rattle.path_file.proofs.PutLemmas.{on_err, some_later, some_mark, some_prefix, some_sides, some_width, writes_both}
use Rattle.path_file.proofs.exporting.put_head.Goals as goal

pub returns-in_err-put_bytes-clause-prefix : goal.returns-in_err-put_bytes-clause-prefix
returns-in_err-put_bytes-clause-prefix g c = on_err _ _ (some_mark c.args.head _ _ c.args.buffer.now c.in_err-put_bytes.ensures.prefix)

pub returns-in_err-put_number-clause-prefix : goal.returns-in_err-put_number-clause-prefix
returns-in_err-put_number-clause-prefix g c =
    let head = c.args.head in
    on_err _ _ (some_width head _ _ c.args.buffer.now
    (some_later _ _ _ c.args.buffer.now c.put_bytes.new.buffer mark c.in_ok-put_bytes.ensures.put (number_bytes head.width) c.in_err-put_number.ensures.prefix))

pub returns-in_err-put_number-2-clause-prefix : goal.returns-in_err-put_number-2-clause-prefix
returns-in_err-put_number-2-clause-prefix g c =
    let head = c.args.head in
    let width = writes_both _ _ _ c.args.buffer.now c.put_bytes.new.buffer mark c.in_ok-put_bytes.ensures.put c.put_number.new.buffer (number_bytes head.width) c.in_ok-put_number.ensures.put in
    on_err _ _ (some_sides head _ _ c.args.buffer.now
    (some_later _ _ _ c.args.buffer.now c.put_number.new.buffer (width_bytes head.width) width (number_bytes head.height) c.in_err-put_number-2.ensures.prefix))

pub returns-in_err-put_number-3-clause-prefix : goal.returns-in_err-put_number-3-clause-prefix
returns-in_err-put_number-3-clause-prefix g c =
    let head = c.args.head in
    let width = writes_both _ _ _ c.args.buffer.now c.put_bytes.new.buffer mark c.in_ok-put_bytes.ensures.put c.put_number.new.buffer (number_bytes head.width) c.in_ok-put_number.ensures.put in
    let sides = writes_both _ _ _ c.args.buffer.now c.put_number.new.buffer (width_bytes head.width) width c.put_number-2.new.buffer (number_bytes head.height) c.in_ok-put_number-2.ensures.put in
    on_err _ _ (some_prefix head _ _ c.args.buffer.now
    (some_later _ _ _ c.args.buffer.now c.put_number-2.new.buffer (sides_bytes head.width head.height) sides (number_bytes head.prefix) c.in_err-put_number-3.ensures.prefix))

pub returns-clause-put : goal.returns-clause-put
returns-clause-put g c =
    let head = c.args.head in
    let width = writes_both _ _ _ c.args.buffer.now c.put_bytes.new.buffer mark c.in_ok-put_bytes.ensures.put c.put_number.new.buffer (number_bytes head.width) c.in_ok-put_number.ensures.put in
    let sides = writes_both _ _ _ c.args.buffer.now c.put_number.new.buffer (width_bytes head.width) width c.put_number-2.new.buffer (number_bytes head.height) c.in_ok-put_number-2.ensures.put in
    let prefix = writes_both _ _ _ c.args.buffer.now c.put_number-2.new.buffer (sides_bytes head.width head.height) sides c.put_number-3.new.buffer (number_bytes head.prefix) c.in_ok-put_number-3.ensures.put in
    let last = subst (λ (b : ℕ). OnOk c.put_byte.result (Writes (g.S.Sink.bytes c.put_number-3.new.sink) (g.S.Sink.bytes c.put_byte.new.sink) c.put_number-3.new.buffer c.put_byte.new.buffer (b ∷ [])))
    c.number.ensures c.put_byte.ensures.put in
    IfOk-weaker c.put_byte.result
    (λ _. Writes (g.S.Sink.bytes c.put_number-3.new.sink) (g.S.Sink.bytes c.put_byte.new.sink) c.put_number-3.new.buffer c.put_byte.new.buffer (kind_of head.order ∷ []))
    (λ _. Writes (g.S.Sink.bytes c.args.sink.now) (g.S.Sink.bytes c.put_byte.new.sink) c.args.buffer.now c.put_byte.new.buffer (head_bytes head))
    (λ _ q. writes_both _ _ _ c.args.buffer.now c.put_number-3.new.buffer (prefix_bytes head.width head.height head.prefix) prefix c.put_byte.new.buffer (kind_of head.order ∷ []) q)
    last

pub returns-clause-prefix : goal.returns-clause-prefix
returns-clause-prefix g c =
    let head = c.args.head in
    let width = writes_both _ _ _ c.args.buffer.now c.put_bytes.new.buffer mark c.in_ok-put_bytes.ensures.put c.put_number.new.buffer (number_bytes head.width) c.in_ok-put_number.ensures.put in
    let sides = writes_both _ _ _ c.args.buffer.now c.put_number.new.buffer (width_bytes head.width) width c.put_number-2.new.buffer (number_bytes head.height) c.in_ok-put_number-2.ensures.put in
    let prefix = writes_both _ _ _ c.args.buffer.now c.put_number-2.new.buffer (sides_bytes head.width head.height) sides c.put_number-3.new.buffer (number_bytes head.prefix) c.in_ok-put_number-3.ensures.put in
    let last = subst (λ (b : ℕ). OnErr c.put_byte.result (PutsSome (g.S.Sink.bytes c.put_number-3.new.sink) (g.S.Sink.bytes c.put_byte.new.sink) c.put_number-3.new.buffer (b ∷ [])))
    c.number.ensures c.put_byte.ensures.prefix in
    IfErr-weaker c.put_byte.result
    (λ _. PutsSome (g.S.Sink.bytes c.put_number-3.new.sink) (g.S.Sink.bytes c.put_byte.new.sink) c.put_number-3.new.buffer (kind_of head.order ∷ []))
    (λ _. PutsSome (g.S.Sink.bytes c.args.sink.now) (g.S.Sink.bytes c.put_byte.new.sink) c.args.buffer.now (head_bytes head))
    (λ _ q. some_later _ _ _ c.args.buffer.now c.put_number-3.new.buffer (prefix_bytes head.width head.height head.prefix) prefix (kind_of head.order ∷ []) q)
    last
