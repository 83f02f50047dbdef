use Rattle.std.proofs.Common.{◌∙◌, ap, arith, length}
use Rattle.std.proofs.lemmas.List.{length-append}
use Rattle.edit_log.proofs.Cutting.{appended, ends_bound, push_seen, push_stored}
use Rattle.edit_log.proofs.list.EditList.push_changes.Goals as goal

pub overflow_cast-len : goal.overflow_cast-len
overflow_cast-len c =
    let spare = ap (λ l. l.spare) c.self.view_is in
    let stored = c.self.invariant in
    let fits = c.extend_from_slice.ensures.succeeds (omega (arith, c.self.inside.changes.ok.0, stored.changes_held, spare, c.requires.spare, c.requires.few)) in
    let items = appended _ _ _ _ fits c.extend_from_slice.ensures.items in
    omega (
      arith,
      ap length items,
      length-append c.self.inside.changes.items c.args.changes.now,
      c.len.ensures,
      c.extend_from_slice.new.self.ok.0,
      ends_bound _ _ _ stored.cut,
      stored.held,
      stored.countable,
      spare,
      c.requires.spare,
      c.requires.few,
    )

pub invariant_of-self : goal.invariant_of-self
invariant_of-self c =
    let spare = ap (λ l. l.spare) c.self.view_is in
    let stored = c.self.invariant in
    let fits = c.extend_from_slice.ensures.succeeds (omega (arith, c.self.inside.changes.ok.0, stored.changes_held, spare, c.requires.spare, c.requires.few)) in
    push_stored _ _ _ _ _ _ _ _ _ _ _ stored (appended _ _ _ _ fits c.extend_from_slice.ensures.items)
    (c.len.ensures ∙ c.extend_from_slice.new.self.ok.0) c.push_reserved.ensures.items c.requires.some c.requires.few
    (omega (arith, spare, c.requires.spare)) c.extend_from_slice.ensures.capacity (omega (arith, c.push_reserved.ensures.capacity))

pub returns : goal.returns
returns c =
    let spare = ap (λ l. l.spare) c.self.view_is in
    let stored = c.self.invariant in
    let fits = c.extend_from_slice.ensures.succeeds (omega (arith, c.self.inside.changes.ok.0, stored.changes_held, spare, c.requires.spare, c.requires.few)) in
    push_seen _ _ _ _ _ _ _ _ _ _ stored (appended _ _ _ _ fits c.extend_from_slice.ensures.items)
    (c.len.ensures ∙ c.extend_from_slice.new.self.ok.0) c.push_reserved.ensures.items c.self.view_is
