use Rattle.std.proofs.Common.{◌≡◌, ◌<◌, ◌≤◌, ◌==◌, length, get_or, Some, false, refl, sym, ◌∙◌, rules, arith}
use Rattle.std.specs.List.{list_any}
use Rattle.std.proofs.lemmas.Bool.{false≢true}
use Rattle.std.proofs.lemmas.Grind.{common_steps}
use Rattle.std.proofs.lemmas.List.{get_or_default}
use Rattle.wire.specs.Causes.{one_more}
use Rattle.wire.specs.FilesInMemory.{named_bytes, place_of, content_of, read_fails}
use Rattle.wire.proofs.NamedFiles.{content_at, later_at}
use Rattle.wire.proofs.mem_files.MemFilesFiles.read_all.Goals as goal

-- the content of the name is what stands at its place
told : (c : goal.After-copy_within) → content_of c.args.self.now.files c.args.name.now ≡ Some c.index.result.now.1.items
told c =
    let within : c.place_in-place.result < length c.self.inside.files.items = search rules in
    let named : c.place_in-place.result ≡ place_of (named_bytes c.self.inside.files.items) c.args.name.now = rw c.deref.ensures.value at c.place_in-place.ensures.place in
    rw (← c.self.view_is) (content_at c.self.inside.files.items c.args.name.now c.place_in-place.result named c.index.result.now within c.index.ensures)

-- the read is not one that fails
passes : (c : goal.After-copy_within) → read_fails c.args.self.now c.args.name.now ≡ false
passes c =
    let content = told c in
    let tested : list_any (λ call. call == c.saturating_add-self-inside.result) c.deref-else-place-len.result.now ≡ false =
    sym c.is_planned.ensures ∙ c.if-is_planned.false in
    let planned : list_any (λ call. call == one_more c.args.self.now.calls) c.args.self.now.fails ≡ false =
    rw (← c.self.view_is, ← c.deref-else-place-len.ensures.value) (rw c.saturating_add-self-inside.ensures at tested) in
    rw (planned, content) refl

pub returns-then-place-len-clause-later : goal.returns-then-place-len-clause-later
returns-then-place-len-clause-later c = λ other.
    let within : c.place_in-place.result < length c.self.inside.faults.items = search rules in
    let same = get_or_default c.self.inside.faults.items c.place_in-place.result 0 c.index_mut.result.now within in
    let rose : get_or c.self.inside.faults.items c.place_in-place.result 0 ≤ c.count_fault.new.faults =
    omega (arith, same, c.index_mut.ensures.value, c.count_fault.ensures.later) in
    rw (← c.self.view_is) (later_at _ _ _ _ within rose)

pub returns-clause-bytes : goal.returns-clause-bytes
returns-clause-bytes c = let content = told c in grind (arith, common_steps)

pub returns-clause-too_long : goal.returns-clause-too_long
returns-clause-too_long c = let content = told c in grind (arith, common_steps)

pub returns-clause-fails : goal.returns-clause-fails
returns-clause-fails c =
    (λ e. absurd (c.copy_within.ensures.no_fault e), λ fails. absurd (false≢true (sym (passes c) ∙ fails)))
