use Rattle.std.proofs.Common.{◌≡◌, [], ◌∷◌, ◌++◌, sym, ap, ◌∙◌}
use Rattle.std.proofs.lemmas.Result.{err_from_is_err_and}
use Rattle.scen_read.specs.declared.fault.ScenFault.TheVariants.{Version}
use Rattle.scen_read.specs.Inside.{whole_scenario}
use Rattle.scen_read.proofs.TextLemmas.{blank_read, line_read, line_refused, all_read, none_read, other_version, after_version, version_is}
use Rattle.scen_read.proofs.ReadLemmas.{read_is_writable}
use Rattle.scen_read.proofs.read_scen.Goals as goal
use Rattle.scen_read.proofs.read_scen.Goals.{then-not-is_blank+in_ok-parts_of+in_ok-add_to, else-not-is_blank}

pub returns-then-not-is_version_line-clause-fault : goal.returns-then-not-is_version_line-clause-fault
returns-then-not-is_version_line-clause-fault c = λ f e.
    let same : f ≡ Version = cc in
    let other = version_is c.args.bytes.now _ _ _ c.of-lines.ensures c.next_or_empty.ensures.line c.if-not-is_version_line.ensures in
    rw same (other_version c.args.bytes.now other)

pub loop-line-init : goal.loop-line-init
loop-line-init c =
    none_read c.args.bytes.now c.of-lines.result c.next_or_empty.new.self c.new-scenarios.result.items c.requires c.of-lines.ensures c.next_or_empty.ensures.rest c.new-scenarios.ensures.items

pub returns-in_err-parts_of-clause-fault : goal.returns-in_err-parts_of-clause-fault
returns-in_err-parts_of-clause-fault c = λ f e.
    let p = err_from_is_err_and c.from_residual.result c.from_residual.ensures.1 in
    let same : f ≡ c.in_err-parts_of.field-0.0 = cc (p.1, p.2, e) in
    let version = version_is c.args.bytes.now _ _ _ c.of-lines.ensures c.next_or_empty.ensures.line c.if-not-is_version_line.ensures in
    let bad = line_refused _ c.loop-line.number c.loop-line.scenarios.items c.loop-line.lines c.next.new.self c.in-Some.line.now c.in-Some.ensures.line c.loop-line.invariant
    c.in_err-parts_of.field-0.0 (sym c.if-not-is_blank.ensures) c.in_err-parts_of.ensures in
    rw same (after_version c.args.bytes.now _ version bad)

pub loop-line-preserved : goal.loop-line-preserved
loop-line-preserved c =
    elim c.if-not-is_blank.branch [
      | then-not-is_blank+in_ok-parts_of+in_ok-add_to w ↦
          let items : c.if-not-is_blank.scenarios.items ≡ c.loop-line.scenarios.items ++ whole_scenario w.in_ok-parts_of.field-0 ∷ [] =
          ap (λ (v : _). v.items) w.scenarios-is ∙ w.in_ok-add_to.ensures in
          rw items (line_read _ c.loop-line.number c.loop-line.scenarios.items c.loop-line.lines c.next.new.self c.in-Some.line.now c.in-Some.ensures.line c.loop-line.invariant
          (whole_scenario w.in_ok-parts_of.field-0) (sym w.if-not-is_blank.ensures) w.in_ok-parts_of.ensures)
      | else-not-is_blank w ↦
          let items : c.if-not-is_blank.scenarios.items ≡ c.loop-line.scenarios.items = ap (λ (v : _). v.items) w.scenarios-is in
          rw items (blank_read _ c.loop-line.number c.loop-line.scenarios.items c.loop-line.lines c.next.new.self c.in-Some.line.now c.in-Some.ensures.line c.loop-line.invariant
          (sym w.if-not-is_blank.ensures))
    ]

pub returns-clause-scenarios : goal.returns-clause-scenarios
returns-clause-scenarios c =
    let version = version_is c.args.bytes.now _ _ _ c.of-lines.ensures c.next_or_empty.ensures.line c.if-not-is_version_line.ensures in
    after_version c.args.bytes.now _ version (all_read _ c.loop-line.lines c.loop-line.number c.loop-line.scenarios.items c.in_default.ensures.line c.loop-line.invariant)

pub returns-clause-writable : goal.returns-clause-writable
returns-clause-writable c =
    let version = version_is c.args.bytes.now _ _ _ c.of-lines.ensures c.next_or_empty.ensures.line c.if-not-is_version_line.ensures in
    read_is_writable c.args.bytes.now c.loop-line.scenarios.items
    (after_version c.args.bytes.now _ version (all_read _ c.loop-line.lines c.loop-line.number c.loop-line.scenarios.items c.in_default.ensures.line c.loop-line.invariant))
