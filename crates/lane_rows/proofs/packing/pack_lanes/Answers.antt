use Rattle.std.proofs.Common.{◌≡◌, [], length, get_or, refl, arith}
use Rattle.lane_rows.proofs.LanePacking.{zeros, no_cut, packing_first, packing_next, packing_all, all_bytes}
use Rattle.lane_rows.proofs.packing.pack_lanes.Goals as goal
use Rattle.lane_rows.proofs.packing.pack_lanes.Goals.{then-has_empty+in_ok-cut, else-has_empty}

pub loop-place-init : goal.loop-place-init
loop-place-init c = packing_first c.args.sets.now c.clear.new.self c.clear.ensures.lanes c.clear.ensures.empty

pub loop-place-preserved : goal.loop-place-preserved
loop-place-preserved c =
    let old = c.loop-place in
    elim c.if-has_empty.branch [
      | then-has_empty+in_ok-cut w ↦
          rw (w.words-is, w.starts-is, w.common-is)
          (packing_next c.args.sets.now old.words w.cut.new.words old.starts w.cut.new.starts old.common c.met-kept.result w.renewed-common.result
          (get_or c.args.sets.now old.place []) old.place old.invariant c.loop-place-test.true c.requires.few refl
          c.met-kept.ensures.shared c.met-kept.ensures.byte w.renewed-common.ensures.kept w.renewed-common.ensures.new w.in_ok-cut.ensures)
      | else-has_empty w ↦
          rw (w.words-is, w.starts-is, w.common-is)
          (packing_next c.args.sets.now old.words old.words old.starts old.starts old.common c.met-kept.result c.met-kept.result
          (get_or c.args.sets.now old.place []) old.place old.invariant c.loop-place-test.true c.requires.few refl
          c.met-kept.ensures.shared c.met-kept.ensures.byte (λ lane l some. refl) (λ lane l none. absurd (c.has_empty.ensures w.if-has_empty.false lane l none))
          (no_cut old.words old.starts old.common c.met-kept.result old.place (c.has_empty.ensures w.if-has_empty.false)))
    ]

pub returns-clause-packed : goal.returns-clause-packed
returns-clause-packed c =
    let all : c.loop-place.place ≡ length c.args.sets.now = omega arith in
    packing_all c.args.sets.now c.loop-place.words c.cut-2.new.words c.loop-place.starts c.cut-2.new.starts c.loop-place.common _ c.loop-place.place _
    c.loop-place.invariant all (omega (arith, c.requires.some)) zeros c.in_ok-cut-2.ensures

pub returns-clause-bytes : goal.returns-clause-bytes
returns-clause-bytes c =
    let all : c.loop-place.place ≡ length c.args.sets.now = omega arith in
    λ lane at l. all_bytes c.args.sets.now c.loop-place.words c.cut-2.new.words c.loop-place.starts c.cut-2.new.starts c.loop-place.common _ c.loop-place.place _
    c.loop-place.invariant all (omega (arith, c.requires.some)) zeros c.in_ok-cut-2.ensures lane at l
