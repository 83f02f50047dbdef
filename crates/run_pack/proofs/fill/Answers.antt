use Rattle.std.proofs.Common.{◌≡◌, ◌+◌, ◌^◌, ◌<◌, length, slice_index, arith, rules}
use Rattle.run_pack.proofs.Packing.{filled_first, filled_to, filled_many, filled_grown, filled_ended, filled_all, length-rest, read-rest, chunk_inside, chunk_is, read-chunk}
use Rattle.run_pack.proofs.fill.Goals as goal
use Rattle.run_pack.proofs.fill.Goals.{in-Some-take+in_ok-push, in_default-take, in-Some-take-2+in_ok-push-2, in_default-take-2, in-Some-extended_by, in_default-extended_by+else-loop-ahead-test}

pub loop-next-init : goal.loop-next-init
loop-next-init g c = (omega arith, filled_first _ _ _)

pub loop-ahead-preserved : goal.loop-ahead-preserved
loop-ahead-preserved g c =
    let filled = c.loop-ahead.invariant in
    let sets = c.args.sets.now in
    let place = c.loop-next.done + c.loop-ahead.ahead in
    let chunk = c.in-Some.ensures.cases in
    let within : c.loop-ahead.ahead < 8 = c.loop-ahead-test.true in
    let read = read-chunk sets c.loop-next.done _ 8 c.loop-next.invariant.0 chunk c.loop-ahead.ahead within in
    let byte : slice_index c.args.sets.now place < 2 ^ 8 = search rules in
    let inside : place < length sets = omega (arith, chunk_inside sets c.loop-next.done _ 8 c.loop-next.invariant.0 chunk) in
    let some : 0 < slice_index sets place = c.requires.non_empty place 0 inside in
    let next : c.loop-next.done + (c.loop-ahead.ahead + 1) ≡ place + 1 = omega arith in
    elim c.match-take.branch [
      | in-Some-take+in_ok-push w ↦
          rw w.row-is (filled_ended _ _ _ _ _ _ _ _ _ filled next read _ _ _ w.in_ok-push.ensures.items w.keep.ensures w.in-Some-take.ensures.cut byte some)
      | in_default-take w ↦
          rw w.row-is (filled_grown _ _ _ _ _ _ _ _ _ filled next read w.in_default-take.ensures.longer)
    ]

pub loop-next-preserved : goal.loop-next-preserved
loop-next-preserved g c =
    let sets = c.args.sets.now in
    let done = c.loop-next.done in
    let chunk = c.in-Some.ensures.cases in
    let inside = chunk_inside sets done _ 8 c.loop-next.invariant.0 chunk in
    let more : done < done + 8 = omega arith in
    elim c.match-extended_by.branch [
      | in-Some-extended_by w ↦
          let longer = w.in-Some-extended_by.ensures in
          let shared = rw (chunk_is sets done _ 8 c.loop-next.invariant.0 chunk) at longer.common in
          rw (w.row-is, w.stretch-is) (inside, filled_many _ _ _ _ _ _ _ c.loop-next.invariant.1 _ _ _ longer.start longer.some more inside shared)
      | in_default-extended_by+else-loop-ahead-test w ↦
          let all : done + w.loop-ahead.ahead ≡ done + 8 = omega (arith, w.loop-ahead-test.false, w.loop-ahead.auto.ahead-end) in
          rw (w.row-is, w.stretch-is) (inside, filled_to _ _ _ _ _ _ _ w.loop-ahead.invariant _ all)
    ]

pub loop-ahead-2-preserved : goal.loop-ahead-2-preserved
loop-ahead-2-preserved g c =
    let filled = c.loop-ahead-2.invariant in
    let sets = c.args.sets.now in
    let place = c.loop-next.done + c.loop-ahead-2.ahead in
    let read = read-rest sets c.loop-next.done c.loop-ahead-2.ahead in
    let byte : slice_index c.args.sets.now place < 2 ^ 8 = search rules in
    let inside : place < length sets = omega (arith, c.loop-ahead-2-test.true, length-rest sets c.loop-next.done) in
    let some : 0 < slice_index sets place = c.requires.non_empty place 0 inside in
    let next : c.loop-next.done + (c.loop-ahead-2.ahead + 1) ≡ place + 1 = omega arith in
    elim c.match-take-2.branch [
      | in-Some-take-2+in_ok-push-2 w ↦
          rw w.row-is (filled_ended _ _ _ _ _ _ _ _ _ filled next read _ _ _ w.in_ok-push-2.ensures.items w.keep-in-Some-take-2.ensures w.in-Some-take-2.ensures.cut byte some)
      | in_default-take-2 w ↦
          rw w.row-is (filled_grown _ _ _ _ _ _ _ _ _ filled next read w.in_default-take-2.ensures.longer)
    ]

pub returns-clause-tight : goal.returns-clause-tight
returns-clause-tight g c =
    let filled = c.loop-ahead-2.invariant in
    let run = c.run.ensures in
    let pushed = c.in_ok-push-3.ensures.items in
    let all : c.loop-next.done + c.loop-ahead-2.ahead ≡ length c.args.sets.now =
    omega (arith, c.loop-ahead-2-test.false, c.loop-ahead-2.auto.ahead-end, c.loop-next.invariant.0, length-rest c.args.sets.now c.loop-next.done) in
    filled_all _ _ _ _ _ _ _ filled _ _ _ pushed c.keep-2.ensures run.start run.least all (omega (arith, all, c.requires.some))
