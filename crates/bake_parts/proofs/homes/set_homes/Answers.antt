use Rattle.std.proofs.Common.{◌≡◌, ◌+◌, ◌*◌, ◌<◌, length, sym, ap, subst, ◌∙◌, arith}
use Rattle.std.proofs.lemmas.List.{length-set}
use Rattle.bake_parts.specs.Homes.{SetsHomes}
use Rattle.bake_parts.proofs.Placing.{right_more}
use Rattle.bake_parts.proofs.homes.set_homes.Goals as goal

pub loop-index-preserved : goal.loop-index-preserved
loop-index-preserved c =
    let long = c.size-size.ensures.size in
    let less = c.loop-index-test.true in
    let within : c.loop-index.index < length c.args.component.now = omega arith in
    let at = c.place_at-at.ensures in
    let there = c.requires.inside c.loop-index.index within in
    let size = c.loop-index.invariant.size in
    let inside : c.place_at-at.result < length c.loop-index.homes = omega arith in
    let value = c.args.number * 65536 + c.loop-index.index in
    record {
      size = length-set c.loop-index.homes c.place_at-at.result value ∙ size;
      set = λ right are. right_more right c.args.width c.args.component.now c.loop-index.index c.place_at-at.result value c.args.homes.now c.loop-index.homes at inside
          (are c.loop-index.index within ∙ ap right (sym at)) (c.loop-index.invariant.set right are);
    }

pub returns-clause-set : goal.returns-clause-set
returns-clause-set c =
    let long = c.size-size.ensures.size in
    let end = c.loop-index-test.false in
    let upto = c.loop-index.auto.index-end in
    let all : c.loop-index.index ≡ length c.args.component.now = omega arith in
    subst (λ n. SetsHomes c.args.width c.args.number c.args.component.now n c.args.homes.now c.loop-index.homes) all c.loop-index.invariant.set
