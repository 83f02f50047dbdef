use Rattle.std.proofs.Common.{◌≡◌, ◌+◌, ◌-◌, refl, arith, rules}
use Rattle.path_image.proofs.Rising.{rises_all, rises_needs}
use Rattle.path_image.proofs.checking.rises.Goals as goal

pub returns-then-row-k : goal.returns-then-row-k
returns-then-row-k c = (
  λ e. absurd cc,
  λ rises. absurd
      (let less = (rises_needs c.args.row.now rises).rise (c.loop-k.k - 1) (omega arith) in
      let at : c.loop-k.k - 1 + 1 ≡ c.loop-k.k = omega arith in
      let here = rw at at less in
      let test = c.if-row-k.true in
      omega arith),
)

pub returns : goal.returns
returns c = (λ e. rises_all c.args.row.now (search rules) c.if-row-ge8.false (λ k inside. c.loop-k.invariant k (omega arith)), λ rises. refl)
