use Rattle.std.proofs.Common.{◌≡◌, ◌⊎◌, ◌↔◌, get_or, replicate, subst, sym, ◌∙◌, arith}
use Rattle.std.proofs.lemmas.Simd.{get_or-replicate}
use Rattle.moves.specs.MoveSets.{Has}
use Rattle.moves.proofs.MovesInSets.{Has-none}
use Rattle.kept_rows.proofs.Leading.{leads_where}
use Rattle.kept_rows.proofs.kernel.leading.Goals as goal

pub returns-then-to-keys : goal.returns-then-to-keys
returns-then-to-keys c = λ lane move l. (
  λ h. absurd (Has-none move (subst (λ s. Has s move) (get_or-replicate 16 lane 0 0 l) h)),
  λ h. absurd (omega (arith, c.if-to-keys.true, h.1, c.from-to.ensures)),
)

pub returns : goal.returns
returns c = λ lane move l.
    let mask : get_or (replicate 16 c.mask.result) lane 0 ≡ c.with.result = get_or-replicate 16 lane c.mask.result 0 l ∙ c.mask.ensures in
    let at = c.row.ensures lane in
    leads_where _ _ _ _ _ _ c.args.step c.args.to _ move c.args.by (rw c.from-to.ensures at at) (c.requires.range.each lane c.args.to l) c.requires.step (c.raised.ensures lane l) (c.equal_lanes.ensures lane l)
    (subst (λ s. Has s move ↔ (Has 0 move ⊎ (move ≡ c.args.by))) (sym mask) (c.with.ensures move)) (omega (arith, c.if-to-keys.false, c.from-to.ensures)) (c.shared.ensures lane move l)
