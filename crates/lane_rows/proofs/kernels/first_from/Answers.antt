use Rattle.std.proofs.Common.{sym, subst, ◌∙◌, ◌≡◌, ◌↔◌, ◌⊎◌, get_or, replicate}
use Rattle.std.proofs.lemmas.Simd.{get_or-replicate}
use Rattle.moves.specs.MoveSets.{Has}
use Rattle.lane_rows.proofs.Sets.{single_where}
use Rattle.lane_rows.proofs.kernels.first_from.Goals as goal

pub returns : goal.returns
returns c = λ lane move l.
    let place : get_or (replicate 16 c.from.result) lane 0 ≡ c.args.place = get_or-replicate 16 lane c.from.result 0 l ∙ c.from.ensures in
    let mask : get_or (replicate 16 c.mask.result) lane 0 ≡ c.with.result = get_or-replicate 16 lane c.mask.result 0 l ∙ c.mask.ensures in
    single_where _ c.args.place _ _ move c.args.first (rw place at (c.equal_lanes.ensures.equal lane l))
    (subst (λ s. Has s move ↔ (Has 0 move ⊎ (move ≡ c.args.first))) (sym mask) (c.with.ensures move)) (c.shared.ensures lane move l)
