use Rattle.std.proofs.Common.{ℕ, leb, replicate, get_or, length, refl, ap, ◌≡◌, ◌∙◌, arith, w16}
use Rattle.std.proofs.lemmas.List.{get_or-map}
use Rattle.std.proofs.lemmas.Simd.{get_or-replicate}
use Rattle.lane_rows.proofs.Vectors.{chosen, length_chosen}
use Rattle.near_rows.proofs.Choices.{each_chosen, where_most, where_past}
use Rattle.near_rows.proofs.vectors.filled.Goals as goal

pub overflow_cast-result : goal.overflow_cast-result
overflow_cast-result c =
    let size : length c.long-sets.result ≡ 16 = ap length c.long-sets.ensures.same ∙ c.fits-sets.0 in
    each_chosen _ leb c.args.numbers c.args.limits (replicate 16 255) c.long-sets.result c.fits-numbers.0 c.fits-limits.0 refl size
    (λ i l. record { fits = omega (arith, get_or-replicate {A = ℕ} 16 i 255 0 l) })
    (λ i l. record { fits = omega (arith, c.long-sets.ensures.bytes i l, ap (λ v. get_or v i 0) c.long-sets.ensures.same) })

pub returns-clause-inside : goal.returns-clause-inside
returns-clause-inside c = λ lane l most.
    let size : length c.long-sets.result ≡ 16 = ap length c.long-sets.ensures.same ∙ c.fits-sets.0 in
    let long = length_chosen w16 leb c.args.numbers c.args.limits c.fits-numbers.0 c.fits-limits.0 (replicate 16 255) c.long-sets.result refl size in
    get_or-map (λ x. x) _ lane 0 0 (omega (arith, long))
    ∙ chosen w16 leb c.args.numbers c.args.limits c.fits-numbers.0 c.fits-limits.0 (replicate 16 255) c.long-sets.result refl size lane l
    ∙ where_most (get_or c.args.numbers lane 0) (get_or c.args.limits lane 0) _ _ most
    ∙ get_or-replicate 16 lane 255 0 l

pub returns-clause-outside : goal.returns-clause-outside
returns-clause-outside c = λ lane l past.
    let size : length c.long-sets.result ≡ 16 = ap length c.long-sets.ensures.same ∙ c.fits-sets.0 in
    let long = length_chosen w16 leb c.args.numbers c.args.limits c.fits-numbers.0 c.fits-limits.0 (replicate 16 255) c.long-sets.result refl size in
    get_or-map (λ x. x) _ lane 0 0 (omega (arith, long))
    ∙ chosen w16 leb c.args.numbers c.args.limits c.fits-numbers.0 c.fits-limits.0 (replicate 16 255) c.long-sets.result refl size lane l
    ∙ where_past (get_or c.args.numbers lane 0) (get_or c.args.limits lane 0) _ _ past
    ∙ ap (λ v. get_or v lane 0) c.long-sets.ensures.same
