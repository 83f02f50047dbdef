use Rattle.std.proofs.Common.{ltb, eqb, replicate, get_or, refl, ◌∙◌, arith, w16}
use Rattle.std.proofs.lemmas.Simd.{get_or-replicate}
use Rattle.lane_rows.proofs.LanePacking.{choice}
use Rattle.lane_rows.proofs.Vectors.{chosen, length_chosen}
use Rattle.near_rows.proofs.Choices.{where_less, where_not_less}
use Rattle.near_rows.proofs.vectors.by_order.Goals as goal

pub returns-clause-less : goal.returns-clause-less
returns-clause-less c = λ lane l less.
    chosen w16 ltb c.args.a c.args.b c.fits-a.0 c.fits-b.0 (replicate 16 c.args.less) _ refl
    (length_chosen w16 eqb c.args.a c.args.b c.fits-a.0 c.fits-b.0 (replicate 16 c.args.same) (replicate 16 c.args.more) refl refl) lane l
    ∙ where_less (get_or c.args.a lane 0) (get_or c.args.b lane 0) _ _ less
    ∙ get_or-replicate 16 lane c.args.less 0 l

pub returns-clause-same : goal.returns-clause-same
returns-clause-same c = λ lane l same.
    chosen w16 ltb c.args.a c.args.b c.fits-a.0 c.fits-b.0 (replicate 16 c.args.less) _ refl
    (length_chosen w16 eqb c.args.a c.args.b c.fits-a.0 c.fits-b.0 (replicate 16 c.args.same) (replicate 16 c.args.more) refl refl) lane l
    ∙ where_not_less (get_or c.args.a lane 0) (get_or c.args.b lane 0) _ _ (omega (arith, same))
    ∙ chosen w16 eqb c.args.a c.args.b c.fits-a.0 c.fits-b.0 (replicate 16 c.args.same) (replicate 16 c.args.more) refl refl lane l
    ∙ (choice (get_or c.args.a lane 0) (get_or c.args.b lane 0) _ _).0 same
    ∙ get_or-replicate 16 lane c.args.same 0 l

pub returns-clause-more : goal.returns-clause-more
returns-clause-more c = λ lane l more.
    chosen w16 ltb c.args.a c.args.b c.fits-a.0 c.fits-b.0 (replicate 16 c.args.less) _ refl
    (length_chosen w16 eqb c.args.a c.args.b c.fits-a.0 c.fits-b.0 (replicate 16 c.args.same) (replicate 16 c.args.more) refl refl) lane l
    ∙ where_not_less (get_or c.args.a lane 0) (get_or c.args.b lane 0) _ _ (omega (arith, more))
    ∙ chosen w16 eqb c.args.a c.args.b c.fits-a.0 c.fits-b.0 (replicate 16 c.args.same) (replicate 16 c.args.more) refl refl lane l
    ∙ (choice (get_or c.args.a lane 0) (get_or c.args.b lane 0) _ _).1 (λ same. omega (arith, more, same))
    ∙ get_or-replicate 16 lane c.args.more 0 l
