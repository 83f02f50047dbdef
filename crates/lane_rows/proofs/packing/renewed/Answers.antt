use Rattle.std.proofs.Common.{eqb, replicate, get_or, refl, sym, ◌∙◌, w8}
use Rattle.std.proofs.lemmas.Simd.{get_or-replicate}
use Rattle.lane_rows.proofs.Vectors.{chosen}
use Rattle.lane_rows.proofs.LanePacking.{choice}
use Rattle.lane_rows.proofs.packing.renewed.Goals as goal

pub returns-clause-kept : goal.returns-clause-kept
returns-clause-kept c = λ lane l some.
    chosen w8 eqb c.args.kept (replicate 16 0) c.fits-kept.0 refl c.args.set c.args.kept c.fits-set.0 c.fits-kept.0 lane l
    ∙ (choice (get_or c.args.kept lane 0) (get_or (replicate 16 0) lane 0) (get_or c.args.set lane 0) (get_or c.args.kept lane 0)).1 (λ same. some (same ∙ get_or-replicate 16 lane 0 0 l))

pub returns-clause-new : goal.returns-clause-new
returns-clause-new c = λ lane l none.
    chosen w8 eqb c.args.kept (replicate 16 0) c.fits-kept.0 refl c.args.set c.args.kept c.fits-set.0 c.fits-kept.0 lane l
    ∙ (choice (get_or c.args.kept lane 0) (get_or (replicate 16 0) lane 0) (get_or c.args.set lane 0) (get_or c.args.kept lane 0)).0 (none ∙ sym (get_or-replicate 16 lane 0 0 l))
