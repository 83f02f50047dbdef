-- The masks round the cell were renewed.
use Rattle.std.proofs.Common.{length, ap, subst, sym, arith}
use Rattle.moves.specs.Maps.{IsInside}
use Rattle.moves.proofs.Landscapes.{masks_renewed_at}
use Rattle.moves.proofs.grid.Grid.set_terrain.Goals as goal

pub invariant_of-self : goal.invariant_of-self
invariant_of-self c =
    let width = ap (λ m. m.width) c.set.ensures in
    let height = ap (λ m. m.height) c.set.ensures in
    let lent = ap (λ s. length s) c.as_mut_slice.ensures.value in
    masks_renewed_at _ _ _ _ _ _ _ _ _ _ _ _ _ c.set.ensures
    (omega (arith, c.saturating_sub.ensures, c.from-x.ensures)) (omega (arith, c.min.ensures, c.from-x.ensures, width, c.width.ensures.width))
    (omega (arith, c.saturating_sub-2.ensures, c.from-y.ensures)) (omega (arith, c.min-2.ensures, c.from-y.ensures, height, c.height.ensures.height))
    c.as_mut_slice.ensures.value (omega (arith, c.write_masks.ensures.whole, lent, c.self.inside.masks.ok.0))
    (subst (λ m. IsInside m c.args.cell) (sym c.self.view_is) c.requires) c.self.invariant c.write_masks.ensures
