-- The cells without the marks between rows are those of the rows.
use Rattle.std.proofs.Common.{length, ap, subst, ◌≡◌, ◌∙◌, IfOk}
use Rattle.moves.specs.Maps.{map_of}
use Rattle.moves.proofs.Drawn.{cells_without_marks, length_of_cells}
use Rattle.moves.proofs.grid.Grid.of_rows.Goals as goal

pub of_terrain-requires-clause-whole : goal.of_terrain-requires-clause-whole
of_terrain-requires-clause-whole c =
    ap length (c.in_ok-cells.ensures ∙ cells_without_marks c.args.rows.now) ∙ length_of_cells c.args.rows.now _ _ c.requires.rows

pub returns : goal.returns
returns c =
    subst (λ cells. IfOk c.of_terrain.result (λ grid. grid ≡ map_of c.args.width c.args.height cells))
    (c.in_ok-cells.ensures ∙ cells_without_marks c.args.rows.now) c.of_terrain.ensures
