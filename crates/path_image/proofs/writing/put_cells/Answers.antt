use Rattle.std.proofs.Common.{◌≡◌, ◌+◌, ◌*◌, ◌∷◌, [], length, get_or, ap, subst, arith}
use Rattle.moves.specs.declared.Cell.{Cell}
use Rattle.path_image.specs.declared.TheConstants.{HALF}
use Rattle.path_image.specs.Images.{cell_word}
use Rattle.path_image.specs.Writing.{Puts}
use Rattle.path_image.proofs.Putting.{puts_item, some_item, on_err}
use Rattle.path_image.proofs.writing.put_cells.Goals as goal

pub returns-in_err-put-clause-prefix : goal.returns-in_err-put-clause-prefix
returns-in_err-put-clause-prefix g c =
    let d : Cell = record { x = 0; y = 0 } in
    let is : c.from.result * HALF + c.from-in-loop-cell.result ≡ cell_word (get_or c.args.comp.now.cells c.loop-cell.cell-index d) =
    rw (c.from.ensures, c.from-in-loop-cell.ensures) (ap (λ cells. cell_word (get_or cells c.loop-cell.cell-index d)) c.cells-cell-items.ensures.cells) in
    on_err _ _ (some_item cell_word c.args.comp.now.cells c.loop-cell.cell-index (c.from.result * HALF + c.from-in-loop-cell.result) d
    (omega (arith, c.loop-cell-test.true, ap length c.cells-cell-items.ensures.cells)) is _ _ _ c.args.piece.now c.loop-cell.piece c.loop-cell.invariant.put c.in_err-put.ensures.prefix)

pub loop-cell-preserved : goal.loop-cell-preserved
loop-cell-preserved g c =
    let d : Cell = record { x = 0; y = 0 } in
    let is : c.from.result * HALF + c.from-in-loop-cell.result ≡ cell_word (get_or c.args.comp.now.cells c.loop-cell.cell-index d) =
    rw (c.from.ensures, c.from-in-loop-cell.ensures) (ap (λ cells. cell_word (get_or cells c.loop-cell.cell-index d)) c.cells-cell-items.ensures.cells) in
    record {
      put = puts_item cell_word c.args.comp.now.cells c.loop-cell.cell-index d (omega (arith, c.loop-cell-test.true, ap length c.cells-cell-items.ensures.cells)) _ _ _
          c.args.piece.now c.loop-cell.piece c.put.new.self c.loop-cell.invariant.put
          (subst (λ w. Puts (g.S.Sink.bytes c.loop-cell.sink) c.loop-cell.piece (g.S.Sink.bytes c.put.new.sink) c.put.new.self (w ∷ [])) is c.in_ok-put.ensures.put);
      later = omega (arith, c.loop-cell.invariant.later, c.in_ok-put.ensures.later);
    }
