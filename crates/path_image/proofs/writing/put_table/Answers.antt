use Rattle.std.proofs.Common.{◌∷◌, [], length, map, ap}
use Rattle.std.specs.List.{flat_map}
use Rattle.path_image.specs.Images.{cell_word, row_words}
use Rattle.path_image.specs.Writing.{borders_of}
use Rattle.path_image.proofs.Putting.{in_first, in_second, in_third, in_fourth, puts_four, table_put, table_some, on_err, on_err_then, on_ok_then}
use Rattle.path_image.proofs.writing.put_table.Goals as goal

pub returns-in_err-put-clause-prefix : goal.returns-in_err-put-clause-prefix
returns-in_err-put-clause-prefix g c =
    let comp = c.args.comp.now in
    on_err _ _ (table_some comp (length c.cells.result.now) (ap length c.cells.ensures.cells) _ _ _
    (in_first ((length c.cells.result.now) ∷ []) (map cell_word comp.cells) (borders_of comp) (flat_map row_words comp.rows) _ _ _ c.in_err-put.ensures.prefix))

pub returns-in_err-put_cells-clause-prefix : goal.returns-in_err-put_cells-clause-prefix
returns-in_err-put_cells-clause-prefix g c =
    let comp = c.args.comp.now in
    on_err _ _ (table_some comp (length c.cells.result.now) (ap length c.cells.ensures.cells) _ _ _
    (in_second ((length c.cells.result.now) ∷ []) (map cell_word comp.cells) (borders_of comp) (flat_map row_words comp.rows) _ _ _ _ _ c.in_ok-put.ensures.put c.in_err-put_cells.ensures.prefix))

pub returns-in_err-put_borders-clause-prefix : goal.returns-in_err-put_borders-clause-prefix
returns-in_err-put_borders-clause-prefix g c =
    let comp = c.args.comp.now in
    on_err _ _ (table_some comp (length c.cells.result.now) (ap length c.cells.ensures.cells) _ _ _
    (in_third ((length c.cells.result.now) ∷ []) (map cell_word comp.cells) (borders_of comp) (flat_map row_words comp.rows) _ _ _ _ _ c.in_ok-put.ensures.put _ _ c.in_ok-put_cells.ensures.put
    c.in_err-put_borders.ensures.prefix))

pub returns-clause-prefix : goal.returns-clause-prefix
returns-clause-prefix g c =
    let comp = c.args.comp.now in
    on_err_then c.put_rows.result _ _
    (λ some. table_some comp (length c.cells.result.now) (ap length c.cells.ensures.cells) _ _ _
    (in_fourth ((length c.cells.result.now) ∷ []) (map cell_word comp.cells) (borders_of comp) (flat_map row_words comp.rows) _ _ _ _ _ c.in_ok-put.ensures.put _ _ c.in_ok-put_cells.ensures.put
    _ _ c.in_ok-put_borders.ensures.put some)) c.put_rows.ensures.prefix

pub returns-clause-put : goal.returns-clause-put
returns-clause-put g c =
    let comp = c.args.comp.now in
    on_ok_then c.put_rows.result _ _
    (λ put. table_put comp (length c.cells.result.now) (ap length c.cells.ensures.cells) _ _ _ _
    (puts_four ((length c.cells.result.now) ∷ []) (map cell_word comp.cells) (borders_of comp) (flat_map row_words comp.rows) _ _ _ _ _ c.in_ok-put.ensures.put _ _ c.in_ok-put_cells.ensures.put
    _ _ c.in_ok-put_borders.ensures.put _ put)) c.put_rows.ensures.put
