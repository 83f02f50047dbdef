use Rattle.std.proofs.Common.{rules}
use Rattle.row_check.proofs.Edging.{edge_of}
use Rattle.row_check.proofs.near.edge.Goals as goal
use Rattle.row_check.proofs.near.edge.Goals.{else-is_diagonal-via-then-is_diagonal+else-not-has_corners, else-is_diagonal-via-else-is_diagonal}

pub returns-else-is_diagonal : goal.returns-else-is_diagonal
returns-else-is_diagonal c =
    edge_of _ _ _ _ _ c.requires.cells.on_map c.requires.inside c.target-to.ensures.only c.target-to.ensures.target c.find.ensures.most c.find.ensures.found c.find.ensures.missing
    (λ diagonal. elim c.else-is_diagonal.branch [
      | else-is_diagonal-via-then-is_diagonal+else-not-has_corners w ↦ w.has_corners.ensures.yes (search rules)
      | else-is_diagonal-via-else-is_diagonal w ↦ absurd (cc)
    ])
