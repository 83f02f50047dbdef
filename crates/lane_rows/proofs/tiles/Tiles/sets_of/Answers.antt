use Rattle.lane_rows.proofs.Rowing.{row_is_first, row_has_moves}
use Rattle.lane_rows.proofs.tiles.Tiles.sets_of.Goals as goal

pub returns-clause-first : goal.returns-clause-first
returns-clause-first c = λ map cells near table solved. row_is_first map cells near _ c.args.lane _ c.requires.lane table solved c.write_row.ensures.row c.requires.source c.write_row.ensures.bytes

pub returns-clause-some : goal.returns-clause-some
returns-clause-some c = λ map cells near table solved. row_has_moves map cells near _ c.args.lane _ c.requires.lane table solved c.write_row.ensures.row c.requires.source
