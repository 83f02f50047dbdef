use Rattle.kept_rows.proofs.Reading.{in_range, first_read}
use Rattle.kept_rows.proofs.side.Side.first_sets.Goals as goal

pub first_sets-requires-clause-range : goal.first_sets-requires-clause-range
first_sets-requires-clause-range c = rw c.rows-rows.ensures.rows (in_range c.args.self.now c.requires.searched (rw c.rows-rows.ensures.rows at c.rows-rows.ensures.len))

pub returns-clause-sets : goal.returns-clause-sets
returns-clause-sets c = λ lane l.
    rw (c.bytes_in.ensures.same lane)
    (first_read c.args.self.now c.requires.searched (rw c.rows-rows.ensures.rows at c.rows-rows.ensures.len) c.args.place lane _ c.requires.place
    (λ move. rw c.rows-rows.ensures.rows at (rw c.edges-edges.ensures at (c.first_sets.ensures lane move l))))
