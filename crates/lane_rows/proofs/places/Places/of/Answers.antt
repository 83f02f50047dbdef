use Rattle.std.proofs.Common.{arith}
use Rattle.lane_rows.proofs.Indexing.{index_within}
use Rattle.lane_rows.proofs.places.Places.of.Goals as goal

pub number-requires-clause-room : goal.number-requires-clause-room
number-requires-clause-room c = λ k d l.
    index_within _ _ _ _ c.span-width.result c.span-height.result _ _ (c.bounds_of-bounds.ensures.columns k d l) (c.bounds_of-bounds.ensures.rows k d l) c.span-width.ensures.span c.span-height.ensures.span
    (omega (arith, c.area.ensures, c.in_ok-places.ensures.len, c.as_mut_slice.ensures.len))
