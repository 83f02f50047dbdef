use Rattle.std.proofs.Common.{◌≡◌, length}
use Rattle.lane_rows.specs.Classes.{AreWithin}
use Rattle.lane_rows.proofs.inside.mark_borders.Given as goal

abbrev pub invariant-loop-place : goal.invariant-loop-place
invariant-loop-place l = record {
  rows : length l.waits ≡ length l.fn.waits;
  within : AreWithin l.near l.costs l.codes l.sets l.waits l.place;
}
