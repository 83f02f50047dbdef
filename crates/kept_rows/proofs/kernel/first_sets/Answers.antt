use Rattle.std.proofs.Common.{length, slice_index, subst, ◌≡◌, ◌↔◌, ◌<◌}
use Rattle.moves.specs.MoveSets.{Has}
use Rattle.lane_rows.specs.Tables.{end_of}
use Rattle.lane_rows.specs.Equations.{lane_of, offered}
use Rattle.kept_rows.proofs.Leading.{leads_all}
use Rattle.kept_rows.proofs.kernel.first_sets.Goals as goal

pub returns : goal.returns
returns c = λ lane move l.
    subst (λ key. Has (slice_index c.joined-3.result lane) move ↔ ((end_of c.args.edges.now move < length c.args.keys.now) × (key ≡ offered c.args.edges.now (lane_of c.args.keys.now lane) move))) (c.row-here.ensures lane)
    (leads_all c.args.edges.now (lane_of c.args.keys.now lane) (length c.args.keys.now) _ move
    (c.leading.ensures lane move l) (c.leading-2.ensures lane move l) (c.leading-3.ensures lane move l) (c.leading-4.ensures lane move l)
    (c.leading-5.ensures lane move l) (c.leading-6.ensures lane move l) (c.leading-7.ensures lane move l) (c.leading-8.ensures lane move l)
    (c.joined-north.ensures lane move l) (c.joined-east.ensures lane move l) (c.joined-south.ensures lane move l) (c.joined-west.ensures lane move l)
    (c.joined.ensures lane move l) (c.joined-2.ensures lane move l) (c.joined-3.ensures lane move l))
