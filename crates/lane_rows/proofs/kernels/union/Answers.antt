use Rattle.lane_rows.specs.Equations.{lane_of}
use Rattle.lane_rows.proofs.Sets.{union_of}
use Rattle.lane_rows.proofs.kernels.union.Goals as goal

pub returns : goal.returns
returns c = λ lane first l.
    union_of c.args.edges.now (lane_of c.args.keys.now lane) (lane_of c.args.sets.now lane) _ first
    (c.brought.ensures lane first l) (c.brought-2.ensures lane first l) (c.brought-3.ensures lane first l) (c.brought-4.ensures lane first l)
    (c.brought-5.ensures lane first l) (c.brought-6.ensures lane first l) (c.brought-7.ensures lane first l) (c.brought-8.ensures lane first l)
    (c.joined-north.ensures lane first l) (c.joined-east.ensures lane first l) (c.joined-south.ensures lane first l) (c.joined-west.ensures lane first l)
    (c.joined.ensures lane first l) (c.joined-2.ensures lane first l) (c.joined-3.ensures lane first l)
