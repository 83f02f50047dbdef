use Rattle.std.proofs.Common.{refl}
use Rattle.near_rows.proofs.NearWalking.{comp_whole, part_of_version, walk_from, few_moves}
use Rattle.near_rows.proofs.near_walk.NearWalk.start.Goals as goal

pub invariant_of-result : goal.invariant_of-result
invariant_of-result c =
    let near = c.version-version.ensures.near in
    let home = c.in-Some.ensures.some in
    record {
      whole = rw c.comp-comp.ensures (comp_whole _ near.is _ home.within);
      map = c.args.near.now.version.map;
      part = rw c.comp-comp.ensures (part_of_version _ near.is _ home.within);
      near = rw (c.comp-comp.ensures, c.nearby.ensures) (near.each _ home.within);
      here = c.place_of-place.ensures;
      there = c.place_of-column.ensures;
    }

pub returns-in-Some-clause-walk : goal.returns-in-Some-clause-walk
returns-in-Some-clause-walk c =
    let near = c.version-version.ensures.near in
    let walk = walk_from _ near c.args.start c.args.goal _ c.in-Some.ensures.some in
    record {
      from = refl;
      to = refl;
      moves = walk.0;
      is = walk.1;
      ahead = rw (c.comp-comp.ensures, c.nearby.ensures) walk.2;
      few = few_moves _ near c.args.start c.args.goal walk.0 walk.1;
    }
