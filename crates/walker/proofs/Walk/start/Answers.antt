use Rattle.std.proofs.Common.{subst, sym, refl}
use Rattle.versions.specs.Spelled.{Spells}
use Rattle.versions.proofs.Homes.{walk_at_home, few_moves}
use Rattle.walker.proofs.Walk.start.Goals as goal

pub returns-in-Some-clause-walk : goal.returns-in-Some-clause-walk
returns-in-Some-clause-walk c =
    let comp = c.in-Some.comp.now in
    let place = c.place_of-goal.ensures in
    let walk = walk_at_home _ _ _ c.grid.ensures.version.database c.args.start c.args.goal comp c.in-Some.ensures.some in
    record {
      from = refl;
      to = place.there;
      moves = walk.0;
      is = walk.1;
      ahead = subst (Spells comp.cells comp.rows c.args.start walk.0) (sym place.there) walk.2;
      few = few_moves _ _ _ c.grid.ensures.version.database c.args.start c.args.goal walk.0 walk.1;
    }
