-- Images that are joined from their parts.
use Rattle.std.proofs.Common.{◌≡◌, ℕ, ◌≤◌, List, length, take, sym, subst}
use Rattle.moves.specs.Maps.{Map, IsWithinLimits}
use Rattle.path_image.proofs.Passing.{image_leads_inside}
use Rattle.bake_parts.specs.Plans.{Planned}
use Rattle.bake_parts.specs.Joins.{JoinsParts}
use Rattle.pathdb.specs.Parts.{JoinsImage}

-- what is joined is an image, and each image passes the look
pub joined : (plan : Planned) (parts old new : List ℕ) (count told : ℕ) → IsWithinLimits plan.on.width plan.on.height → count ≤ length old
    → JoinsParts plan parts old new count → told ≡ count → JoinsImage plan parts old new told
joined plan parts old new count told sides inside joins same = subst (JoinsImage plan parts old new) (sym same) (record {
  fits = inside;
  image = joins;
  passes = λ version first all.
      (let here = subst (λ (on : Map). IsWithinLimits on.width on.height) (sym first.of) sides in
      image_leads_inside (take count new) version (joins version first all).0 here);
})
