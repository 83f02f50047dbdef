use Rattle.std.proofs.Common.{◌≡◌, ◌*◌, length}
use Rattle.versions.specs.Databases.{Versioned}
use Rattle.bake_parts.specs.Homes.{AreHomesTo}
use Rattle.bake_parts.specs.Parts.{IsFirstVersion}
use Rattle.bake_parts.proofs.homes.homes_of.Given as goal

abbrev pub invariant-loop-number : goal.invariant-loop-number
invariant-loop-number l = record {
  size : length l.homes.items ≡ l.grid.width * l.grid.height;
  to : (version : Versioned) → IsFirstVersion l.grid l.fn.order version → AreHomesTo version l.number l.homes.items;
}
