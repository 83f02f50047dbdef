-- Ends that are passable are not refused.
use Rattle.std.proofs.Common.{Result, Ok, Err, IfErr, refl}
use Rattle.std.specs.Result.{IsOk}
use Rattle.moves.specs.declared.Cell.{Cell}
use Rattle.moves.specs.Maps.{Map}
use Rattle.versions.specs.Queries.{AreEnds, IsRefusal}
use Rattle.versions.specs.declared.query.End.TheVariants.{Start, Goal}
use Rattle.versions.specs.declared.query.QueryRefusal.{QueryRefusal}
use Rattle.versions.specs.declared.query.QueryRefusal.TheVariants.{Outside, Blocked}

pub ends_not_refused : (map : Map) (start goal : Cell) (why : QueryRefusal) → IsRefusal map start goal why → AreEnds map start goal → ⊥
ends_not_refused map start goal (Outside Start) refusal ends = refusal ends.leaves.inside
ends_not_refused map start goal (Blocked Start) refusal ends = refusal.1 ends.leaves
ends_not_refused map start goal (Outside Goal) refusal ends = refusal.1 ends.arrives.inside
ends_not_refused map start goal (Blocked Goal) refusal ends = refusal.2 ends.arrives

-- and so a query between them is answered
pub answered : {X : Type 0} (map : Map) (start goal : Cell) (result : Result X QueryRefusal) → AreEnds map start goal
    → IfErr result (IsRefusal map start goal) → IsOk result
answered map start goal (Ok x) ends refused = refl
answered map start goal (Err why) ends refused = absurd (ends_not_refused map start goal why refused ends)
