-- What paths a map has depends on its passable cells and their classes alone.
use Rattle.std.proofs.Common.{List, ◌∷◌, Option, Some, None, inl, inr}
use Rattle.root_cost.specs.declared.Cost.{Cost}
use Rattle.moves.specs.declared.Cell.{Cell}
use Rattle.moves.specs.declared.Move.{Move}
use Rattle.moves.specs.Maps.{Map}
use Rattle.moves.specs.Moves.{IsLegal}
use Rattle.moves.specs.Paths.{Leads, IsBest, IsLeastCost}
use Rattle.moves.specs.FirstSets.{IsFirstMove}
use Rattle.moves.proofs.MoveLaws.{legal_near}
use Rattle.moves.proofs.LawsOfPaths.{leads_kept}
use Rattle.moves.specs.SamePaths.{HaveSameClasses, ClassesDecidePaths}

pub same_classes_back : (a b : Map) → HaveSameClasses a b → HaveSameClasses b a
same_classes_back a b same = record {
  passable = λ cell. ((same.passable cell).1, (same.passable cell).0);
  alike = λ cell other free. let both = same.alike cell other ((same.passable cell).1 free) in (both.1, both.0);
}

-- ---- from the one map to the other

pub same_legal : (a b : Map) → HaveSameClasses a b → (from : Cell) (move : Move) (to : Cell) → IsLegal a from move to → IsLegal b from move to
same_legal a b same from move to legal = legal_near a b from move to (λ c near. (same.alike from c legal.leaves).0) legal

pub same_leads : (a b : Map) → HaveSameClasses a b → (from : Cell) (moves : List Move) (to : Cell) → Leads a from moves to
    → Leads b from moves to
same_leads a b same from moves to path = leads_kept a b (λ cell other free. (same.alike cell other free).0) from moves to path

pub same_best : (a b : Map) → HaveSameClasses a b → (from : Cell) (moves : List Move) (to : Cell) → IsBest a from moves to
    → IsBest b from moves to
same_best a b same from moves to best = record {
  leads = same_leads a b same from moves to best.leads;
  least = λ others path. best.least others (same_leads b a (same_classes_back a b same) from others to path);
}

pub same_least_cost : (a b : Map) → HaveSameClasses a b → (from to : Cell) (cost : Option Cost)
    → IsLeastCost a from to cost → IsLeastCost b from to cost
same_least_cost a b same from to None none =
    λ reach. none (reach.0, same_leads b a (same_classes_back a b same) from reach.0 to reach.1)
same_least_cost a b same from to (Some least) some = (some.0, same_best a b same from some.0 to some.1, some.2)

pub same_first_move : (a b : Map) → HaveSameClasses a b → (from to : Cell) (move : Move) → IsFirstMove a from to move
    → IsFirstMove b from to move
same_first_move a b same from to move first = elim first [
  | inl here ↦ inl (here.0, (same.passable from).0 here.1)
  | inr best ↦ inr (best.0, same_best a b same from (move ∷ best.0) to best.1)
]

-- ---- both ways

pub classes_decide_paths : ClassesDecidePaths
classes_decide_paths a b same =
    let back = same_classes_back a b same in
    record {
      moves = λ from move to. (same_legal a b same from move to, same_legal b a back from move to);
      paths = λ from moves to. (same_leads a b same from moves to, same_leads b a back from moves to);
      best = λ from moves to. (same_best a b same from moves to, same_best b a back from moves to);
      costs = λ from to cost. (same_least_cost a b same from to cost, same_least_cost b a back from to cost);
      first = λ from to move. (same_first_move a b same from to move, same_first_move b a back from to move);
    }
