-- The laws of paths, each by going along the moves.
use Rattle.std.proofs.Common.{◌≡◌, suc, List, [], ◌∷◌, ◌++◌, length, refl, sym, ap, subst}
use Rattle.root_cost.proofs.Order.{at_most_antisymmetric}
use Rattle.root_cost.proofs.Adding.{at_most_sum_cancel, at_most_sum_first_cancel}
use Rattle.moves.specs.declared.Cell.{Cell}
use Rattle.moves.specs.declared.Move.{Move}
use Rattle.moves.specs.Maps.{Map, IsPassable, IsLike}
use Rattle.moves.specs.Moves.{opposite, IsLegal}
use Rattle.moves.specs.Paths.{IsPath, Leads, cost_of, IsBest}
use Rattle.moves.specs.PathLaws.{back_along, EndsAt, LawsOfPaths}
use Rattle.moves.proofs.MoveLaws.{like_itself, legal_back, legal_near}
use Rattle.moves.proofs.CostsOfPaths.{cost_of-append, back_along-cons, cost_of-back_along}

-- a path begins at a passable cell
pub leads_from : (map : Map) (a b : Cell) (moves : List Move) → Leads map a moves b → IsPassable map a
leads_from map a b [] path = path.0
leads_from map a b (move ∷ moves) path = path.1.leaves

-- and ends at one
pub leads_to : (map : Map) (a b : Cell) (moves : List Move) → Leads map a moves b → IsPassable map b
leads_to map a b [] path = subst (IsPassable map) path.1 path.0
leads_to map a b (move ∷ moves) path = leads_to map path.0 b moves path.2

-- two paths that meet make one
pub joined : (map : Map) (a b c : Cell) (first rest : List Move) → Leads map a first b → Leads map b rest c → Leads map a (first ++ rest) c
joined map a b c [] rest p q = subst (λ x. Leads map x rest c) (sym p.1) q
joined map a b c (move ∷ first) rest p q = (p.0, p.1, joined map p.0 b c first rest p.2 q)

-- a path of one legal move
pub one_move : (map : Map) (a b : Cell) (move : Move) → IsLegal map a move b → Leads map a (move ∷ []) b
one_move map a b move legal = (b, legal, (legal.enters.passable, refl))

-- a path and one legal move more
pub one_more : (map : Map) (a b c : Cell) (moves : List Move) (move : Move) → Leads map a moves b → IsLegal map b move c
    → Leads map a (moves ++ move ∷ []) c
one_more map a b c moves move path legal = joined map a b c moves (move ∷ []) path (one_move map b c move legal)

-- a path can be cut anywhere
pub cut : (map : Map) (a c : Cell) (first rest : List Move) → Leads map a (first ++ rest) c
    → (b : Cell) × Leads map a first b × Leads map b rest c
cut map a c [] rest path = (a, (leads_from map a c rest path, refl), path)
cut map a c (move ∷ first) rest path =
    let later = cut map path.0 c first rest path.2 in
    (later.0, (path.0, path.1, later.1), later.2)

-- both parts of a best path are best
pub best_parts : (map : Map) (a c : Cell) (first rest : List Move) → IsBest map a (first ++ rest) c
    → (b : Cell) × IsBest map a first b × IsBest map b rest c
best_parts map a c first rest best =
    let parts = cut map a c first rest best.leads in
    let b = parts.0 in (
      b,
      record {
        leads = parts.1;
        least = λ others path. at_most_sum_cancel _ _ (cost_of rest)
            (rw (← cost_of-append first rest, ← cost_of-append others rest) (best.least (others ++ rest) (joined map a b c others rest path parts.2)));
      },
      record {
        leads = parts.2;
        least = λ others path. at_most_sum_first_cancel _ _ (cost_of first)
            (rw (← cost_of-append first rest, ← cost_of-append first others) (best.least (first ++ others) (joined map a b c first others parts.1 path)));
      },
    )

-- all best paths between two cells cost the same
pub same_cost_of_best : (map : Map) (a b : Cell) (moves others : List Move) → IsBest map a moves b
    → IsBest map a others b → cost_of moves ≡ cost_of others
same_cost_of_best map a b moves others p q = at_most_antisymmetric _ _ (p.least others q.leads) (q.least moves p.leads)

pieces : (map : Map) (a d : Cell) (front middle back : List Move) → IsBest map a (front ++ middle ++ back) d
    → (b : Cell) × (c : Cell) × IsBest map a front b × IsBest map b middle c × IsBest map c back d
pieces map a d front middle back best =
    let last = best_parts map a d (front ++ middle) back best in
    let first = best_parts map a last.0 front middle last.1 in
    (first.0, last.0, first.1, first.2, last.2)

-- the way back along a path is a path
pub leads_back : (map : Map) (a b : Cell) (moves : List Move) → Leads map a moves b → Leads map b (back_along moves) a
leads_back map a b [] path = (subst (IsPassable map) path.1 path.0, sym path.1)
leads_back map a b (move ∷ moves) path =
    rw (back_along-cons move moves)
    (one_more map b path.0 a (back_along moves) (opposite move) (leads_back map path.0 b moves path.2) (legal_back map a move path.0 path.1))

spelled : (map : Map) (from to : Cell) (rest : List Cell) → IsPath map (from ∷ rest) → EndsAt from rest to
    → (moves : List Move) × Leads map from moves to × (length moves ≡ length rest)
spelled map from to [] path ends = ([], (path.0, ends), refl)
spelled map from to (next ∷ rest) path ends =
    let step = path.1.0 in
    let later = spelled map next to rest (step.1.enters.passable, path.1.1) ends in
    (step.0 ∷ later.0, (next, step.1, later.1), ap suc later.2)

walked : (map : Map) (from to : Cell) (moves : List Move) → Leads map from moves to
    → (rest : List Cell) × IsPath map (from ∷ rest) × EndsAt from rest to × (length rest ≡ length moves)
walked map from to [] path = ([], (path.0, tt), path.1, refl)
walked map from to (move ∷ moves) path =
    let later = walked map path.0 to moves path.2 in
    (path.0 ∷ later.0, (path.1.leaves, ((move, path.1), later.1.1)), later.2, ap suc later.3)

-- a path is a path in each map where the cells of one class are so as well
pub leads_kept : (a b : Map) → ((cell other : Cell) → IsPassable a cell → IsLike a cell other → IsLike b cell other)
    → (from : Cell) (moves : List Move) (to : Cell) → Leads a from moves to → Leads b from moves to
leads_kept a b keep from [] to path = ((keep from from path.0 (like_itself a from path.0)).passable, path.1)
leads_kept a b keep from (move ∷ moves) to path =
    (path.0, legal_near a b from move path.0 (λ c near. keep from c path.1.leaves) path.1, leads_kept a b keep path.0 moves to path.2)

pub laws_of_paths : LawsOfPaths
laws_of_paths = record {
  joined = joined;
  sum = cost_of-append;
  pieces = pieces;
  begins = λ map a c move rest path. path;
  back = leads_back;
  same_back = cost_of-back_along;
  spelled = spelled;
  walked = walked;
}
