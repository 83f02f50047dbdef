-- Where a path exists a best path exists: of the paths with so many moves at most one is cheapest, and a path that costs
-- no more than another has at most twice as many moves.
use Rattle.std.proofs.Common.{◌≡◌, ℕ, zero, suc, ◌+◌, ◌-◌, ◌*◌, ◌<◌, ◌≤◌, ◌⊎◌, false, List, [], ◌∷◌, length, inl, inr, refl, sym, subst, ◌∙◌, arith}
use Rattle.std.specs.Prelude.{slice_index_or}
use Rattle.std.proofs.lemmas.Bool.{cases_lt, cases_eq, cases_Bool}
use Rattle.root_cost.specs.declared.Cost.{Cost}
use Rattle.root_cost.specs.Costs.{IsAtMost}
use Rattle.root_cost.proofs.Order.{at_most_itself, at_most_total, at_most_trans}
use Rattle.root_cost.proofs.Adding.{at_most_step}
use Rattle.root_cost.proofs.Squares.{le_from_squares}
use Rattle.moves.specs.declared.Cell.{Cell}
use Rattle.moves.specs.declared.Move.{Move}
use Rattle.moves.specs.declared.Terrain.{Terrain}
use Rattle.moves.specs.declared.Terrain.TheVariants.{Blocked, Land, Water}
use Rattle.moves.specs.declared.Move.TheVariants.{N, NE, E, SE, S, SW, W, NW}
use Rattle.moves.specs.Maps.{Map, IsPassable, IsLike, passable_of, place_of, terrain_of}
use Rattle.moves.specs.Moves.{number_of, is_diagonal, corner, IsTarget, IsLegal}
use Rattle.moves.specs.Paths.{Leads, cost_of, IsBest}
use Rattle.moves.specs.PathLaws.{BestPathsExist}
use Rattle.moves.specs.FirstSets.{FirstMovesExist}
use Rattle.moves.proofs.MoveLaws.{same_target, same_move, number_below}
use Rattle.moves.proofs.MovesInSets.{move_with}
use Rattle.moves.proofs.StraightPaths.{straight_is_legal}
use Rattle.moves.proofs.CostsOfPaths.{cost_of-cons, moves_of_cost}
use Rattle.moves.proofs.LawsOfPaths.{leads_from}
use Rattle.moves.proofs.TableLaws.{same_or_apart}

-- ---- what can be decided of a map

pub passable_or_not : (map : Map) (cell : Cell) → IsPassable map cell ⊎ (IsPassable map cell → ⊥)
passable_or_not map cell = elim (cases_lt cell.x map.width) [
  | inr right ↦ inr (λ passable. let column = passable.inside.column in omega arith)
  | inl column ↦ elim (cases_lt cell.y map.height) [
    | inr low ↦ inr (λ passable. let row = passable.inside.row in omega arith)
    | inl row ↦ elim (cases_Bool (slice_index_or (passable_of map) (place_of map.width cell) false)) [
      | inl free ↦ inl (record { inside = record { column = column; row = row }; passable = free })
      | inr blocked ↦ inr (λ passable. let free = passable.passable in cc)
    ]
  ]
]

-- two terrains are one or they are not
same_terrain : (s t : Terrain) → (s ≡ t) ⊎ (s ≡ t → ⊥)
same_terrain Blocked Blocked = inl refl
same_terrain Blocked Land = inr (λ e. cc)
same_terrain Blocked Water = inr (λ e. cc)
same_terrain Land Blocked = inr (λ e. cc)
same_terrain Land Land = inl refl
same_terrain Land Water = inr (λ e. cc)
same_terrain Water Blocked = inr (λ e. cc)
same_terrain Water Land = inr (λ e. cc)
same_terrain Water Water = inl refl

pub like_or_not : (map : Map) (cell other : Cell) → IsLike map cell other ⊎ (IsLike map cell other → ⊥)
like_or_not map cell other = elim (passable_or_not map other) [
  | inr blocked ↦ inr (λ like. blocked like.passable)
  | inl free ↦ elim (same_terrain (terrain_of map other) (terrain_of map cell)) [
    | inl same ↦ inl (record { passable = free; same = same })
    | inr apart ↦ inr (λ like. apart like.same)
  ]
]

abbrev HasTarget : Cell → Move → Type 0
HasTarget a move = (to : Cell) × IsTarget a move to

abbrev HasNone : Cell → Move → Type 0
HasNone a move = (to : Cell) → IsTarget a move to → ⊥

-- the cell that many columns and rows further, less one each
abbrev cell_from : Cell → ℕ → ℕ → Cell
cell_from a right down = record { x = a.x + right - 1; y = a.y + down - 1 }

target_or_not : (a : Cell) (move : Move) → HasTarget a move ⊎ HasNone a move
target_or_not a N = elim (cases_lt 0 a.y) [ inl h ↦ inl (cell_from a 1 0, (omega arith, omega arith)) | inr h ↦ inr (λ to t. omega arith) ]
target_or_not a NE = elim (cases_lt 0 a.y) [ inl h ↦ inl (cell_from a 2 0, (omega arith, omega arith)) | inr h ↦ inr (λ to t. omega arith) ]
target_or_not a E = inl (cell_from a 2 1, (omega arith, omega arith))
target_or_not a SE = inl (cell_from a 2 2, (omega arith, omega arith))
target_or_not a S = inl (cell_from a 1 2, (omega arith, omega arith))
target_or_not a SW = elim (cases_lt 0 a.x) [ inl h ↦ inl (cell_from a 0 2, (omega arith, omega arith)) | inr h ↦ inr (λ to t. omega arith) ]
target_or_not a W = elim (cases_lt 0 a.x) [ inl h ↦ inl (cell_from a 0 1, (omega arith, omega arith)) | inr h ↦ inr (λ to t. omega arith) ]
target_or_not a NW = elim (cases_lt 0 a.x) [
  | inr h ↦ inr (λ to t. omega arith)
  | inl h ↦ elim (cases_lt 0 a.y) [ inl k ↦ inl (cell_from a 0 0, (omega arith, omega arith)) | inr k ↦ inr (λ to t. omega arith) ]
]

module _ (map : Map) (a : Cell) (move : Move) where
  abbrev Legal : Type 0
  Legal = (to : Cell) × IsLegal map a move to

  abbrev Illegal : Type 0
  Illegal = (to : Cell) → IsLegal map a move to → ⊥

  diagonal_or_not : (to : Cell) → IsTarget a move to → IsPassable map a → IsLike map a to → Legal ⊎ Illegal
  diagonal_or_not to target leaves enters =
      let same : (other : Cell) → IsLegal map a move other → other ≡ to = λ other legal. same_target a move other to legal.target target in
      elim (cases_Bool (is_diagonal move)) [
        | inr straight ↦ inl (to, straight_is_legal map a move to straight target leaves enters)
        | inl odd ↦ elim (like_or_not map a (corner a to)) [
          | inr blocked ↦ inr (λ other legal. blocked (subst (λ c. IsLike map a (corner a c)) (same other legal) (legal.corners odd).0))
          | inl free ↦ elim (like_or_not map a (corner to a)) [
            | inr blocked ↦ inr (λ other legal. blocked (subst (λ c. IsLike map a (corner c a)) (same other legal) (legal.corners odd).1))
            | inl also ↦ inl (to, record { target = target; leaves = leaves; enters = enters; corners = λ _. (free, also) })
          ]
        ]
      ]

  pub legal_or_not : Legal ⊎ Illegal
  legal_or_not = elim (target_or_not a move) [
    | inr none ↦ inr (λ to legal. none to legal.target)
    | inl (to, target) ↦ elim (passable_or_not map a) [
      | inr blocked ↦ inr (λ other legal. blocked legal.leaves)
      | inl leaves ↦ elim (like_or_not map a to) [
        | inr blocked ↦ inr (λ other legal. blocked (subst (IsLike map a) (same_target a move other to legal.target target) legal.enters))
        | inl enters ↦ diagonal_or_not to target leaves enters
      ]
    ]
  ]

-- ---- the cheapest of some lists of moves

-- the lists of moves that have the property cost no less than these
pub record IsCheapest (P : List Move → Type 0) (moves : List Move) : Type 0 where
  pub has : P moves
  pub least : (others : List Move) → P others → IsAtMost (cost_of moves) (cost_of others)

-- a cheapest one is known, or there is none
abbrev pub IsDecided : (List Move → Type 0) → Type 0
IsDecided P = ((moves : List Move) × IsCheapest P moves) ⊎ ((moves : List Move) → P moves → ⊥)

same_decided : (P Q : List Move → Type 0) → ((moves : List Move) → P moves → Q moves)
    → ((moves : List Move) → Q moves → P moves) → IsDecided P → IsDecided Q
same_decided P Q there back (inl p) = inl (p.0, record { has = there p.0 p.1.has; least = λ others h. p.1.least others (back others h) })
same_decided P Q there back (inr none) = inr (λ moves h. none moves (back moves h))

abbrev Either : (List Move → Type 0) → (List Move → Type 0) → List Move → Type 0
Either P Q moves = P moves ⊎ Q moves

cheaper : (P Q : List Move → Type 0) (p q : List Move) → IsCheapest P p → IsCheapest Q q → IsAtMost (cost_of p) (cost_of q)
    → (others : List Move) → Either P Q others → IsAtMost (cost_of p) (cost_of others)
cheaper P Q p q first second low others (inl h) = first.least others h
cheaper P Q p q first second low others (inr h) = at_most_trans (cost_of p) (cost_of q) (cost_of others) low (second.least others h)

turned : (P Q : List Move → Type 0) (moves : List Move) → Either P Q moves → Either Q P moves
turned P Q moves (inl h) = inr h
turned P Q moves (inr h) = inl h

only_first : (P Q : List Move → Type 0) → ((moves : List Move) → Q moves → ⊥) → (moves : List Move) → Either P Q moves → P moves
only_first P Q none moves (inl h) = h
only_first P Q none moves (inr h) = absurd (none moves h)

either_decided : (P Q : List Move → Type 0) → IsDecided P → IsDecided Q → IsDecided (Either P Q)
either_decided P Q (inl p) (inl q) = elim (at_most_total (cost_of p.0) (cost_of q.0)) [
  | inl low ↦ inl (p.0, record { has = inl p.1.has; least = cheaper P Q p.0 q.0 p.1 q.1 low })
  | inr low ↦ inl (q.0, record { has = inr q.1.has; least = λ others h. cheaper Q P q.0 p.0 q.1 p.1 low others (turned P Q others h) })
]
either_decided P Q p (inr none) = same_decided P (Either P Q) (λ moves h. inl h) (only_first P Q none) p
either_decided P Q (inr none) (inl q) =
    same_decided Q (Either P Q) (λ moves h. inr h) (λ moves h. only_first Q P none moves (turned P Q moves h)) (inl q)

-- the lists that begin with the move and go on with one that has the property
abbrev Begins : Move → (List Move → Type 0) → List Move → Type 0
Begins move P moves = (rest : List Move) × (moves ≡ move ∷ rest) × P rest

begun_decided : (move : Move) (P : List Move → Type 0) → IsDecided P → IsDecided (Begins move P)
begun_decided move P (inl p) = inl (
  move ∷ p.0,
  record {
    has = (p.0, refl, p.1.has);
    least = λ others h.
        rw (h.1, cost_of-cons move p.0, cost_of-cons move h.0) (at_most_step (cost_of p.0) (cost_of h.0) (is_diagonal move) (p.1.least h.0 h.2));
  },
)
begun_decided move P (inr none) = inr (λ moves h. none h.0 h.2)

-- ---- the cheapest path with so many moves at most

-- a path of at most that many moves
abbrev IsShort : Map → ℕ → Cell → Cell → List Move → Type 0
IsShort map n a b moves = (length moves ≤ n) × Leads map a moves b

abbrev Stays : Map → Cell → Cell → List Move → Type 0
Stays map a b moves = (moves ≡ []) × Leads map a moves b

stay_decided : (map : Map) (a b : Cell) → IsDecided (Stays map a b)
stay_decided map a b = elim (passable_or_not map a) [
  | inr blocked ↦ inr (λ moves h. blocked (leads_from map a b moves h.1))
  | inl free ↦ elim (same_or_apart a b) [
    | inl same ↦ inl ([], record { has = (refl, (free, same)); least = λ others h. rw h.0 (at_most_itself (cost_of [])) })
    | inr apart ↦ inr (λ moves h. let path : Leads map a [] b = subst (λ list. Leads map a list b) h.0 h.1 in apart path.1)
  ]
]

module _ (map : Map) (n : ℕ) (a b : Cell) (shorter : (c : Cell) → IsDecided (IsShort map n c b)) where
  -- the paths that begin with a move
  abbrev By : Move → List Move → Type 0
  By move = Begins move (λ rest. (length rest ≤ n) × Leads map a (move ∷ rest) b)

  move_decided : (move : Move) → IsDecided (By move)
  move_decided move = elim (legal_or_not map a move) [
    | inr none ↦ inr (λ moves h. none h.2.1.0 h.2.1.1)
    | inl (next, legal) ↦
        same_decided (Begins move (IsShort map n next b)) (By move) (λ moves h. (h.0, h.1, (h.2.0, (next, legal, h.2.1))))
        (λ moves h. (h.0, h.1, (h.2.0, subst (λ c. Leads map c h.0 b) (same_target a move h.2.1.0 next h.2.1.1.target legal.target) h.2.1.2)))
        (begun_decided move (IsShort map n next b) (shorter next))
  ]

  -- those that begin with a move whose number is below k
  abbrev ByBelow : ℕ → List Move → Type 0
  ByBelow k moves = (move : Move) × (number_of move < k) × By move moves

  below_more : (k : ℕ) (move : Move) → number_of move ≡ k → (moves : List Move) → Either (ByBelow k) (By move) moves → ByBelow (suc k) moves
  below_more k move e moves (inl h) = (h.0, (let low = h.1 in omega arith), h.2)
  below_more k move e moves (inr h) = (move, omega arith, h)

  below_less : (k : ℕ) (move : Move) → number_of move ≡ k → (moves : List Move) → ByBelow (suc k) moves → Either (ByBelow k) (By move) moves
  below_less k move e moves h = elim (cases_eq (number_of h.0) k) [
    | inl same ↦ inr (subst (λ m. By m moves) (same_move h.0 move (same ∙ sym e)) h.2)
    | inr other ↦ inl (h.0, (let low = h.1 in omega arith), h.2)
  ]

  below_decided : (k : ℕ) → k ≤ 8 → IsDecided (ByBelow k)
  below_decided zero few = inr (λ moves h. let low = h.1 in omega arith)
  below_decided (suc k) few =
      let m = move_with k (omega arith) in
      same_decided (Either (ByBelow k) (By m.0)) (ByBelow (suc k)) (below_more k m.0 m.1) (below_less k m.0 m.1)
      (either_decided (ByBelow k) (By m.0) (below_decided k (omega arith)) (move_decided m.0))

  one_of_both : (moves : List Move) → IsShort map (suc n) a b moves → Either (Stays map a b) (ByBelow 8) moves
  one_of_both [] short = inl (refl, short.1)
  one_of_both (move ∷ rest) short = inr (move, number_below move, (rest, refl, ((let l = short.0 in omega arith), short.1)))

  both_short : (moves : List Move) → Either (Stays map a b) (ByBelow 8) moves → IsShort map (suc n) a b moves
  both_short moves (inl h) = rw h.0 (omega arith, subst (λ list. Leads map a list b) h.0 h.1)
  both_short moves (inr h) = rw h.2.1 ((let l = h.2.2.0 in omega arith), h.2.2.1)

  longer_decided : IsDecided (IsShort map (suc n) a b)
  longer_decided = same_decided (Either (Stays map a b) (ByBelow 8)) (IsShort map (suc n) a b) both_short one_of_both
      (either_decided (Stays map a b) (ByBelow 8) (stay_decided map a b) (below_decided 8 (omega arith)))

no_moves : (map : Map) (a b : Cell) (moves : List Move) → IsShort map 0 a b moves → Stays map a b moves
no_moves map a b [] short = (refl, short.1)
no_moves map a b (move ∷ rest) short = absurd (let l = short.0 in omega arith)

short_decided : (map : Map) (n : ℕ) (a b : Cell) → IsDecided (IsShort map n a b)
short_decided map zero a b =
    let short : (moves : List Move) → Stays map a b moves → IsShort map 0 a b moves
    = λ moves h. rw h.0 (omega arith, subst (λ list. Leads map a list b) h.0 h.1) in
    same_decided (Stays map a b) (IsShort map 0 a b) short (no_moves map a b) (stay_decided map a b)
short_decided map (suc n) a b = longer_decided map n a b (λ c. short_decided map n c b)

-- ---- how many moves a path of some cost has

at_most_twice : (p q : ℕ) → p * p ≤ 2 * (q * q) → p ≤ 2 * q
at_most_twice p q h = le_from_squares p (2 * q) (omega arith)

at_least_once : (p q : ℕ) → 2 * (q * q) ≤ p * p → q ≤ p
at_least_once p q h = le_from_squares q p (omega arith)

-- a cost that is no more than another has at most twice as many steps
pub steps_at_most_twice : (x y : Cost) → IsAtMost x y → x.straight + x.diagonal ≤ 2 * (y.straight + y.diagonal)
unfolding IsAtMost
steps_at_most_twice x y (inl h) = omega arith
steps_at_most_twice x y (inr (inl h)) = let few = at_most_twice (x.straight - y.straight) (y.diagonal - x.diagonal) h.2 in omega arith
steps_at_most_twice x y (inr (inr h)) = let few = at_least_once (y.straight - x.straight) (x.diagonal - y.diagonal) h.2 in omega arith

pub best_path_exists : BestPathsExist
best_path_exists map a b (moves, path) = elim (short_decided map (2 * length moves) a b) [
  | inr none ↦ absurd (none moves (omega arith, path))
  | inl (best, cheapest) ↦ (
    best,
    record {
      leads = cheapest.has.1;
      least = λ others other. elim (at_most_total (cost_of best) (cost_of others)) [
        | inl low ↦ low
        | inr high ↦
            let whole : IsAtMost (cost_of others) (cost_of moves) =
            at_most_trans (cost_of others) (cost_of best) (cost_of moves) high (cheapest.least moves (omega arith, path)) in
            let few = steps_at_most_twice (cost_of others) (cost_of moves) whole in
            cheapest.least others (omega (arith, moves_of_cost others, moves_of_cost moves), other)
      ];
    },
  )
]

begins_with : (map : Map) (a b : Cell) (best : List Move) → IsBest map a best b
    → (move : Move) × (((a ≡ b) × IsPassable map a) ⊎ ((rest : List Move) × IsBest map a (move ∷ rest) b))
begins_with map a b [] best = (N, inl (best.leads.1, best.leads.0))
begins_with map a b (move ∷ rest) best = (move, inr (rest, best))

pub first_move_exists : FirstMovesExist
first_move_exists map a b = (
  λ reach. let best = best_path_exists map a b reach in begins_with map a b best.0 best.1,
  λ (move, first). elim first [ inl here ↦ ([], (here.1, here.0)) | inr best ↦ (move ∷ best.0, best.1.leads) ],
)
