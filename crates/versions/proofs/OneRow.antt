-- Maps of one row of three cells: their paths, and the first moves on `...`. Only tests have them.
use Rattle.std.proofs.Common.{◌≡◌, ◌⊎◌, ◌↔◌, inl, inr, ℕ, zero, suc, ◌+◌, ◌*◌, ◌<◌, ◌≤◌, Bool, true, false, List, [], ◌∷◌, get_or, replicate, arith, subst, refl, sym, ap, ◌∙◌}
use Rattle.root_cost.specs.declared.Cost.{Cost}
use Rattle.root_cost.specs.Costs.{IsAtMost, plus_step}
use Rattle.moves.specs.declared.Cell.{Cell}
use Rattle.moves.specs.declared.Move.{Move}
use Rattle.moves.specs.declared.Move.TheVariants.{N, NE, E, SE, S, SW, W, NW}
use Rattle.moves.specs.Maps.{Map, IsPassable, IsLike, map_with, place_of}
use Rattle.moves.specs.Moves.{is_diagonal, IsLegal}
use Rattle.moves.specs.Paths.{Leads, cost_of, IsBest}
use Rattle.moves.specs.FirstSets.{IsFirstMove}
use Rattle.moves.specs.MoveSets.{Has}
use Rattle.moves.proofs.CostsOfPaths.{cost_of-cons}
use Rattle.moves.proofs.LandMaps.{land_is_like, marked_if_passable, passable_if_marked}
use Rattle.moves.proofs.MoveLaws.{same_cell}
use Rattle.moves.proofs.MovesInSets.{Has-all, Has-one}
use Rattle.moves.proofs.StraightPaths.{straight_is_legal}
use Rattle.versions.specs.OneRow.{cell}

abbrev pub row_of : Bool → Bool → Bool → Map
row_of a b c = map_with 3 1 (a ∷ b ∷ c ∷ [])

abbrev pub free_row : Map
free_row = row_of true true true

-- ---- passable cells

pub three : (x : ℕ) → x < 3 → (x ≡ 0) ⊎ ((x ≡ 1) ⊎ (x ≡ 2))
three zero less = inl refl
three (suc zero) less = inr (inl refl)
three (suc (suc zero)) less = inr (inr refl)
three (suc (suc (suc x))) less = absurd (omega arith)

pub free : (a b c : Bool) (x : ℕ) → x < 3 → get_or (a ∷ b ∷ c ∷ []) x false ≡ true → IsPassable (row_of a b c) (cell x)
free a b c x less is =
    let place : place_of 3 (cell x) ≡ x = omega arith in
    passable_if_marked 3 1 (a ∷ b ∷ c ∷ []) (cell x) (record { column = less; row = omega arith })
    (ap (λ p. get_or (a ∷ b ∷ c ∷ []) p false) place ∙ is)

-- a passable cell is one of the row
pub record IsFree (a b c : Bool) (d : Cell) : Type 0 where
  pub below : d.x < 3
  pub is : d ≡ cell d.x
  pub passable : get_or (a ∷ b ∷ c ∷ []) d.x false ≡ true

pub of_free : (a b c : Bool) (d : Cell) → IsPassable (row_of a b c) d → IsFree a b c d
of_free a b c d passable =
    let flat : d.y ≡ 0 = omega (arith, passable.inside.row) in
    let place : place_of 3 d ≡ d.x = ap (λ y. y * 3 + d.x) flat ∙ omega arith in
    record {
      below = passable.inside.column;
      is = same_cell d (cell d.x) refl flat;
      passable = ap (λ p. get_or (a ∷ b ∷ c ∷ []) p false) (sym place) ∙ marked_if_passable 3 1 (a ∷ b ∷ c ∷ []) d passable;
    }

-- all that are passable are land
pub alike : (a b c : Bool) (d e : Cell) → IsPassable (row_of a b c) d → IsPassable (row_of a b c) e → IsLike (row_of a b c) d e
alike a b c d e free also = land_is_like 3 1 (a ∷ b ∷ c ∷ []) d e free also

pub all_free : (x : ℕ) → x < 3 → IsPassable free_row (cell x)
all_free zero less = free true true true 0 less refl
all_free (suc zero) less = free true true true 1 less refl
all_free (suc (suc zero)) less = free true true true 2 less refl
all_free (suc (suc (suc x))) less = absurd (omega arith)

all_alike : (x y : ℕ) → x < 3 → y < 3 → IsLike free_row (cell x) (cell y)
all_alike x y l m = alike true true true (cell x) (cell y) (all_free x l) (all_free y m)

-- ---- moves and paths

-- a legal move leads east or west
pub step : (a b c : Bool) (from : Cell) (move : Move) (to : Cell) → IsLegal (row_of a b c) from move to
    → ((move ≡ E) × (to.x ≡ from.x + 1)) ⊎ ((move ≡ W) × (to.x + 1 ≡ from.x))
step a b c from N to legal = absurd (omega (arith, legal.target.1, legal.leaves.inside.row))
step a b c from NE to legal = absurd (omega (arith, legal.target.1, legal.leaves.inside.row))
step a b c from E to legal = inl (refl, legal.target.0)
step a b c from SE to legal = absurd (omega (arith, legal.target.1, legal.enters.passable.inside.row))
step a b c from S to legal = absurd (omega (arith, legal.target.1, legal.enters.passable.inside.row))
step a b c from SW to legal = absurd (omega (arith, legal.target.1, legal.enters.passable.inside.row))
step a b c from W to legal = inr (refl, legal.target.0)
step a b c from NW to legal = absurd (omega (arith, legal.target.1, legal.leaves.inside.row))

-- a cost that is enough to come from the one column to the other by straight moves
pub record IsFar (from to : ℕ) (cost : Cost) : Type 0 where
  pub east : to ≤ from + cost.straight
  pub west : from ≤ to + cost.straight
  pub flat : cost.diagonal ≡ 0

farther : (x y z : ℕ) (move : Move) (moves : List Move) → is_diagonal move ≡ false → x ≤ y + 1 → y ≤ x + 1
    → IsFar y z (cost_of moves) → IsFar x z (cost_of (move ∷ moves))
farther x y z move moves straight low high rest =
    rw (cost_of-cons move moves, straight) (record {
      east = omega (arith, rest.east, high);
      west = omega (arith, rest.west, low);
      flat = omega (arith, rest.flat);
    })

pub far : (a b c : Bool) (from : Cell) (moves : List Move) (to : Cell) → Leads (row_of a b c) from moves to → IsFar from.x to.x (cost_of moves)
far a b c from [] to path =
    let same : from.x ≡ to.x = ap (λ d. d.x) path.1 in
    record { east = omega arith; west = omega arith; flat = refl }
far a b c from (move ∷ moves) to path =
    let rest = far a b c path.0 moves to path.2 in
    elim (step a b c from move path.0 path.1) [
      | inl e ↦ farther from.x path.0.x to.x move moves (ap is_diagonal e.0) (omega (arith, e.1)) (omega (arith, e.1)) rest
      | inr w ↦ farther from.x path.0.x to.x move moves (ap is_diagonal w.0) (omega (arith, w.1)) (omega (arith, w.1)) rest
    ]

-- a path whose cost is the way from column to column is best
pub best_if : (a b c : Bool) (from : Cell) (moves : List Move) (to : Cell) → Leads (row_of a b c) from moves to
    → (to.x ≡ from.x + (cost_of moves).straight) ⊎ (from.x ≡ to.x + (cost_of moves).straight) → IsBest (row_of a b c) from moves to
unfolding IsAtMost
best_if a b c from moves to path way =
    let flat = (far a b c from moves to path).flat in
    record {
      leads = path;
      least = λ others other.
          (let way_of = far a b c from others to other in
          elim way [
            | inl e ↦ inl (omega (arith, e, way_of.east), omega (arith, flat))
            | inr e ↦ inl (omega (arith, e, way_of.west), omega (arith, flat))
          ]);
    }

-- costs without diagonal moves
at_most_flat : (p q : Cost) → IsAtMost p q → q.diagonal ≡ 0 → p.straight ≤ q.straight
unfolding IsAtMost
at_most_flat p q most none = elim most [
  | inl both ↦ both.0
  | inr other ↦ elim other [ inl more ↦ absurd (omega (arith, more.1)) | inr less ↦ omega (arith, less.0) ]
]

-- ---- paths along the free row

one_more : (move : Move) (moves : List Move) → is_diagonal move ≡ false → (cost_of (move ∷ moves)).straight ≡ (cost_of moves).straight + 1
one_more move moves straight =
    ap (λ c. c.straight) (cost_of-cons move moves) ∙ ap (λ b. (plus_step (cost_of moves) b).straight) straight

counted : (move : Move) (n : ℕ) → is_diagonal move ≡ false → (cost_of (replicate n move)).straight ≡ n
counted move zero straight = refl
counted move (suc n) straight =
    one_more move (replicate n move) straight ∙ (let rest = counted move n straight in omega (arith, rest))

pub east : (n x : ℕ) → x + n < 3 → Leads free_row (cell x) (replicate n E) (cell (x + n))
east zero x less = (all_free x (omega arith), ap cell (let e : x ≡ x + 0 = omega arith in e))
east (suc n) x less =
    let e : x + 1 + n ≡ x + suc n = omega arith in (
      cell (x + 1),
      straight_is_legal free_row (cell x) E (cell (x + 1)) refl (refl, refl) (all_free x (omega arith))
          (all_alike x (x + 1) (omega arith) (omega arith)),
      subst (λ y. Leads free_row (cell (x + 1)) (replicate n E) (cell y)) e (east n (x + 1) (omega arith)),
    )

pub west : (n x : ℕ) → x + n < 3 → Leads free_row (cell (x + n)) (replicate n W) (cell x)
west zero x less = (all_free (x + 0) less, ap cell (let e : x + 0 ≡ x = omega arith in e))
west (suc n) x less = (
  cell (x + n),
  straight_is_legal free_row (cell (x + suc n)) W (cell (x + n)) refl (omega arith, refl) (all_free (x + suc n) less)
      (all_alike (x + suc n) (x + n) less (omega arith)),
  west n x (omega arith),
)

best_east : (n x : ℕ) → x + n < 3 → IsBest free_row (cell x) (replicate n E) (cell (x + n))
best_east n x less = best_if true true true (cell x) (replicate n E) (cell (x + n)) (east n x less) (inl (omega (arith, counted E n refl)))

best_west : (n x : ℕ) → x + n < 3 → IsBest free_row (cell (x + n)) (replicate n W) (cell x)
best_west n x less = best_if true true true (cell (x + n)) (replicate n W) (cell x) (west n x less) (inr (omega (arith, counted W n refl)))

-- behind its first move a best path has fewer moves than any path
shorter : (from : Cell) (move : Move) (rest : List Move) (to : Cell) (others : List Move) → IsBest free_row from (move ∷ rest) to
    → Leads free_row from others to → (cost_of rest).straight + 1 ≤ (cost_of others).straight
shorter from move rest to others best path =
    let straight : is_diagonal move ≡ false = elim (step true true true from move best.leads.0 best.leads.1) [
      | inl e ↦ ap is_diagonal e.0
      | inr w ↦ ap is_diagonal w.0
    ] in
    omega (arith, one_more move rest straight, at_most_flat _ _ (best.least others path) (far true true true from others to path).flat)

-- ---- first moves on the free row

first_east : (n x : ℕ) → x + suc n < 3 → (move : Move) → IsFirstMove free_row (cell x) (cell (x + suc n)) move ↔ (move ≡ E)
first_east n x less move = (
  λ first. elim first [
    | inl same ↦ absurd (let e : x ≡ x + suc n = ap (λ d. d.x) same.0 in omega arith)
    | inr more ↦ elim (step true true true (cell x) move more.1.leads.0 more.1.leads.1) [
      | inl e ↦ e.0
      | inr w ↦ absurd (
          omega (
            arith,
            w.1,
            counted E (suc n) refl,
            shorter (cell x) move more.0 _ (replicate (suc n) E) more.1 (east (suc n) x less),
            (far true true true more.1.leads.0 more.0 _ more.1.leads.2).east,
          ))
    ]
  ],
  λ e. inr (replicate n E, subst (λ m. IsBest free_row (cell x) (m ∷ replicate n E) (cell (x + suc n))) (sym e) (best_east (suc n) x less)),
)

first_west : (n x : ℕ) → x + suc n < 3 → (move : Move) → IsFirstMove free_row (cell (x + suc n)) (cell x) move ↔ (move ≡ W)
first_west n x less move = (
  λ first. elim first [
    | inl same ↦ absurd (let e : x + suc n ≡ x = ap (λ d. d.x) same.0 in omega arith)
    | inr more ↦ elim (step true true true (cell (x + suc n)) move more.1.leads.0 more.1.leads.1) [
      | inl e ↦ absurd (
          omega (
            arith,
            e.1,
            counted W (suc n) refl,
            shorter (cell (x + suc n)) move more.0 _ (replicate (suc n) W) more.1 (west (suc n) x less),
            (far true true true more.1.leads.0 more.0 _ more.1.leads.2).west,
          ))
      | inr w ↦ w.0
    ]
  ],
  λ e. inr (replicate n W, subst (λ m. IsBest free_row (cell (x + suc n)) (m ∷ replicate n W) (cell x)) (sym e) (best_west (suc n) x less)),
)

pub first_here : (map : Map) (d : Cell) → IsPassable map d → (move : Move) → Has 255 move ↔ IsFirstMove map d d move
first_here map d passable move = (λ has. inl (refl, passable), λ first. Has-all move)

-- the first set of two cells of the free row: all moves, east or west
abbrev pub set_between : ℕ → ℕ → ℕ
set_between zero zero = 255
set_between zero (suc y) = 4
set_between (suc x) zero = 64
set_between (suc x) (suc y) = set_between x y

both : {A B C : Type 0} → A ↔ B → C ↔ B → A ↔ C
both p q = (λ a. q.1 (p.0 a), λ c. p.1 (q.0 c))

pub first_moves : (x y : ℕ) → x < 3 → y < 3 → (move : Move) → Has (set_between x y) move ↔ IsFirstMove free_row (cell x) (cell y) move
first_moves zero zero l m move = first_here free_row (cell 0) (all_free 0 l) move
first_moves zero (suc zero) l m move = both (Has-one move E) (first_east 0 0 m move)
first_moves zero (suc (suc zero)) l m move = both (Has-one move E) (first_east 1 0 m move)
first_moves (suc zero) zero l m move = both (Has-one move W) (first_west 0 0 l move)
first_moves (suc zero) (suc zero) l m move = first_here free_row (cell 1) (all_free 1 l) move
first_moves (suc zero) (suc (suc zero)) l m move = both (Has-one move E) (first_east 0 1 m move)
first_moves (suc (suc zero)) zero l m move = both (Has-one move W) (first_west 1 0 l move)
first_moves (suc (suc zero)) (suc zero) l m move = both (Has-one move W) (first_west 0 1 l move)
first_moves (suc (suc zero)) (suc (suc zero)) l m move = first_here free_row (cell 2) (all_free 2 l) move
first_moves x (suc (suc (suc y))) l m move = absurd (omega arith)
first_moves (suc (suc (suc x))) y l m move = absurd (omega arith)
