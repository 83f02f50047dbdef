-- Each legal diagonal move can be replaced by two legal straight moves, by way of a cell that it would have cut.
use Rattle.std.proofs.Common.{◌≡◌, true, false, IsFalse, List, [], ◌∷◌, refl, subst, inl, inr, arith}
use Rattle.std.proofs.lemmas.Bool.{cases_Bool, false≢true}
use Rattle.std.proofs.lemmas.List.Elements.{All-nil, All-cons}
use Rattle.moves.specs.declared.Cell.{Cell}
use Rattle.moves.specs.declared.Move.{Move}
use Rattle.moves.specs.declared.Move.TheVariants.{N, NE, E, SE, S, SW, W, NW}
use Rattle.moves.specs.Maps.{Map, IsPassable, IsLike}
use Rattle.moves.specs.Moves.{is_diagonal, corner, IsTarget, IsLegal}
use Rattle.moves.specs.Paths.{Leads}
use Rattle.moves.proofs.MoveLaws.{like_both}
use Rattle.moves.specs.StraightPaths.{ReachesStraight, DiagonalsAreReplaceable, StraightMovesReachAll}

-- what a move changes of the row, as a straight move
abbrev pub vertical : Move → Move
vertical NE = N
vertical SE = S
vertical SW = S
vertical NW = N
vertical N = N
vertical E = E
vertical S = S
vertical W = W

-- what a move changes of the column, as a straight move
abbrev pub sideways : Move → Move
sideways NE = E
sideways SE = E
sideways SW = W
sideways NW = W
sideways N = N
sideways E = E
sideways S = S
sideways W = W

pub vertical_is_straight : (move : Move) → is_diagonal (vertical move) ≡ false
vertical_is_straight N = refl
vertical_is_straight NE = refl
vertical_is_straight E = refl
vertical_is_straight SE = refl
vertical_is_straight S = refl
vertical_is_straight SW = refl
vertical_is_straight W = refl
vertical_is_straight NW = refl

pub sideways_is_straight : (move : Move) → is_diagonal (sideways move) ≡ false
sideways_is_straight N = refl
sideways_is_straight NE = refl
sideways_is_straight E = refl
sideways_is_straight SE = refl
sideways_is_straight S = refl
sideways_is_straight SW = refl
sideways_is_straight W = refl
sideways_is_straight NW = refl

-- the corners lie one straight move away from both ends
pub record Halves (a : Cell) (move : Move) (b : Cell) : Type 0 where
  pub rise : IsTarget a (vertical move) (corner a b)
  pub then_aside : IsTarget (corner a b) (sideways move) b
  pub aside : IsTarget a (sideways move) (corner b a)

pub halves : (a : Cell) (move : Move) (b : Cell) → IsTarget a move b → is_diagonal move ≡ true → Halves a move b
halves a N b t d = absurd (false≢true d)
halves a NE b t d = record { rise = (omega arith, omega arith); then_aside = (omega arith, omega arith); aside = (omega arith, omega arith) }
halves a E b t d = absurd (false≢true d)
halves a SE b t d = record { rise = (omega arith, omega arith); then_aside = (omega arith, omega arith); aside = (omega arith, omega arith) }
halves a S b t d = absurd (false≢true d)
halves a SW b t d = record { rise = (omega arith, omega arith); then_aside = (omega arith, omega arith); aside = (omega arith, omega arith) }
halves a W b t d = absurd (false≢true d)
halves a NW b t d = record { rise = (omega arith, omega arith); then_aside = (omega arith, omega arith); aside = (omega arith, omega arith) }

-- a straight move cuts no corner
pub straight_is_legal : (map : Map) (a : Cell) (move : Move) (b : Cell) → is_diagonal move ≡ false → IsTarget a move b
    → IsPassable map a → IsLike map a b → IsLegal map a move b
straight_is_legal map a move b straight target leaves enters =
    record { target = target; leaves = leaves; enters = enters; corners = λ d. absurd (let e : false ≡ true = cc in false≢true e) }

-- the two straight moves that a legal diagonal move can be replaced by
pub record Replaced (map : Map) (a : Cell) (move : Move) (b : Cell) : Type 0 where
  pub rise : IsLegal map a (vertical move) (corner a b)
  pub then_aside : IsLegal map (corner a b) (sideways move) b
  pub aside : IsLegal map a (sideways move) (corner b a)

pub replaced : (map : Map) (a : Cell) (move : Move) (b : Cell) → IsLegal map a move b → is_diagonal move ≡ true → Replaced map a move b
replaced map a move b legal d =
    let h = halves a move b legal.target d in
    let free = legal.corners d in
    record {
      rise = straight_is_legal map a (vertical move) (corner a b) (vertical_is_straight move) h.rise legal.leaves free.0;
      then_aside = straight_is_legal map (corner a b) (sideways move) b (sideways_is_straight move) h.then_aside free.0.passable
          (like_both map a (corner a b) b free.0 legal.enters);
      aside = straight_is_legal map a (sideways move) (corner b a) (sideways_is_straight move) h.aside legal.leaves free.1;
    }

pub diagonals_replaceable : DiagonalsAreReplaceable
diagonals_replaceable map from move to legal d =
    let r = replaced map from move to legal d in
    (vertical move, sideways move, vertical_is_straight move, sideways_is_straight move, (corner from to, r.rise, (to, r.then_aside, (legal.enters.passable, refl))))

-- a path with no diagonal move, and one straight move before it
longer : (map : Map) (a : Cell) (move : Move) (b to : Cell) → is_diagonal move ≡ false → IsLegal map a move b
    → ReachesStraight map b to → ReachesStraight map a to
longer map a move b to straight legal rest = (move ∷ rest.0, (b, legal, rest.1), All-cons (λ m. IsFalse (is_diagonal m)) move rest.0 straight rest.2)

pub straight_path : (map : Map) (from : Cell) (moves : List Move) (to : Cell) → Leads map from moves to → ReachesStraight map from to
straight_path map from [] to leads = ([], leads, All-nil (λ m. IsFalse (is_diagonal m)))
straight_path map from (move ∷ moves) to leads =
    let rest = straight_path map leads.0 moves to leads.2 in
    elim (cases_Bool (is_diagonal move)) [
      | inl d ↦
          let r = replaced map from move leads.0 leads.1 d in
          longer map from (vertical move) (corner from leads.0) to (vertical_is_straight move) r.rise
          (longer map (corner from leads.0) (sideways move) leads.0 to (sideways_is_straight move) r.then_aside rest)
      | inr s ↦ longer map from move leads.0 to s leads.1 rest
    ]

pub straight_moves_reach_all : StraightMovesReachAll
straight_moves_reach_all map from to = (λ r. straight_path map from r.0 to r.1, λ r. (r.0, r.1))

-- what each legal straight move keeps, each path keeps
pub kept_along : (map : Map) (P : Cell → Type 0)
    (kept : (a : Cell) (move : Move) (b : Cell) → is_diagonal move ≡ false → IsLegal map a move b → P a → P b)
    (from : Cell) (moves : List Move) (to : Cell)
    → Leads map from moves to → P from → P to
kept_along map P kept from [] to leads p = subst P leads.1 p
kept_along map P kept from (move ∷ moves) to leads p =
    kept_along map P kept leads.0 moves to leads.2
    (elim (cases_Bool (is_diagonal move)) [
      | inl d ↦
          let r = replaced map from move leads.0 leads.1 d in
          kept (corner from leads.0) (sideways move) leads.0 (sideways_is_straight move) r.then_aside
          (kept from (vertical move) (corner from leads.0) (vertical_is_straight move) r.rise p)
      | inr s ↦ kept from move leads.0 s leads.1 p
    ])
