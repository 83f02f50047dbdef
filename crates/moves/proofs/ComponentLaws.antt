-- Inside a component its cells alone decide: the legal moves, the paths and the best paths.
use Rattle.std.proofs.Common.{subst, get_or, IsFalse, List, [], ◌∷◌, Option, Some, None, inl, inr}
use Rattle.std.specs.List.{All, Contains}
use Rattle.std.proofs.lemmas.List.Elements.{All-contains, All-head, All-tail, Contains-get_or}
use Rattle.root_cost.specs.declared.Cost.{Cost}
use Rattle.moves.specs.declared.Cell.{Cell}
use Rattle.moves.specs.declared.Move.{Move}
use Rattle.moves.specs.Maps.{Map, IsPassable, IsLike}
use Rattle.moves.specs.Moves.{is_diagonal, corner, IsLegal}
use Rattle.moves.specs.Paths.{Leads, IsBest, IsLeastCost}
use Rattle.moves.specs.FirstSets.{IsFirstMove}
use Rattle.moves.specs.Components.{IsComponent}
use Rattle.moves.specs.StraightPaths.{GoesThrough, IsConnected}
use Rattle.moves.specs.ComponentLaws.{HasJust, ComponentsAreOfOneClass, ComponentsKeepMoves, ComponentsKeepBestPaths, ComponentsKeepCosts, ComponentsKeepFirstSets, ComponentsAreConnected, ComponentsStayComponents}
use Rattle.moves.proofs.LawsOfPaths.{one_move, leads_kept}
use Rattle.moves.proofs.MoveLaws.{like_itself, like_through, legal_near}
use Rattle.moves.proofs.StraightPaths.{replaced, straight_path}

module _ (map : Map) (cells : List Cell) (component : IsComponent map cells) where
  -- a legal move does not leave its component
  pub stays_inside : (a : Cell) (move : Move) (b : Cell) → Contains cells a → IsLegal map a move b → Contains cells b
  stays_inside a move b c legal = (component.whole a b c).1 (move ∷ [], one_move map a b move legal)

  pub member_is_passable : (a : Cell) → Contains cells a → IsPassable map a
  member_is_passable a c = All-contains (IsPassable map) cells a component.passable c

  -- a component is of one class
  pub like_along : (from : Cell) (moves : List Move) (to : Cell) → Leads map from moves to → IsLike map from to
  like_along from [] to leads = subst (IsLike map from) leads.1 (like_itself map from leads.0)
  like_along from (move ∷ moves) to leads =
      like_through map from leads.0 to leads.1.enters (like_along leads.0 moves to leads.2)

  pub members_are_like : (a b : Cell) → Contains cells a → Contains cells b → IsLike map a b
  members_are_like a b in_a in_b = let reach = (component.whole a b in_a).0 in_b in like_along a reach.0 b reach.1

  -- a path of straight moves goes through cells of the component
  pub goes_through : (from : Cell) (moves : List Move) (to : Cell) → Contains cells from → Leads map from moves to
      → All (λ move. IsFalse (is_diagonal move)) moves → GoesThrough cells from moves to
  goes_through from [] to c leads straight = leads.1
  goes_through from (move ∷ moves) to c leads straight =
      let next = stays_inside from move leads.0 c leads.1 in (
        leads.0,
        leads.1.target,
        All-head (λ m. IsFalse (is_diagonal m)) move moves straight,
        next,
        goes_through leads.0 moves to next leads.2 (All-tail (λ m. IsFalse (is_diagonal m)) move moves straight),
      )

  pub component_is_connected : IsConnected cells
  component_is_connected = record {
    joined = λ from to a b.
        let reach = (component.whole from to a).0 b in
        let straight = straight_path map from reach.0 to reach.1 in
        (straight.0, goes_through from straight.0 to a straight.1 straight.2);
  }

  module _ (part : Map) (only : HasJust part cells) where
    pub passable_in_part : (a : Cell) → Contains cells a → IsPassable part a
    passable_in_part a c = (only.just_these a).1 c

    pub passable_in_map : (a : Cell) → IsPassable part a → IsPassable map a
    passable_in_map a p = member_is_passable a ((only.just_these a).0 p)

    -- all that are passable there are like each other here
    like_in_map : (a b : Cell) → IsPassable part a → IsLike part a b → IsLike map a b
    like_in_map a b free like = members_are_like a b ((only.just_these a).0 free) ((only.just_these b).0 like.passable)

    pub legal_in_map : (a : Cell) (move : Move) (b : Cell) → IsLegal part a move b → IsLegal map a move b
    legal_in_map a move b legal = legal_near part map a move b (λ c near. like_in_map a c legal.leaves) legal

    pub legal_in_part : (a : Cell) (move : Move) (b : Cell) → Contains cells a → IsLegal map a move b → IsLegal part a move b
    legal_in_part a move b c legal = record {
      target = legal.target;
      leaves = passable_in_part a c;
      enters = only.one_class a b c (stays_inside a move b c legal);
      corners = λ d.
          let r = replaced map a move b legal d in
          (only.one_class a (corner a b) c (stays_inside a _ (corner a b) c r.rise), only.one_class a (corner b a) c (stays_inside a _ (corner b a) c r.aside));
    }

    pub leads_in_map : (from : Cell) (moves : List Move) (to : Cell) → Leads part from moves to → Leads map from moves to
    leads_in_map from moves to leads = leads_kept part map like_in_map from moves to leads

    pub leads_in_part : (from : Cell) (moves : List Move) (to : Cell) → Contains cells from → Leads map from moves to
        → Leads part from moves to
    leads_in_part from [] to c leads = (passable_in_part from c, leads.1)
    leads_in_part from (move ∷ moves) to c leads =
        (leads.0, legal_in_part from move leads.0 c leads.1, leads_in_part leads.0 moves to (stays_inside from move leads.0 c leads.1) leads.2)

    pub best_in_map : (from : Cell) (moves : List Move) (to : Cell) → Contains cells from → IsBest part from moves to
        → IsBest map from moves to
    best_in_map from moves to c best =
        record { leads = leads_in_map from moves to best.leads; least = λ others leads. best.least others (leads_in_part from others to c leads) }

    pub best_in_part : (from : Cell) (moves : List Move) (to : Cell) → Contains cells from → IsBest map from moves to
        → IsBest part from moves to
    best_in_part from moves to c best =
        record { leads = leads_in_part from moves to c best.leads; least = λ others leads. best.least others (leads_in_map from others to leads) }

    pub cost_in_map : (from to : Cell) (cost : Option Cost) → Contains cells from → IsLeastCost part from to cost
        → IsLeastCost map from to cost
    cost_in_map from to None c none = λ reach. none (reach.0, leads_in_part from reach.0 to c reach.1)
    cost_in_map from to (Some least) c some = (some.0, best_in_map from some.0 to c some.1, some.2)

    pub cost_in_part : (from to : Cell) (cost : Option Cost) → Contains cells from → IsLeastCost map from to cost
        → IsLeastCost part from to cost
    cost_in_part from to None c none = λ reach. none (reach.0, leads_in_map from reach.0 to reach.1)
    cost_in_part from to (Some least) c some = (some.0, best_in_part from some.0 to c some.1, some.2)

    pub first_move_in_map : (from to : Cell) (move : Move) → Contains cells from → IsFirstMove part from to move
        → IsFirstMove map from to move
    first_move_in_map from to move c first = elim first [
      | inl same ↦ inl (same.0, member_is_passable from c)
      | inr best ↦ inr (best.0, best_in_map from (move ∷ best.0) to c best.1)
    ]

    pub first_move_in_part : (from to : Cell) (move : Move) → Contains cells from → IsFirstMove map from to move
        → IsFirstMove part from to move
    first_move_in_part from to move c first = elim first [
      | inl same ↦ inl (same.0, passable_in_part from c)
      | inr best ↦ inr (best.0, best_in_part from (move ∷ best.0) to c best.1)
    ]

    pub component_of_part : IsComponent part cells
    component_of_part = record {
      some = component.some;
      passable = λ k d less. passable_in_part (get_or cells k d) (Contains-get_or cells k d less);
      whole = λ from to c. (
        λ inside. let reach = (component.whole from to c).0 inside in (reach.0, leads_in_part from reach.0 to c reach.1),
        λ reach. (component.whole from to c).1 (reach.0, leads_in_map from reach.0 to reach.1),
      );
      in_order = component.in_order;
    }

pub components_are_of_one_class : ComponentsAreOfOneClass
components_are_of_one_class map cells component a b in_a in_b = members_are_like map cells component a b in_a in_b

pub components_stay_components : ComponentsStayComponents
components_stay_components map cells component part only = component_of_part map cells component part only

pub components_keep_moves : ComponentsKeepMoves
components_keep_moves map cells part component only from move to c = (
  legal_in_map map cells component part only from move to,
  legal_in_part map cells component part only from move to c,
)

pub components_keep_best_paths : ComponentsKeepBestPaths
components_keep_best_paths map cells part component only from moves to c = (
  best_in_map map cells component part only from moves to c,
  best_in_part map cells component part only from moves to c,
)

pub components_keep_costs : ComponentsKeepCosts
components_keep_costs map cells part component only from to cost c = (
  cost_in_map map cells component part only from to cost c,
  cost_in_part map cells component part only from to cost c,
)

pub components_keep_first_sets : ComponentsKeepFirstSets
components_keep_first_sets map cells part component only from to move c = (
  first_move_in_map map cells component part only from to move c,
  first_move_in_part map cells component part only from to move c,
)

pub components_are_connected : ComponentsAreConnected
components_are_connected = component_is_connected
