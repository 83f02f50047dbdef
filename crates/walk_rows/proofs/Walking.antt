-- A walk under way: what was spelled so far, and what the rows spell from where it stands.
use Rattle.std.proofs.Common.{◌≡◌, ◌≢◌, ℕ, ◌+◌, ◌<◌, ◌≤◌, false, List, [], ◌∷◌, ◌++◌, length, Contains, refl, sym, ap, subst, ◌∙◌, arith}
use Rattle.std.proofs.lemmas.List.{append_assoc, append-nil, length-append}
use Rattle.std.proofs.lemmas.Bool.{false≢true}
use Rattle.std.proofs.lemmas.List.Elements.{All-contains}
use Rattle.std.proofs.lemmas.List.Sorted.{Contains-permutation}
use Rattle.moves.specs.declared.Cell.{Cell}
use Rattle.moves.specs.declared.Move.{Move}
use Rattle.moves.specs.declared.TheConstants.{MAX_PASSABLE}
use Rattle.moves.specs.Maps.{Map, IsInside, IsPassable, IsSearchable}
use Rattle.moves.specs.Moves.{IsTarget}
use Rattle.moves.specs.Paths.{Reaches}
use Rattle.moves.proofs.LawsOfPaths.{leads_from}
use Rattle.moves.proofs.MoveLaws.{same_target}
use Rattle.row_store.specs.Comps.{Comp}
use Rattle.build_pool.specs.Places.{AreComponent, AreSources}
use Rattle.versions.specs.Spelled.{Spells}
use Rattle.versions.specs.Databases.{IsDatabase, comp_at, component_at}
use Rattle.versions.specs.Answers.{IsSpelled, IsWalk}
use Rattle.versions.proofs.Walking.{walk}
use Rattle.versions.proofs.BestWalks.{best_walk, component_of, kept_cells, spelled_once}
use Rattle.versions.proofs.Homes.{few_moves}
use Rattle.walk_rows.specs.declared.along.Route.{Route}
use Rattle.walk_rows.specs.declared.bench.Workbench.{Workbench}
use Rattle.walk_rows.specs.Existing.{IsWhole}
use Rattle.walk_rows.specs.Walks.{IsHome, IsKeptOver, IsReady, IsUnderWay, SpellsIn}
use Rattle.walk_rows.proofs.Descending.{LeadsOn}
use Rattle.walk_rows.proofs.Existing.{databases_exist}
use Rattle.walk_rows.proofs.Home.{among, goal_among, one_home}

pub under_way_begun : (map : Map) (route : Route) (moves : List Move) → moves ≡ [] → Reaches map route.start route.goal → IsUnderWay map route route.start moves
under_way_begun map route moves none reach =
    rw none (record { leaves = reach; ahead = reach; goes_on = λ cells home rows are rest spelled. spelled })

module _ (map : Map) (route : Route) (at : Cell) (moves : List Move) (way : IsUnderWay map route at moves) where
  under_way_more : at ≢ route.goal → (move : Move) → ((cells : List Cell) → IsHome map route cells → IsKeptOver cells at route.goal move)
      → (next : Cell) → IsTarget at move next → Reaches map next route.goal → IsUnderWay map route next (moves ++ move ∷ [])
  under_way_more apart move kept next target ahead = record {
    leaves = way.leaves;
    ahead = ahead;
    goes_on = λ cells home rows are rest spelled.
        subst (λ ms. Spells cells rows route.start ms route.goal) (sym (append_assoc moves (move ∷ []) rest))
        (way.goes_on cells home rows are (move ∷ rest) (apart, kept cells home rows are, next, target, spelled));
  }

  pub under_way_next : at ≢ route.goal → (move : Move) → ((cells : List Cell) → IsHome map route cells → IsKeptOver cells at route.goal move)
      → LeadsOn map route.goal at move → (next : Cell) → IsTarget at move next → IsUnderWay map route next (moves ++ move ∷ [])
  under_way_next apart move kept on next target =
      under_way_more apart move kept next target (subst (λ c. Reaches map c route.goal) (same_target at move on.next next on.legal.target target) on.ahead)

  -- where a path goes on from is inside
  pub inside_way : IsInside map at
  inside_way = (leads_from map at route.goal way.ahead.0 way.ahead.1).inside

  -- the goal is reached
  pub under_way_done : at ≡ route.goal → SpellsIn map route moves
  under_way_done same = λ cells home rows are.
      subst (λ ms. Spells cells rows route.start ms route.goal) (append-nil moves) (way.goes_on cells home rows are [] same)

  -- no walk has as many moves as there are cells
  pub too_long : (all : List Cell) → IsHome map route all → AreSources all → length all ≤ length moves → SpellsIn map route moves
  too_long all its sources many = λ cells home rows are.
      let same = one_home map route all its cells home in
      let rest = walk cells rows are at route.goal (among map route cells home at way.ahead) (goal_among map route cells home) in
      let whole = walk cells rows are route.start route.goal (among map route cells home route.start way.leaves) (goal_among map route cells home) in
      let once = (subst AreSources same sources).numbered.once in
      let spelled = spelled_once cells rows are once route.start route.goal (moves ++ rest.moves) whole.moves (way.goes_on cells home rows are rest.moves rest.spelled) whole.spelled in
      let size = ap length spelled in
      let both = length-append moves rest.moves in
      let short = whole.short in
      let all_long = ap length same in
      absurd (omega arith)

-- a cell among those of a component is passable
pub passable_among : (map : Map) (cells : List Cell) (cell : Cell) → AreComponent map cells → Contains cells cell → IsPassable map cell
passable_among map cells cell p has = All-contains (IsPassable map) p.component cell p.is.passable (Contains-permutation cells p.component cell p.order has)

-- ---- the bench

pub ready_none : (cells : List Cell) (bench : Workbench) → bench.tiles.count ≡ length cells → length bench.wanted.items ≡ length cells → bench.has_rows ≡ false → IsReady cells bench
ready_none cells bench count marks none = record { count = count; marks = marks; rows = λ has. absurd (false≢true (sym none ∙ has)) }

pub ready_kept : (cells : List Cell) (old new : Workbench) → IsReady cells old → new.tiles ≡ old.tiles → new.has_rows ≡ old.has_rows → new.wanted ≡ old.wanted → IsReady cells new
ready_kept cells old new p tiles rows wanted = record {
  count = ap (λ t. t.count) tiles ∙ p.count;
  marks = ap (λ w. length w.items) wanted ∙ p.marks;
  rows = λ has. rw tiles (p.rows (sym rows ∙ has));
}

-- ---- the walk of the map's database

module _ (map : Map) (route : Route) (moves : List Move) (spells : SpellsIn map route moves) (reach : Reaches map route.start route.goal) where
  pub walk_is : (comps : List Comp) → IsDatabase map route.order comps → IsWalk map comps route.start route.goal moves
  walk_is comps database =
      let best = best_walk map route.order comps database route.start route.goal reach in
      let its = best.1.spelled in
      let comp : Comp = comp_at comps its.label in
      let as_kept = database.each its.label its.within in
      let home : IsHome map route comp.cells = record {
        component = component_at database.components its.label;
        is = component_of map route.order comps database its.label its.within;
        arrives = kept_cells map route.order comps database its.label its.within route.goal its.arrives;
        kept = as_kept.cells;
      } in
      let ours : IsSpelled comps route.start route.goal moves = record {
        label = its.label;
        within = its.within;
        leaves = its.leaves;
        arrives = its.arrives;
        spelled = spells comp.cells home comp.rows as_kept.whole.rows;
      } in
      subst (IsWalk map comps route.start route.goal) (sym (best.1.only moves ours)) best.1

  pub walk_is_short : IsWhole map → IsSearchable map → length moves < MAX_PASSABLE
  walk_is_short whole searchable =
      let database = databases_exist map route.order whole searchable in
      few_moves map route.order database.0 database.1 route.start route.goal moves (walk_is database.0 database.1)
