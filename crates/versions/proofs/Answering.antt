-- Each query of a version has one answer.
use Rattle.std.proofs.Common.{◌≡◌, ◌⊎◌, true, false, List, length, inl, inr, refl, sym, ap, subst, ◌∙◌, slice_index_or, arith}
use Rattle.std.proofs.lemmas.Bool.{cases_lt, cases_eq, cases_Bool}
use Rattle.moves.specs.declared.Cell.{Cell}
use Rattle.moves.specs.declared.Move.{Move}
use Rattle.moves.specs.Maps.{Map, IsInside, IsPassable, passable_count, passable_of, place_of}
use Rattle.moves.specs.Paths.{Reaches}
use Rattle.components.specs.Groups.{IsLabelOf}
use Rattle.versions.specs.declared.version.Totals.{Totals}
use Rattle.versions.specs.declared.query.End.TheVariants.{Start, Goal}
use Rattle.versions.specs.declared.query.QueryRefusal.TheVariants.{Outside, Blocked}
use Rattle.versions.specs.Databases.{Versioned, IsVersion, comp_at, runs_of}
use Rattle.versions.specs.Queries.{AreEnds}
use Rattle.versions.specs.Stored.{IsStored}
use Rattle.versions.specs.Answers.{Answer, refused, unreachable, path, IsAnswer, IsWalk, HasOneAnswer, QueriesHaveOneAnswer}
use Rattle.versions.proofs.Homes.{labelled, labels_apart, home_of, walk_at_home}

-- how a cell stands to a map
data Stand (map : Map) (cell : Cell) : Type 0 where
  misses : (IsInside map cell → ⊥) → Stand map cell
  closed : IsInside map cell → (IsPassable map cell → ⊥) → Stand map cell
  free : IsPassable map cell → Stand map cell

stand_inside : (map : Map) (cell : Cell) → IsInside map cell → Stand map cell
stand_inside map cell inside =
    elim (cases_Bool (slice_index_or (passable_of map) (place_of map.width cell) false)) [
      | inl is ↦ free (record { inside = inside; passable = is })
      | inr is ↦ closed inside (λ passable. let clash : true ≡ false = sym passable.passable ∙ is in absurd cc)
    ]

stand_of : (map : Map) (cell : Cell) → Stand map cell
stand_of map cell =
    elim (cases_lt cell.x map.width) [
      | inl column ↦ elim (cases_lt cell.y map.height) [
        | inl row ↦ stand_inside map cell (record { column = column; row = row })
        | inr past ↦ misses (λ inside. let row = inside.row in omega arith)
      ]
      | inr past ↦ misses (λ inside. let column = inside.column in omega arith)
    ]

-- what is kept beside the map and its database, for any version
abbrev totals_of : Versioned → Totals
totals_of version = record { cells = passable_count version.map; comps = length version.comps; runs = runs_of version.comps }

stored_of : (version : Versioned) (is : IsVersion version) → IsStored version.map version.order is.database.components version.comps (totals_of version)
stored_of version is = record {
  searchable = is.searchable;
  database = is.database;
  listed = is.database.listed;
  long = is.database.whole;
  cells = refl;
  components = refl;
  runs = refl;
}

-- between two passable cells there is a walk, or no path
walk_or_none : (version : Versioned) → IsVersion version → (start goal : Cell) → AreEnds version.map start goal
    → ((moves : List Move) × IsWalk version.map version.comps start goal moves) ⊎ (Reaches version.map start goal → ⊥)
walk_or_none version is start goal ends =
    let database = is.database in
    let stored = stored_of version is in
    let labels = database.components in
    let from = labelled version.map labels start database.listed ends.leaves in
    let to = labelled version.map labels goal database.listed ends.arrives in
    elim (cases_eq from.0 to.0) [
      | inl same ↦
          let there = subst (λ label. IsLabelOf labels goal label) (sym same) to.1 in
          let home = home_of version.map version.order labels version.comps (totals_of version) stored start goal from.0 (comp_at version.comps from.0) from.1 there refl in
          let walk = walk_at_home version.map version.order version.comps database start goal (comp_at version.comps from.0) home in
          inl (walk.0, walk.1)
      | inr apart ↦ inr (labels_apart version.map version.order labels version.comps (totals_of version) stored start goal from.0 to.0 from.1 to.1 apart)
    ]

module _ (version : Versioned) (start goal : Cell) where
  start_out : (IsInside version.map start → ⊥) → HasOneAnswer version start goal
  start_out out = record { answer = refused (Outside Start); is = out; only = only }
    where
      only : (other : Answer) → IsAnswer version start goal other → other ≡ refused (Outside Start)
      only (refused (Outside Start)) h = refl
      only (refused (Blocked Start)) h = absurd (out h.0)
      only (refused (Outside Goal)) h = absurd (out h.0.inside)
      only (refused (Blocked Goal)) h = absurd (out h.0.inside)
      only unreachable h = absurd (out h.0.leaves.inside)
      only (path moves) h = absurd (out h.0.leaves.inside)

  start_blocked : IsInside version.map start → (IsPassable version.map start → ⊥) → HasOneAnswer version start goal
  start_blocked inside blocked = record { answer = refused (Blocked Start); is = (inside, blocked); only = only }
    where
      only : (other : Answer) → IsAnswer version start goal other → other ≡ refused (Blocked Start)
      only (refused (Outside Start)) h = absurd (h inside)
      only (refused (Blocked Start)) h = refl
      only (refused (Outside Goal)) h = absurd (blocked h.0)
      only (refused (Blocked Goal)) h = absurd (blocked h.0)
      only unreachable h = absurd (blocked h.0.leaves)
      only (path moves) h = absurd (blocked h.0.leaves)

  goal_out : IsPassable version.map start → (IsInside version.map goal → ⊥) → HasOneAnswer version start goal
  goal_out leaves out = record { answer = refused (Outside Goal); is = (leaves, out); only = only }
    where
      only : (other : Answer) → IsAnswer version start goal other → other ≡ refused (Outside Goal)
      only (refused (Outside Start)) h = absurd (h leaves.inside)
      only (refused (Blocked Start)) h = absurd (h.1 leaves)
      only (refused (Outside Goal)) h = refl
      only (refused (Blocked Goal)) h = absurd (out h.1)
      only unreachable h = absurd (out h.0.arrives.inside)
      only (path moves) h = absurd (out h.0.arrives.inside)

  goal_blocked : IsPassable version.map start → IsInside version.map goal → (IsPassable version.map goal → ⊥) → HasOneAnswer version start goal
  goal_blocked leaves inside blocked = record { answer = refused (Blocked Goal); is = (leaves, inside, blocked); only = only }
    where
      only : (other : Answer) → IsAnswer version start goal other → other ≡ refused (Blocked Goal)
      only (refused (Outside Start)) h = absurd (h leaves.inside)
      only (refused (Blocked Start)) h = absurd (h.1 leaves)
      only (refused (Outside Goal)) h = absurd (h.1 inside)
      only (refused (Blocked Goal)) h = refl
      only unreachable h = absurd (blocked h.0.arrives)
      only (path moves) h = absurd (blocked h.0.arrives)

  no_path : AreEnds version.map start goal → (Reaches version.map start goal → ⊥) → HasOneAnswer version start goal
  no_path ends apart = record { answer = unreachable; is = (ends, apart); only = only }
    where
      only : (other : Answer) → IsAnswer version start goal other → other ≡ unreachable
      only (refused (Outside Start)) h = absurd (h ends.leaves.inside)
      only (refused (Blocked Start)) h = absurd (h.1 ends.leaves)
      only (refused (Outside Goal)) h = absurd (h.1 ends.arrives.inside)
      only (refused (Blocked Goal)) h = absurd (h.2 ends.arrives)
      only unreachable h = refl
      only (path moves) h = absurd (apart (moves, h.1.best.leads))

  one_path : AreEnds version.map start goal → (moves : List Move) → IsWalk version.map version.comps start goal moves → HasOneAnswer version start goal
  one_path ends moves walk = record { answer = path moves; is = (ends, walk); only = only }
    where
      only : (other : Answer) → IsAnswer version start goal other → other ≡ path moves
      only (refused (Outside Start)) h = absurd (h ends.leaves.inside)
      only (refused (Blocked Start)) h = absurd (h.1 ends.leaves)
      only (refused (Outside Goal)) h = absurd (h.1 ends.arrives.inside)
      only (refused (Blocked Goal)) h = absurd (h.2 ends.arrives)
      only unreachable h = absurd (h.1 (moves, walk.best.leads))
      only (path others) h = ap path (walk.only others h.1.spelled)

  between : IsVersion version → AreEnds version.map start goal → HasOneAnswer version start goal
  between is ends =
      elim (walk_or_none version is start goal ends) [
        | inl walk ↦ one_path ends walk.0 walk.1
        | inr apart ↦ no_path ends apart
      ]

  behind_start : IsVersion version → IsPassable version.map start → Stand version.map goal → HasOneAnswer version start goal
  behind_start is leaves (misses h) = goal_out leaves h
  behind_start is leaves (closed inside h) = goal_blocked leaves inside h
  behind_start is leaves (free arrives) = between is (record { leaves = leaves; arrives = arrives })

  judged : IsVersion version → Stand version.map start → Stand version.map goal → HasOneAnswer version start goal
  judged is (misses h) to = start_out h
  judged is (closed inside h) to = start_blocked inside h
  judged is (free leaves) to = behind_start is leaves to

pub queries_have_one_answer : QueriesHaveOneAnswer
queries_have_one_answer version is start goal = judged version start goal is (stand_of version.map start) (stand_of version.map goal)
