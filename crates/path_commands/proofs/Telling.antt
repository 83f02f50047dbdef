-- The walk between two cells of a map is the answer of its first version, whether or not that is built.
use Rattle.std.proofs.Common.{◌≡◌, ℕ, List, None, Some, Vec, sym, subst}
use Rattle.std.specs.Global.{Global}
use Rattle.root_cost.specs.declared.Cost.{Cost}
use Rattle.moves.specs.declared.Cell.{Cell}
use Rattle.moves.specs.declared.Move.{Move}
use Rattle.moves.specs.Maps.{Map}
use Rattle.moves.specs.Paths.{Reaches, cost_of}
use Rattle.cell_order.specs.declared.OrderKind.{OrderKind}
use Rattle.versions.specs.Databases.{Versioned, IsDatabase}
use Rattle.versions.specs.Queries.{AreEnds, IsRefusal}
use Rattle.versions.specs.Answers.{IsWalk, unreachable, path}
use Rattle.walk_rows.specs.declared.WalkError.{WalkError}
use Rattle.walk_rows.specs.declared.WalkError.TheVariants.{Refused, NoMemory}
use Rattle.walk_rows.specs.Walks.{IsWalkCause, IsWalkOf}
use Rattle.path_commands.specs.Queries.{TellsPath}
use Rattle.path_commands.specs.Runs.{IsFirstPathCause, IsFirstVersion, TellsFirstAnswer}
use Rattle.path_commands.specs.Statuses.{status_of_walk}
use Rattle.path_commands.specs.Texts.{unreachable_text}

-- the database of a first version is that of the map
database_of : (map : Map) (order : OrderKind) (version : Versioned) → IsFirstVersion map order version → IsDatabase map order version.comps
database_of map order version first =
    subst (λ o. IsDatabase map o version.comps) first.same_order (subst (λ m. IsDatabase m version.order version.comps) first.same_map first.whole.database)

module _ (map : Map) (order : OrderKind) (start goal : Cell) where
  pub tells_none : (text : List ℕ) → AreEnds map start goal → IsWalkOf map order start goal None → text ≡ unreachable_text → TellsFirstAnswer map order start goal text
  tells_none text ends none told = λ version first. record {
    answer = unreachable;
    is = (
      subst (λ m. AreEnds m start goal) (sym first.same_map) ends,
      λ reach. none version.comps (database_of map order version first) (subst (λ m. Reaches m start goal) first.same_map reach),
    );
    told = told;
  }

  pub tells_walk : (moves : Vec Move Global) (cost : Cost) (text : List ℕ) → AreEnds map start goal → IsWalkOf map order start goal (Some moves) → cost ≡ cost_of moves.items
      → TellsPath cost moves.items text → TellsFirstAnswer map order start goal text
  tells_walk moves cost text ends walk same told = λ version first. record {
    answer = path moves.items;
    is = (
      subst (λ m. AreEnds m start goal) (sym first.same_map) ends,
      subst (λ m. IsWalk m version.comps start goal moves.items) (sym first.same_map) (walk version.comps (database_of map order version first)),
    );
    told = subst (λ c. TellsPath c moves.items text) same told;
  }

  -- a refusal is that of the first version
  pub walk_fails : (error : WalkError) → IsWalkCause map start goal error → IsFirstPathCause map order start goal (status_of_walk error)
  walk_fails (Refused why) cause = λ version first. subst (λ m. IsRefusal m start goal why) (sym first.same_map) cause
  walk_fails NoMemory cause = λ version first. tt
