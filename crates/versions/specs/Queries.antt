-- Why a query for a path is refused: its two ends are checked, the start before the goal.
use Rattle.std.specs.Prelude.{◌≡◌, ℕ, List, codes}
use Rattle.moves.specs.declared.Cell.{Cell}
use Rattle.moves.specs.Maps.{Map, IsInside, IsPassable}
use Rattle.versions.specs.declared.query.End.{End}
use Rattle.versions.specs.declared.query.End.TheVariants.{Start, Goal}
use Rattle.versions.specs.declared.query.QueryRefusal.{QueryRefusal}
use Rattle.versions.specs.declared.query.QueryRefusal.TheVariants.{Outside, Blocked}

-- why a query is refused, in words
abbrev pub refusal_text : QueryRefusal → List ℕ
refusal_text (Outside Start) = codes "outside start"
refusal_text (Outside Goal) = codes "outside goal"
refusal_text (Blocked Start) = codes "blocked start"
refusal_text (Blocked Goal) = codes "blocked goal"

-- the reason to refuse one end
abbrev pub IsEndRefusal : Map → Cell → End → QueryRefusal → Type 0
IsEndRefusal map cell which (Outside end) = (end ≡ which) × (IsInside map cell → ⊥)
IsEndRefusal map cell which (Blocked end) = (end ≡ which) × IsInside map cell × (IsPassable map cell → ⊥)

-- the first reason to refuse the two ends
abbrev pub IsRefusal : Map → Cell → Cell → QueryRefusal → Type 0
IsRefusal map start goal (Outside Start) = IsInside map start → ⊥
IsRefusal map start goal (Blocked Start) = IsInside map start × (IsPassable map start → ⊥)
IsRefusal map start goal (Outside Goal) = IsPassable map start × (IsInside map goal → ⊥)
IsRefusal map start goal (Blocked Goal) = IsPassable map start × IsInside map goal × (IsPassable map goal → ⊥)

-- both ends are inside and passable, so neither is refused
pub record AreEnds (map : Map) (start goal : Cell) : Type 0 where
  pub leaves : IsPassable map start
  pub arrives : IsPassable map goal
