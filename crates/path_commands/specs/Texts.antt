-- The texts that the commands print. Each line ends with a line feed.
use Rattle.std.specs.Prelude.{ℕ, List, ◌++◌, codes, flat_map, length}
use Rattle.std.specs.Fmt.{decimal}
use Rattle.root_cost.specs.declared.Cost.{Cost}
use Rattle.root_cost.specs.Lengths.{length_text}
use Rattle.moves.specs.declared.Move.{Move}
use Rattle.moves.specs.Maps.{passable_count}
use Rattle.moves.specs.Moves.{move_name}
use Rattle.versions.specs.Databases.{Versioned, runs_of}
use Rattle.scen_run.specs.declared.queries.QueryTotals.{QueryTotals}

-- a text as a line of its own
abbrev pub line : List ℕ → List ℕ
line text = text ++ codes "\n"

-- the names of moves, a space before each
abbrev pub names_text : List Move → List ℕ
names_text moves = flat_map (λ move. codes " " ++ move_name move) moves

-- what `path` prints of a path before its moves: its cost, and its length in millionths
abbrev pub head_text : Cost → ℕ → List ℕ
head_text cost micro =
    line (codes "cost " ++ decimal cost.straight ++ codes " " ++ decimal cost.diagonal)
    ++ line (codes "length " ++ length_text micro)
    ++ codes "moves"

-- what `path` prints of a path: that, and its moves
abbrev pub path_text : Cost → ℕ → List Move → List ℕ
path_text cost micro moves = head_text cost micro ++ line (names_text moves)

-- what `path` prints where there is none
abbrev pub unreachable_text : List ℕ
unreachable_text = line (codes "unreachable")

-- numbers of cells, of components and of runs
abbrev pub numbers_text : ℕ → ℕ → ℕ → List ℕ
numbers_text cells comps runs =
    line (codes "cells " ++ decimal cells) ++ line (codes "components " ++ decimal comps)
    ++ line (codes "runs " ++ decimal runs)

-- the numbers of the passable cells of a version, of its components and of the runs of all its rows
abbrev pub size_text : Versioned → List ℕ
size_text version =
    numbers_text (passable_count version.map) (length version.comps) (runs_of version.comps)

-- what `check` prints of a version: the sides of its map, and those numbers
abbrev pub check_text : Versioned → List ℕ
check_text version =
    line (codes "size " ++ decimal version.map.width ++ codes " " ++ decimal version.map.height)
    ++ size_text version

-- what `near` prints after what `check` prints: how many runs all near rows have, and the greatest near radius
abbrev pub near_text : ℕ → ℕ → List ℕ
near_text runs widest = line (codes "near " ++ decimal runs) ++ line (codes "widest " ++ decimal widest)

-- how many queries there were, how many have no path, and the straight and the diagonal moves
abbrev pub totals_text : QueryTotals → List ℕ
totals_text totals =
    line (codes "queries " ++ decimal totals.queries)
    ++ line (codes "unreachable " ++ decimal totals.unreachable)
    ++ line (codes "straight " ++ decimal totals.straight)
    ++ line (codes "diagonal " ++ decimal totals.diagonal)

-- what `made` prints of a version and of its answers to the queries
abbrev pub made_text : Versioned → QueryTotals → List ℕ
made_text version totals = size_text version ++ totals_text totals

-- what `verify` prints of a version: how many edits it comes after, and its size
abbrev pub version_text : Versioned → List ℕ
version_text version = line (codes "version " ++ decimal version.prefix) ++ size_text version
