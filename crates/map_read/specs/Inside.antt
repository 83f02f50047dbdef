-- Definitions for the contracts inside this crate. The format does not need them.
use Rattle.std.specs.Prelude.{ℕ, ◌+◌, ◌*◌, min, List, [], ◌∷◌, ◌++◌, map, take, drop, codes}
use Rattle.moves.specs.Maps.{Map}
use Rattle.moves.specs.declared.TheConstants.{MAX_SIDE}
use Rattle.map_read.specs.MapText.{glyph}
use Rattle.std.specs.Fmt.{decimal}

-- all numbers above the greatest side count as one
abbrev pub capped : ℕ → ℕ
capped n = min n (MAX_SIDE + 1)

-- the header of the canonical text in one piece
abbrev pub header_text : ℕ → ℕ → List ℕ
header_text width height =
    (codes "type octile" ++ 10 ∷ codes "height ")
    ++ (decimal height ++ ((10 ∷ codes "width ") ++ (decimal width ++ (10 ∷ codes "map" ++ 10 ∷ []))))

-- row y of the canonical text, without its line feed
abbrev pub row_text : Map → ℕ → List ℕ
row_text m y = map glyph (take m.width (drop (y * m.width) m.terrain))
