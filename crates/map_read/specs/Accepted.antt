-- The texts that stand for a map, line by line.
use Rattle.std.specs.Prelude.{◌≡◌, ℕ, zero, suc, ◌+◌, ◌⊎◌, ◌↔◌, IsTrue, List, [], ◌∷◌, length, take, drop, Some, Ok, codes}
use Rattle.std.specs.List.{AllByRecursion}
use Rattle.moves.specs.Maps.{Map, IsWithinLimits, IsSearchable}
use Rattle.moves.specs.declared.Terrain.{Terrain}
use Rattle.text_lines.specs.Lines.{lines_of}
use Rattle.text_lines.specs.Words.{words_of, is_blank, without_gaps_at_end}
use Rattle.map_read.specs.MapText.{number_named, line_at, terrain_for, map_of}

-- each byte stands for the cell at its place, and there are as many bytes as cells
unfoldable pub StandFor : List ℕ → List Terrain → Type 0
StandFor [] [] = Unit {0}
StandFor [] (cell ∷ cells) = ⊥
StandFor (byte ∷ bytes) [] = ⊥
StandFor (byte ∷ bytes) (cell ∷ cells) = (terrain_for byte ≡ Some cell) × StandFor bytes cells

-- the line is a row of these cells: a byte for each, and spaces and tabs at its end
pub record IsRow (width : ℕ) (cells : List Terrain) (line : List ℕ) : Type 0 where
  pub wide : length cells ≡ width
  pub bytes : StandFor (without_gaps_at_end line) cells

-- the lines begin with the rows of these cells, one line for each row
unfoldable pub AreRows : ℕ → ℕ → List Terrain → List (List ℕ) → Type 0
AreRows width zero cells lines = cells ≡ []
AreRows width (suc rows) cells [] = ⊥
AreRows width (suc rows) cells (line ∷ lines) =
    IsRow width (take width cells) line × AreRows width rows (drop width cells) lines

-- one line gives the height and the other the width
abbrev pub AreSides : List ℕ → List ℕ → ℕ → ℕ → Type 0
AreSides one other width height =
    (number_named (codes "height") one ≡ Some height) × (number_named (codes "width") other ≡ Some width)

-- the first three lines give a width and a height that a map may have, in either order
pub record AreSidesGiven (lines : List (List ℕ)) (width height : ℕ) : Type 0 where
  pub kind : words_of (line_at lines 1) ≡ codes "type" ∷ codes "octile" ∷ []
  pub sides : AreSides (line_at lines 2) (line_at lines 3) width height
      ⊎ AreSides (line_at lines 3) (line_at lines 2) width height
  pub limits : IsWithinLimits width height

-- the first four lines are the header of a map with this width and height
pub record IsHeader (lines : List (List ℕ)) (width height : ℕ) : Type 0 where
  pub given : AreSidesGiven lines width height
  pub mark : words_of (line_at lines 4) ≡ codes "map" ∷ []

-- the text stands for the map
pub record IsMapText (text : List ℕ) (m : Map) : Type 0 where
  pub header : IsHeader (lines_of text) m.width m.height
  pub rows : AreRows m.width m.height m.terrain (drop 4 (lines_of text))
  pub few : IsSearchable m
  pub after : AllByRecursion (λ line. IsTrue (is_blank line)) (drop (4 + m.height) (lines_of text))

-- a text is accepted exactly when it stands for a map, and then as that map
abbrev pub AcceptsExactlyMapTexts : Type 0
AcceptsExactlyMapTexts = (text : List ℕ) (m : Map) → (map_of text ≡ Ok m) ↔ IsMapText text m
