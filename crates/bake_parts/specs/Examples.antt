-- The example of a part, word by word.
use Rattle.std.specs.Prelude.{ℕ, List, [], ◌∷◌}
use Rattle.bake_parts.specs.declared.sources.Sources.{Sources}

-- the last two cells of the first component
abbrev pub last_two : Sources
last_two = record { component = 0; first = 1; count = 2 }

-- their part of the image of the map `...`
abbrev pub last_two_words : List ℕ
last_two_words = 0 ∷ 1 ∷ 2 ∷ 2 ∷ 6 ∷ 18 ∷ 1 ∷ 6 ∷ []
