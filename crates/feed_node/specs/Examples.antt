-- A history for examples.
use Rattle.std.specs.Prelude.{List, [], ◌∷◌}
use Rattle.path_core.specs.declared.entry.Entry.{Entry}
use Rattle.path_core.specs.declared.entry.Entry.TheVariants.{Accept}
use Rattle.follow_proto.specs.Examples.{first_blocked}

-- one edit was accepted, which blocks the upper left cell
abbrev pub one_accepted : List Entry
one_accepted = Accept 0 first_blocked ∷ []
