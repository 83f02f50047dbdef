use Rattle.std.proofs.Common.{◌≡◌, All, None, length, map}
use Rattle.std.specs.Arc.{arc_value}
use Rattle.std.specs.Option.{option_map}
use Rattle.version_build.proofs.planning.share_none.Given as goal

abbrev pub invariant-loop : goal.invariant-loop
invariant-loop l = All (λ comp. comp ≡ None) (map (option_map arc_value) l.comps.items) × (length l.comps.items ≡ l.counter)
