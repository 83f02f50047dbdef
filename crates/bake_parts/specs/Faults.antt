-- Why nothing was baked.
use Rattle.std.specs.Prelude.{◌≡◌, ℕ, ◌<◌, List, ◌++◌, codes, length}
use Rattle.std.specs.Fmt.{decimal}
use Rattle.versions.specs.Databases.{Versioned}
use Rattle.bake_parts.specs.declared.sources.Sources.{Sources}
use Rattle.bake_parts.specs.declared.fault.PartFault.{PartFault}
use Rattle.bake_parts.specs.declared.fault.PartFault.TheVariants.{NoSources, TooSmall, NoMemory}
use Rattle.bake_parts.specs.Parts.{IsFirstVersion, part_of}
use Rattle.bake_parts.specs.Plans.{Planned, AreNoSources}

-- why no part was written, in words
abbrev pub part_fault_text : PartFault → List ℕ
part_fault_text NoSources = codes "no such sources"
part_fault_text (TooSmall needed) = codes "room for too few words of " ++ decimal needed
part_fault_text NoMemory = codes "out of memory"

-- a room of so many words is too small for the part, which has so many as are needed
pub record IsTooSmallFor (plan : Planned) (sources : Sources) (size needed : ℕ) : Type 0 where
  pub small : size < needed
  pub needs : (version : Versioned) → IsFirstVersion plan.on plan.order version → needed ≡ length (part_of version sources)

-- the cause of each fault; want of memory alone is free
abbrev pub IsPartFaultOf : Planned → Sources → ℕ → PartFault → Type 0
IsPartFaultOf plan sources size NoSources = AreNoSources plan sources
IsPartFaultOf plan sources size (TooSmall needed) = IsTooSmallFor plan sources size needed
IsPartFaultOf plan sources size NoMemory = Unit {0}
