-- Laws of the files of versions.
use Rattle.std.specs.Prelude.{◌≡◌}
use Rattle.versions.specs.Databases.{Versioned}
use Rattle.path_file.specs.declared.fault.DbFault.{DbFault}
use Rattle.path_file.specs.Files.{HasFile, file_of}
use Rattle.path_file.specs.Faults.{IsFirstDbFault}

-- the file of a version has no fault
abbrev pub FilesOfVersionsHaveNoFault : Type 0
FilesOfVersionsHaveNoFault = (version : Versioned) → HasFile version → (fault : DbFault) → IsFirstDbFault (file_of version) fault → ⊥

-- two versions with one file are one
abbrev pub FilesAreOfOneVersion : Type 0
FilesAreOfOneVersion = (a b : Versioned) → HasFile a → HasFile b → file_of a ≡ file_of b → a ≡ b
