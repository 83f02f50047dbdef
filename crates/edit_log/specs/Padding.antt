-- How an edit is stored: its changes, followed by blank ones up to the most that an edit may have.
use Rattle.std.specs.Prelude.{◌≡◌, ℕ, ◌-◌, ◌≤◌, List, ◌++◌, length, replicate, take}
use Rattle.std.proofs.Common.{arith, ap, sym}
use Rattle.std.proofs.lemmas.List.{length-append, length-replicate, length-take}
use Rattle.moves.specs.declared.Terrain.TheVariants.{Blocked}
use Rattle.edit_log.specs.declared.TheConstants.{MAX_CHANGES}
use Rattle.edit_log.specs.declared.edit.CellChange.{CellChange}
use Rattle.edit_log.specs.declared.edit.Edit.TheInside.{Inside}

abbrev pub no_change : CellChange
no_change = record { cell = record { x = 0; y = 0 }; terrain = Blocked }

-- the changes, followed by blank ones
abbrev pub padded : List CellChange → List CellChange
padded changes = changes ++ replicate (MAX_CHANGES - length changes) no_change

-- the first `count` of the list are changes, and the others are blank
pub record IsPadded (all : List CellChange) (count : ℕ) : Type 0 where
  pub some : 1 ≤ count
  pub few : count ≤ MAX_CHANGES
  pub rest : all ≡ padded (take count all)

pub first_so_many : (all : List CellChange) (count : ℕ) → IsPadded all count → length (take count all) ≡ count
first_so_many all count is =
    let blank : List CellChange = replicate (MAX_CHANGES - length (take count all)) no_change in
    let l : length all ≡ length (take count all ++ blank) = ap length is.rest in
    let blanks : length blank ≡ MAX_CHANGES - length (take count all) =
    length-replicate (MAX_CHANGES - length (take count all)) no_change in
    omega (arith, l, length-append (take count all) blank, blanks, length-take count all, is.few)

-- an edit is rebuilt from its changes
pub padded_again : (edit : Inside) → IsPadded edit.changes edit.count
    → record { changes = padded (take edit.count edit.changes); count = length (take edit.count edit.changes) } ≡ edit
padded_again edit is = λ i. record { changes = sym is.rest i; count = first_so_many edit.changes edit.count is i }
