-- A field that is reached, and is not as it has to be.
use Rattle.std.proofs.Common.{◌≡◌, ℕ, ◌^◌, ◌<◌, List, [], ◌∷◌, ◌++◌, length, refl, sym, ap, ◌∙◌, subst}
use Rattle.path_file.specs.declared.fault.DbFault.{DbFault}
use Rattle.path_file.specs.Files.{number_bytes}
use Rattle.path_file.specs.Fields.{Field, HasField, IsReached, front_of, size_of}
use Rattle.path_file.specs.Faults.{HasByte, HasNumber, IsFirstDbFault}
use Rattle.path_file.specs.Readings.{Reading, IsCutAt, Passes, front, rest}
use Rattle.path_file.proofs.Passing.{both, passed_rest}

module _ (r : Reading) (field : Field) (reached : IsReached field) (at : front r ≡ front_of field) where
  pub field_here : (IsSo : List ℕ → Type 0) → IsSo (rest r) → HasField r.bytes field IsSo
  field_here IsSo so = record { reached = reached; rest = rest r; split = both r ∙ ap (λ l. l ++ rest r) at; so = so }

  -- the bytes end inside it
  pub cut_here : (fault : DbFault) (size : ℕ) → size ≡ size_of field → IsCutAt r size fault → IsFirstDbFault r.bytes fault
  cut_here fault size is cut =
      subst (IsFirstDbFault r.bytes) (sym cut.is) (
        refl,
        record { field = field; end = field_here (λ rest. length rest < size_of field) (subst (λ n. length (rest r) < n) is cut.short) },
      )

  -- it is this number
  pub number_here : (new : Reading) (n : ℕ) (IsSo : ℕ → Type 0) → n < 2 ^ 32 → Passes r new (number_bytes n) → IsSo n → HasField r.bytes field (HasNumber IsSo)
  number_here new n IsSo fits passed so =
      field_here (HasNumber IsSo) (record { number = n; fits = fits; after = rest new; is = passed_rest r new (number_bytes n) passed; so = so })

  -- it is this byte
  pub byte_here : (new : Reading) (byte : ℕ) → Passes r new (byte ∷ []) → HasField r.bytes field (HasByte byte)
  byte_here new byte passed = field_here (HasByte byte) (record { after = rest new; is = passed_rest r new (byte ∷ []) passed })
