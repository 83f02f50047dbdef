-- Words of the contracts inside this crate: a text on its way through a buffer to a sink.
use Rattle.std.specs.Prelude.{◌≡◌, ℕ, List, ◌++◌, map, Option}
use Rattle.std.specs.Io.KnownBytes.{Appends}
use Rattle.run_pack.specs.declared.Run.{Run}
use Rattle.row_store.specs.Comps.{Comp}
use Rattle.wire.specs.Contents.{PutsPrefix}

-- the rows of components
abbrev pub rows_of_comps : List Comp → List (List (List Run))
rows_of_comps comps = map (λ comp. comp.rows) comps

-- what was held and the text are put, but for what is held then
pub record Writes (before after : Option (List ℕ)) (held now text : List ℕ) : Type 0 where
  pub out : List ℕ
  pub put : Appends before after out
  pub split : held ++ text ≡ out ++ now

-- of what was held and the text a first part is put
abbrev pub PutsSome : Option (List ℕ) → Option (List ℕ) → List ℕ → List ℕ → Type 0
PutsSome before after held text = PutsPrefix before after (held ++ text)
