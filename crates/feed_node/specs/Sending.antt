-- A text on its way through a parcel to a link.
use Rattle.std.specs.Prelude.{◌≡◌, ℕ, List, ◌++◌, Option}
use Rattle.wire.specs.Talks.{SendsPrefix, Talk, with_sent}

-- what was held and the text are sent, but for what is held then
pub record Writes (before after : Option Talk) (held now text : List ℕ) : Type 0 where
  pub out : List ℕ
  pub sent : after ≡ with_sent before out
  pub split : held ++ text ≡ out ++ now

-- of what was held and the text less than all is sent
abbrev pub SendsSome : Option Talk → Option Talk → List ℕ → List ℕ → Type 0
SendsSome before after held text = SendsPrefix before after (held ++ text)
