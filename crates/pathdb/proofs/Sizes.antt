-- Sizes of components that are put into a room.
use Rattle.std.proofs.Common.{◌≡◌, ℕ, ◌+◌, ◌<◌, List, length, get_or, set, refl, sym, ap, subst, inl, inr, arith, ◌∙◌}
use Rattle.std.proofs.lemmas.Bool.{cases_lt}
use Rattle.std.proofs.lemmas.List.{get_or-set_other, get_or-set_same, length-set}
use Rattle.bake_parts.specs.Plans.{Planned}
use Rattle.pathdb.specs.Parts.{HasSize}

-- the first of them stand in a room of so many places
pub record AreSizes (plan : Planned) (room : List ℕ) (count long : ℕ) : Type 0 where
  pub whole : length room ≡ long
  pub each : (number : ℕ) → number < count → HasSize plan number (get_or room number 0)

pub sizes_none : (plan : Planned) (room : List ℕ) → AreSizes plan room 0 (length room)
sizes_none plan room = record { whole = refl; each = λ number less. absurd (omega arith) }

-- one more
pub sizes_more : (plan : Planned) (room new : List ℕ) (count long size : ℕ) → AreSizes plan room count long → count < long
    → HasSize plan count size → new ≡ set room count size → AreSizes plan new (count + 1) long
sizes_more plan room new count long size p within is same =
    let whole = p.whole in
    record {
      whole = ap length same ∙ length-set room count size ∙ whole;
      each = λ number less. subst (λ xs. HasSize plan number (get_or xs number 0)) (sym same)
          (elim (cases_lt number count) [
            | inl early ↦ subst (HasSize plan number) (sym (get_or-set_other room count number size 0 (omega arith))) (p.each number early)
            | inr late ↦
                let here : count ≡ number = omega arith in
                let read = get_or-set_same room count size 0 (omega arith) in
                subst (λ k. HasSize plan k (get_or (set room count size) k 0)) here (subst (HasSize plan count) (sym read) is)
          ]);
    }
