-- Legal histories, step by step.
use Rattle.std.proofs.Common.{◌≡◌, ◌⊎◌, inl, inr, List, [], ◌∷◌, ◌++◌, subst, refl, sym, ap, ◌∙◌}
use Rattle.std.proofs.lemmas.List.{append_assoc, append-nil}
use Rattle.moves.specs.Maps.{Map}
use Rattle.path_core.specs.declared.entry.Entry.{Entry}
use Rattle.path_core.specs.Histories.{IsLegal, MayFollow}
use Rattle.path_core.specs.HistoryLaws.{BeginningsAreLegal, LegalStepByStep}

pub beginnings_are_legal : BeginningsAreLegal
unfolding IsLegal
beginnings_are_legal start history more legal =
    λ before entry later is. legal before entry (later ++ more) (ap (λ h. h ++ more) is ∙ append_assoc before (entry ∷ later) more)

-- no list is empty that has an entry
not_empty : (before : List Entry) (entry : Entry) (later : List Entry) → [] ≡ before ++ entry ∷ later → ⊥
not_empty [] entry later is = cc
not_empty (first ∷ before) entry later is = cc

pub none_is_legal : (start : Map) → IsLegal start []
unfolding IsLegal
none_is_legal start = λ before entry later is. absurd (not_empty before entry later is)

-- where an entry of a list with one more at its end stands: it is that one, or one of the others
record IsLast (history : List Entry) (last : Entry) (before : List Entry) (entry : Entry) : Type 0 where
  pub before_is : before ≡ history
  pub entry_is : entry ≡ last

record IsEarlier (history before : List Entry) (entry : Entry) : Type 0 where
  pub later : List Entry
  pub is : history ≡ before ++ entry ∷ later

split : (history before : List Entry) (last entry : Entry) (later : List Entry) → history ++ last ∷ [] ≡ before ++ entry ∷ later
    → IsLast history last before entry ⊎ IsEarlier history before entry
split [] [] last entry later is = let e : entry ≡ last = cc in inl (record { before_is = refl; entry_is = e })
split [] (b ∷ before) last entry later is = let e : [] ≡ before ++ entry ∷ later = cc in absurd (not_empty before entry later e)
split (h ∷ history) [] last entry later is =
    let e : h ∷ history ≡ [] ++ entry ∷ history = let f : h ≡ entry = cc in ap (λ x. x ∷ history) f in
    inr (record { later = history; is = e })
split (h ∷ history) (b ∷ before) last entry later is =
    let first : h ≡ b = cc in
    let rest : history ++ last ∷ [] ≡ before ++ entry ∷ later = cc in
    elim (split history before last entry later rest) [
      | inl a ↦ inl (record { before_is = let e : before ≡ history = a.before_is in let r : b ∷ before ≡ h ∷ history = cc in r; entry_is = a.entry_is })
      | inr a ↦ inr (record { later = a.later; is = let e : history ≡ before ++ entry ∷ a.later = a.is in let r : h ∷ history ≡ b ∷ (before ++ entry ∷ a.later) = cc in r })
    ]

pub one_more_is_legal : (start : Map) (history : List Entry) (entry : Entry) → IsLegal start history → MayFollow start history entry
    → IsLegal start (history ++ entry ∷ [])
unfolding IsLegal
one_more_is_legal start history last legal follows = λ before entry later is. elim (split history before last entry later is) [
  | inl a ↦ rw (a.before_is, a.entry_is) follows
  | inr a ↦ legal before entry a.later a.is
]

pub last_may_follow : (start : Map) (history : List Entry) (entry : Entry) → IsLegal start (history ++ entry ∷ []) → MayFollow start history entry
unfolding IsLegal
last_may_follow start history entry legal = legal history entry [] refl

pub legal_step_by_step : LegalStepByStep
legal_step_by_step start = record {
  none = none_is_legal start;
  step = λ history entry. (
    λ legal. (beginnings_are_legal start history (entry ∷ []) legal, last_may_follow start history entry legal),
    λ both. one_more_is_legal start history entry both.0 both.1,
  );
}

-- what each further entry keeps holds of a legal history from there on
pub onward : (start : Map) (P : List Entry → Type 0)
    → ((history : List Entry) (entry : Entry) → IsLegal start history → MayFollow start history entry → P history → P (history ++ entry ∷ []))
    → (history more : List Entry) → IsLegal start (history ++ more) → P history → P (history ++ more)
onward start P step history [] legal holds = subst P (sym (append-nil history)) holds
onward start P step history (entry ∷ more) legal holds =
    let assoc : history ++ entry ∷ [] ++ more ≡ history ++ entry ∷ more = append_assoc history (entry ∷ []) more in
    let whole : IsLegal start (history ++ entry ∷ [] ++ more) = subst (IsLegal start) (sym assoc) legal in
    let here : IsLegal start (history ++ entry ∷ []) = beginnings_are_legal start (history ++ entry ∷ []) more whole in
    let next : P (history ++ entry ∷ []) =
    step history entry (beginnings_are_legal start history (entry ∷ []) here) (last_may_follow start history entry here) holds in
    subst P assoc (onward start P step (history ++ entry ∷ []) more whole next)
