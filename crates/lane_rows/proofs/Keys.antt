-- The least key that the moves offer.
use Rattle.std.proofs.Common.{◌≡◌, ℕ, ◌+◌, ◌%◌, ◌^◌, ◌≤◌, ◌⊎◌, Bool, true, false, cond, eqb, min, List, inl, inr, refl, sym, ap, ◌∙◌, arith, eq-eqb, eqb-true}
use Rattle.std.proofs.lemmas.Bool.{cases_lt}
use Rattle.moves.specs.declared.Move.{Move}
use Rattle.moves.specs.declared.Move.TheVariants.{N, NE, E, SE, S, SW, W, NW}
use Rattle.lane_rows.specs.Tables.{end_of}
use Rattle.lane_rows.specs.Equations.{far, offered, MeetsKey}

one_of : (a b : ℕ) → (min a b ≡ a) ⊎ (min a b ≡ b)
one_of a b = elim (cases_lt a b) [ inl h ↦ inl (omega arith) | inr h ↦ inr (omega arith) ]

-- the least of four is one of them
data Least (m a b c d : ℕ) : Type 0 where
  first : m ≡ a → Least m a b c d
  second : m ≡ b → Least m a b c d
  third : m ≡ c → Least m a b c d
  fourth : m ≡ d → Least m a b c d

least : (m a b c d : ℕ) → m ≡ min (min a b) (min c d) → Least m a b c d
least m a b c d e = elim (one_of (min a b) (min c d)) [
  | inl p ↦ elim (one_of a b) [ inl q ↦ first (e ∙ p ∙ q) | inr q ↦ second (e ∙ p ∙ q) ]
  | inr p ↦ elim (one_of c d) [ inl q ↦ third (e ∙ p ∙ q) | inr q ↦ fourth (e ∙ p ∙ q) ]
]

pub least_attained : (edges : List ℕ) (keys : ℕ → ℕ) (r a b s d : ℕ) → ((place : ℕ) → keys place ≤ far) → r ≡ min a b → a ≡ (s + 33461) % 2 ^ 32 → b ≡ (d + 47321) % 2 ^ 32
    → s ≡ min (min (keys (end_of edges N)) (keys (end_of edges E))) (min (keys (end_of edges S)) (keys (end_of edges W)))
    → d ≡ min (min (keys (end_of edges NE)) (keys (end_of edges SE))) (min (keys (end_of edges SW)) (keys (end_of edges NW)))
    → (move : Move) × (r ≡ offered edges keys move)
least_attained edges keys r a b s d range e p q f g =
    let low : s ≤ far = omega (arith, range (end_of edges N)) in
    let high : d ≤ far = omega (arith, range (end_of edges NE)) in
    let a_is : a ≡ s + 33461 = omega arith in
    let b_is : b ≡ d + 47321 = omega arith in
    elim (one_of a b) [
      | inl h ↦ elim (least _ _ _ _ _ f) [
        | first i ↦ (N, omega arith)
        | second i ↦ (E, omega arith)
        | third i ↦ (S, omega arith)
        | fourth i ↦ (W, omega arith)
      ]
      | inr h ↦ elim (least _ _ _ _ _ g) [
        | first i ↦ (NE, omega arith)
        | second i ↦ (SE, omega arith)
        | third i ↦ (SW, omega arith)
        | fourth i ↦ (NW, omega arith)
      ]
    ]

pub meets_key : (edges : List ℕ) (keys : ℕ → ℕ) (source place low cap r : ℕ) → ((move : Move) → low ≤ offered edges keys move) → ((move : Move) × (low ≡ offered edges keys move))
    → cap ≡ cond (eqb source place) 0 far → r ≡ min low cap → MeetsKey edges source keys place r
meets_key edges keys source place low cap r at_most attained c e = record {
  start = λ same. let t : eqb source place ≡ true = eq-eqb source place (sym same) in let z : cap ≡ 0 = c ∙ ap (λ b. cond b 0 far) t in omega arith;
  at_most = λ move. let h = at_most move in omega arith;
  attained = λ other. go (eqb source place) refl other;
}
  where
    go : (t : Bool) → eqb source place ≡ t → (place ≡ source → ⊥) → (r ≡ far) ⊎ ((move : Move) × (r ≡ offered edges keys move))
    go true t other = absurd (other (sym (eqb-true _ _ t)))
    go false t other =
        let z : cap ≡ far = c ∙ ap (λ b. cond b 0 far) t in
        elim (one_of low cap) [ inl h ↦ inr (attained.0, e ∙ h ∙ attained.1) | inr h ↦ inl (e ∙ h ∙ z) ]
