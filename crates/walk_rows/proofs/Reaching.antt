-- Whether a path leads from one cell to another can be decided: no best path has as many moves as there are passable cells.
use Rattle.std.proofs.Common.{◌≡◌, ℕ, zero, suc, ◌<◌, ◌≤◌, ◌⊎◌, List, [], ◌∷◌, length, sym, subst, ◌∙◌, inl, inr, arith}
use Rattle.std.proofs.lemmas.Bool.{cases_eq}
use Rattle.moves.specs.declared.Cell.{Cell}
use Rattle.moves.specs.declared.Move.{Move}
use Rattle.moves.specs.Maps.{Map, passable_cells}
use Rattle.moves.specs.Moves.{number_of, IsLegal}
use Rattle.moves.specs.Paths.{Leads, Reaches}
use Rattle.moves.specs.ComponentLaws.{IsListed}
use Rattle.moves.proofs.BestPaths.{best_path_exists, legal_or_not, passable_or_not}
use Rattle.moves.proofs.LawsOfPaths.{leads_from}
use Rattle.moves.proofs.MoveLaws.{number_below, same_move, same_target}
use Rattle.moves.proofs.MovesInSets.{move_with}
use Rattle.moves.proofs.TableLaws.{same_or_apart}
use Rattle.versions.proofs.Walking.{fewer_moves}

-- a path of at most that many moves leads there
record IsWithin (map : Map) (n : ℕ) (a b : Cell) : Type 0 where
  moves : List Move
  few : length moves ≤ n
  path : Leads map a moves b

abbrev Decided : Type 0 → Type 0
Decided P = P ⊎ (P → ⊥)

module _ (map : Map) (b : Cell) (n : ℕ) (shorter : (c : Cell) → Decided (IsWithin map n c b)) (a : Cell) where
  -- such a path that begins with a move whose number is below k
  record BeginsBelow (k : ℕ) : Type 0 where
    move : Move
    low : number_of move < k
    next : Cell
    legal : IsLegal map a move next
    rest : IsWithin map n next b

  below_or_not : (k : ℕ) → k ≤ 8 → Decided (BeginsBelow k)
  below_or_not zero few = inr (λ h. let low = h.low in omega arith)
  below_or_not (suc k) few = elim (below_or_not k (omega arith)) [
    | inl h ↦ inl (record { move = h.move; low = (let low = h.low in omega arith); next = h.next; legal = h.legal; rest = h.rest })
    | inr none ↦
        let m = move_with k (omega arith) in
        let or_below : (h : BeginsBelow (suc k)) → (h.move ≡ m.0 → ⊥) → ⊥ = λ h other.
        none (record {
          move = h.move;
          low = elim (cases_eq (number_of h.move) k) [ inl same ↦ absurd (other (same_move h.move m.0 (same ∙ sym m.1))) | inr apart ↦ (let low = h.low in omega arith) ];
          next = h.next;
          legal = h.legal;
          rest = h.rest;
        }) in
        elim (legal_or_not map a m.0) [
          | inr blocked ↦ inr (λ h. or_below h (λ same. blocked h.next (subst (λ move. IsLegal map a move h.next) same h.legal)))
          | inl (next, legal) ↦ elim (shorter next) [
            | inl rest ↦ inl (record { move = m.0; low = (let at = m.1 in omega arith); next = next; legal = legal; rest = rest })
            | inr far ↦ inr (λ h. or_below h (λ same.
                far (subst (λ c. IsWithin map n c b) (same_target a m.0 h.next next (subst (λ move. IsLegal map a move h.next) same h.legal).target legal.target) h.rest)))
          ]
        ]
  ]

  one_more : Decided (IsWithin map (suc n) a b)
  one_more = elim (below_or_not 8 (omega arith)) [
    | inl h ↦ inl (record { moves = h.move ∷ h.rest.moves; few = (let few = h.rest.few in omega arith); path = (h.next, h.legal, h.rest.path) })
    | inr none ↦ elim (same_or_apart a b) [
      | inr apart ↦ inr (λ h. begun h.moves h.few h.path apart none)
      | inl same ↦ elim (passable_or_not map a) [
        | inl free ↦ inl (record { moves = []; few = omega arith; path = (free, same) })
        | inr blocked ↦ inr (λ h. blocked (leads_from map a b h.moves h.path))
      ]
    ]
  ]
    where
      begun : (moves : List Move) → length moves ≤ suc n → Leads map a moves b → (a ≡ b → ⊥) → (BeginsBelow 8 → ⊥) → ⊥
      begun [] few path apart none = apart path.1
      begun (move ∷ rest) few path apart none =
          none (record { move = move; low = number_below move; next = path.0; legal = path.1; rest = record { moves = rest; few = omega arith; path = path.2 } })

within_or_not : (map : Map) (n : ℕ) (a b : Cell) → Decided (IsWithin map n a b)
within_or_not map zero a b = elim (same_or_apart a b) [
  | inr apart ↦ inr (λ h. staying h.moves h.few h.path apart)
  | inl same ↦ elim (passable_or_not map a) [
    | inl free ↦ inl (record { moves = []; few = omega arith; path = (free, same) })
    | inr blocked ↦ inr (λ h. blocked (leads_from map a b h.moves h.path))
  ]
]
  where
    staying : (moves : List Move) → length moves ≤ 0 → Leads map a moves b → (a ≡ b → ⊥) → ⊥
    staying [] few path apart = apart path.1
    staying (move ∷ rest) few path apart = absurd (omega arith)
within_or_not map (suc n) a b = one_more map b n (λ c. within_or_not map n c b) a

-- a path leads there, or none does
pub reaches_or_not : (map : Map) → IsListed map → (a b : Cell) → Reaches map a b ⊎ (Reaches map a b → ⊥)
reaches_or_not map listed a b = elim (within_or_not map (length (passable_cells map)) a b) [
  | inl h ↦ inl (h.moves, h.path)
  | inr none ↦ inr (λ reach.
      let best = best_path_exists map a b reach in
      let few = fewer_moves map b a best.0 (passable_cells map) best.1 (λ cell others its less. (listed.just_these cell).1 (leads_from map cell b others its.leads)) in
      none (record { moves = best.0; few = omega arith; path = best.1.leads }))
]
