-- Whether one move alone comes down, found neighbour by neighbour.
use Rattle.std.proofs.Common.{◌≡◌, ℕ, ◌+◌, ◌<◌, List, length, get_or, Option, None, Some, IfSome, refl, sym, ap, subst, ◌∙◌, inl, inr, arith}
use Rattle.std.proofs.lemmas.Bool.{cases_lt}
use Rattle.std.proofs.lemmas.List.{get_or_default}
use Rattle.moves.specs.declared.Cell.{Cell}
use Rattle.moves.specs.declared.Move.{Move}
use Rattle.moves.specs.declared.Move.TheVariants.{N, S}
use Rattle.moves.specs.Maps.{Map}
use Rattle.moves.specs.Neighbours.{AreNeighbours}
use Rattle.grid_search.specs.Keys.{key_at, move_key}
use Rattle.walk_rows.specs.Walks.{ComesDown, IsAlone}

-- the move of a pair comes down to a cell with a key
abbrev pub Descends : ℕ → List ℕ → ℕ → Move × Cell → Type 0
Descends width keys key pair = key_at width keys pair.1 + move_key pair.0 ≡ key

-- each of the first so many pairs that comes down has the move that was found
pub record IsAloneSoFar (width : ℕ) (keys : List ℕ) (key : ℕ) (found : List (Move × Cell)) (upto : ℕ) (alone : Option Move) : Type 0 where
  pub each : (place : ℕ) (d : Move × Cell) → place < upto → Descends width keys key (get_or found place d) → alone ≡ Some (get_or found place d).0

abbrev pub filler : Move × Cell
filler = (N, record { x = 0; y = 0 })

move_or : Move → Option Move → Move
move_or other None = other
move_or other (Some move) = move

apart_moves : N ≡ S → ⊥
apart_moves same = absurd (let e = ap number same in omega arith)
  where
    number : Move → ℕ
    number N = 0
    number _ = 1

none_is_none : (move : Move) → None ≡ Some move → ⊥
unfolding move_or
none_is_none move same = apart_moves (ap (move_or N) same ∙ sym (ap (move_or S) same))

pub same_move_some : (a b : Move) → Some a ≡ Some b → a ≡ b
unfolding move_or
same_move_some a b same = ap (move_or a) same

module _ (width : ℕ) (keys : List ℕ) (key : ℕ) (found : List (Move × Cell)) where
  pub so_far_none : (alone : Option Move) → IsAloneSoFar width keys key found 0 alone
  so_far_none alone = record { each = λ place d less. absurd (omega arith) }

  -- one more comes down, the first
  pub so_far_one : (upto : ℕ) (filler : Move × Cell) → upto < length found → IsAloneSoFar width keys key found upto None
      → IsAloneSoFar width keys key found (upto + 1) (Some (get_or found upto filler).0)
  so_far_one upto filler within p = record {
    each = λ place d less down. elim (cases_lt place upto) [
      | inl before ↦ absurd (none_is_none (get_or found place d).0 (p.each place d before down))
      | inr from ↦
          let same : upto ≡ place = omega arith in
          ap (λ pair. Some pair.0) (get_or_default found upto filler d within ∙ ap (λ k. get_or found k d) same)
    ];
  }

  -- one more does not come down
  pub so_far_past : (upto : ℕ) (filler : Move × Cell) (alone : Option Move) → upto < length found → IsAloneSoFar width keys key found upto alone
      → (Descends width keys key (get_or found upto filler) → ⊥) → IsAloneSoFar width keys key found (upto + 1) alone
  so_far_past upto filler alone within p past = record {
    each = λ place d less down. elim (cases_lt place upto) [
      | inl before ↦ p.each place d before down
      | inr from ↦
          let same : place ≡ upto = omega arith in
          absurd (past (subst (Descends width keys key) (ap (λ k. get_or found k d) same ∙ get_or_default found upto d filler within) down))
    ];
  }

-- no other move comes down
pub so_far_all : (map : Map) (from : Cell) (keys : List ℕ) (width key : ℕ) (found : List (Move × Cell)) (move : Move) → AreNeighbours map from found
    → width ≡ map.width → key ≡ key_at width keys from → IsAloneSoFar width keys key found (length found) (Some move) → IsAlone map keys from move
so_far_all map from keys width key found move near wide key_is p = λ other down.
    let has = near.every other down.next down.legal in
    let same : get_or found has.0 (other, down.next) ≡ (other, down.next) = has.2 in
    let comes : Descends width keys key (other, down.next) =
    subst (λ w. key_at w keys down.next + move_key other ≡ key) (sym wide) (down.down ∙ sym (key_is ∙ ap (λ w. key_at w keys from) wide)) in
    let found_it = p.each has.0 (other, down.next) has.1 (subst (Descends width keys key) (sym same) comes) in
    sym (same_move_some move other (found_it ∙ ap (λ pair. Some pair.0) same))

pub alone_if_some : (map : Map) (from : Cell) (keys : List ℕ) (width key : ℕ) (found : List (Move × Cell)) (alone : Option Move) → AreNeighbours map from found
    → width ≡ map.width → key ≡ key_at width keys from → IsAloneSoFar width keys key found (length found) alone → IfSome alone (IsAlone map keys from)
alone_if_some map from keys width key found None near wide key_is p = tt
alone_if_some map from keys width key found (Some move) near wide key_is p = so_far_all map from keys width key found move near wide key_is p
