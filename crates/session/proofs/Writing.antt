-- The moves of a walk, written into the room of a reply as they are followed.
use Rattle.std.proofs.Common.{◌≡◌, ◌+◌, ◌-◌, ◌<◌, ◌≤◌, ℕ, List, [], ◌∷◌, ◌++◌, length, take, drop, map, None, Some, sym, ap, ap₂, ◌∙◌, length-append, arith}
use Rattle.std.proofs.Math.ListN.{set}
use Rattle.std.proofs.Math.Seq.{take-append-add}
use Rattle.std.proofs.lemmas.List.{append-nil, append_assoc, drop-append-le, drop-set-add, length-drop, length-take-le, take_more_set}
use Rattle.moves.specs.declared.Move.{Move}
use Rattle.moves.specs.Moves.{is_diagonal, number_of}
use Rattle.root_cost.specs.declared.Cost.{Cost}
use Rattle.root_cost.specs.Costs.{no_cost, plus_step}
use Rattle.query_proto.specs.declared.TheConstants.{MAX_MOVES}
use Rattle.walker.specs.Walks.{Advances, HasFewAhead, Walking}
use Rattle.walker.proofs.Following.{IsFollowed, followed_all, followed_more, followed_none}
use Rattle.walker.proofs.Measuring.{IsMeasured, measured_more, measured_none, turns_to_come}
use Rattle.session.specs.Answering.{AreBytesAhead}

-- ---- the room of a reply

module _ (room held : List ℕ) (front many : ℕ) (is : take many (drop front room) ≡ held) (inside : front + many ≤ length room) where
  -- there is a place for a byte more
  pub few_held : (most : ℕ) → length held < most → many < most
  few_held most few =
      let left = length-drop front room in
      let long = sym (ap (λ (l : List ℕ). length l) is) ∙ length-take-le many (drop front room) (omega arith) in
      omega arith

  -- a byte more is held behind those that were
  pub held_push : (byte then : ℕ) → front + many < length room → then ≡ byte
      → take (many + 1) (drop front (set room (front + many) then)) ≡ held ++ byte ∷ []
  held_push byte then place same =
      ap (λ (l : List ℕ). take (many + 1) l) (drop-set-add front room many then)
      ∙ take_more_set (drop front room) many then (let left = length-drop front room in omega arith)
      ∙ ap₂ (λ (l : List ℕ) b. l ++ b ∷ []) is same

  -- the head of a reply that ends where the moves begin, and behind it those that are held
  pub head_held : (edge head : List ℕ) (start : ℕ) → length edge ≡ front → start ≤ front → drop start edge ≡ head
      → take (front + many - start) (drop start (edge ++ drop front room)) ≡ head ++ held
  head_held edge head start long within same =
      let left = length-drop start edge in
      let count : front + many - start ≡ length (drop start edge) + many = omega arith in
      ap (λ (l : List ℕ). take (front + many - start) l) (drop-append-le start edge (drop front room) (omega arith))
      ∙ ap (λ n. take n (drop start edge ++ drop front room)) count
      ∙ take-append-add (drop start edge) (drop front room) many
      ∙ ap₂ (λ (a b : List ℕ). a ++ b) same is

-- ---- the moves of a walk

-- bytes that were written, and those of the moves that are left
abbrev written : List ℕ → List Move → List ℕ
written bytes rest = bytes ++ map number_of rest

-- a walk whose moves were written for some turns, and what they cost
pub record IsWritten (start walk : Walking) (cost : Cost) (bytes : List ℕ) (turns : ℕ) : Type 0 where
  pub measured : IsMeasured start walk cost turns
  pub followed : IsFollowed (map number_of) written start walk bytes turns
  pub many : length bytes ≡ turns

pub written_none : (start : Walking) (bytes : List ℕ) → bytes ≡ [] → HasFewAhead start → IsWritten start start no_cost bytes 0
written_none start bytes none few = record {
  measured = measured_none start few;
  followed = followed_none (map number_of) written start bytes (λ moves. sym (ap (λ (l : List ℕ). l ++ map number_of moves) none)) few;
  many = ap (λ (l : List ℕ). length l) none;
}

module _ (start walk : Walking) (cost : Cost) (bytes : List ℕ) (turns : ℕ) (p : IsWritten start walk cost bytes turns) where
  pub written_more : (next : Walking) (move : Move) → Advances walk next (Some move)
      → IsWritten start next (plus_step cost (is_diagonal move)) (bytes ++ number_of move ∷ []) (turns + 1)
  written_more next move step = record {
    measured = measured_more start walk cost turns p.measured next move step;
    followed = followed_more (map number_of) written start walk bytes turns p.followed next (bytes ++ number_of move ∷ []) move step
        (λ rest. sym (append_assoc bytes (number_of move ∷ []) (map number_of rest)));
    many = let push = length-append bytes (number_of move ∷ []) in let many = p.many in omega arith;
  }

  -- there is room for a move that is ahead
  pub has_room : (next : Walking) (move : Move) → Advances walk next (Some move) → length bytes < MAX_MOVES
  has_room next move step =
      let more = written_more next move step in
      let left = turns_to_come start next (plus_step cost (is_diagonal move)) (turns + 1) more.measured in
      let many = p.many in
      omega arith

  pub bytes_all : (next : Walking) → Advances walk next None → AreBytesAhead start bytes
  bytes_all next step moves ahead =
      sym (followed_all (map number_of) written start walk bytes turns p.followed next step moves ahead ∙ append-nil bytes)
