-- Bytes that are the numbers of moves, and what the moves cost.
use Rattle.std.proofs.Common.{◌≡◌, ℕ, ◌+◌, ◌-◌, ◌^◌, ◌<◌, ◌≤◌, List, [], ◌∷◌, ◌++◌, length, map, take, drop, slice_index, get_or, Some, suc, zero, refl, sym, subst, ap, ap₂, ◌∙◌, arith}
use Rattle.std.proofs.lemmas.List.{length-drop, length-map, length-take-le, map-append, take_all, take_more}
use Rattle.root_cost.specs.declared.Cost.{Cost}
use Rattle.root_cost.specs.Costs.{no_cost, plus_step}
use Rattle.moves.specs.declared.Move.{Move}
use Rattle.moves.specs.Moves.{number_of, is_diagonal}
use Rattle.moves.specs.Paths.{cost_of}
use Rattle.moves.proofs.CostsOfPaths.{cost_of-push, moves_of_cost}
use Rattle.moves.proofs.MoveLaws.{number_below, same_move}
use borrow.Rule.Slice.PartMut.{mid_of}
use Rattle.byteorder.specs.Endian.{big_bytes, big_number}
use Rattle.byteorder.specs.Numbers.{big_number-reads_back}
use Rattle.query_proto.specs.declared.kinds.TheConstants as kind
use Rattle.query_proto.specs.declared.replies.Reply.{Reply}
use Rattle.query_proto.specs.declared.replies.Reply.TheVariants as reply
use Rattle.query_proto.specs.Frames.{IsReplyFrame, IsSpelledCost}

-- the first bytes are the numbers of moves, which cost so much
pub record IsSpelled (bytes : List ℕ) (count : ℕ) (cost : Cost) : Type 0 where
  pub moves : List Move
  pub spelled : take count bytes ≡ map number_of moves
  pub costs : cost_of moves ≡ cost

pub spelled_none : (bytes : List ℕ) → IsSpelled bytes 0 no_cost
spelled_none bytes = record { moves = []; spelled = refl; costs = refl }

pub spelled_more : (bytes : List ℕ) (count d : ℕ) (cost : Cost) (move : Move) → IsSpelled bytes count cost → count < length bytes
    → number_of move ≡ get_or bytes count d → IsSpelled bytes (count + 1) (plus_step cost (is_diagonal move))
spelled_more bytes count d cost move p below is = record {
  moves = p.moves ++ move ∷ [];
  spelled = take_more bytes count d below ∙ ap₂ (λ l n. l ++ n ∷ []) p.spelled (sym is) ∙ sym (map-append number_of p.moves (move ∷ []));
  costs = cost_of-push p.moves move ∙ ap (λ c. plus_step c (is_diagonal move)) p.costs;
}

-- no more moves than bytes
pub spelled_few : (bytes : List ℕ) (count : ℕ) (cost : Cost) → IsSpelled bytes count cost → count ≤ length bytes → cost.straight + cost.diagonal ≡ count
spelled_few bytes count cost p within =
    subst (λ c. c.straight + c.diagonal ≡ count) p.costs
    (moves_of_cost p.moves ∙ sym (length-map p.moves number_of) ∙ ap length (sym p.spelled) ∙ length-take-le count bytes within)

-- a number of a move is below 8
number_at_below : (moves : List Move) (place : ℕ) → place < length moves → (d : ℕ) → get_or (map number_of moves) place d < 8
number_at_below [] place h d = absurd (omega arith)
number_at_below (move ∷ moves) zero h d = number_below move
number_at_below (move ∷ moves) (suc place) h d = number_at_below moves place (omega arith) d

pub spelled_stuck : (bytes : List ℕ) (count d : ℕ) → count < length bytes → 7 < get_or bytes count d
    → (moves : List Move) → bytes ≡ map number_of moves → ⊥
spelled_stuck bytes count d below high moves e =
    let size : length bytes ≡ length moves = ap length e ∙ length-map moves number_of in
    let low = number_at_below moves count (omega arith) d in
    let same : get_or bytes count d ≡ get_or (map number_of moves) count d = ap (λ l. get_or l count d) e in
    omega arith

pub spelled_all : (bytes : List ℕ) (count : ℕ) (cost : Cost) → IsSpelled bytes count cost → length bytes ≤ count → IsSpelledCost bytes (Some cost)
spelled_all bytes count cost p over = (p.moves, sym (take_all count bytes over) ∙ p.spelled, p.costs)

-- one list of numbers is of one list of moves
pub same_moves : (moves others : List Move) → map number_of moves ≡ map number_of others → moves ≡ others
same_moves [] [] e = refl
same_moves [] (other ∷ others) e = let size : 0 ≡ suc (length (map number_of others)) = ap length e in absurd (omega arith)
same_moves (move ∷ moves) [] e = let size : suc (length (map number_of moves)) ≡ 0 = ap length e in absurd (omega arith)
same_moves (move ∷ moves) (other ∷ others) e =
    let head : number_of move ≡ number_of other = ap (λ l. get_or l 0 0) e in
    let rest : map number_of moves ≡ map number_of others = ap (drop 1) e in
    ap₂ (λ x xs. x ∷ xs) (same_move move other head) (same_moves moves others rest)

-- the frame of a path, by its moves
pub record IsPathFrame (frame : List ℕ) : Type 0 where
  pub moves : List Move
  pub bytes : drop 13 frame ≡ map number_of moves
  pub straight : big_number 4 (drop 5 frame) ≡ (cost_of moves).straight
  pub diagonal : big_number 4 (drop 9 frame) ≡ (cost_of moves).diagonal

not_path : (frame : List ℕ) (k : ℕ) (rest : List ℕ) → slice_index frame 0 ≡ kind.PATH → 129 < k → frame ≡ k ∷ rest → IsPathFrame frame
not_path frame k rest path other e =
    let head : slice_index frame 0 ≡ k = ap (λ l. slice_index l 0) e in absurd (omega arith)

pub path_known : (reply : Reply) (frame : List ℕ) → slice_index frame 0 ≡ kind.PATH → IsReplyFrame reply frame → IsPathFrame frame
path_known (reply.Path version cost) frame path (moves, (costs, few), e) =
    let long : cost.straight + cost.diagonal ≡ length moves = subst (λ c. c.straight + c.diagonal ≡ length moves) costs (moves_of_cost moves) in
    record {
      moves = moves;
      bytes = ap (drop 13) e;
      straight = ap (λ l. big_number 4 (drop 5 l)) e ∙ big_number-reads_back 4 cost.straight (big_bytes 4 cost.diagonal ++ map number_of moves) (omega arith)
          ∙ ap (λ c. c.straight) (sym costs);
      diagonal = ap (λ l. big_number 4 (drop 9 l)) e ∙ big_number-reads_back 4 cost.diagonal (map number_of moves) (omega arith) ∙ ap (λ c. c.diagonal) (sym costs);
    }
path_known (reply.Unreachable version) frame path (moves, are, e) = not_path frame 130 _ path (omega arith) e
path_known (reply.Refused version why) frame path (moves, are, e) = not_path frame 131 _ path (omega arith) e
path_known (reply.Accepted number) frame path (moves, are, e) = not_path frame 132 _ path (omega arith) e
path_known (reply.EditRefused why) frame path (moves, are, e) = not_path frame 133 _ path (omega arith) e
path_known (reply.Published prefix built kept) frame path (moves, are, e) = not_path frame 134 _ path (omega arith) e
path_known (reply.NothingNew prefix) frame path (moves, are, e) = not_path frame 135 _ path (omega arith) e
path_known (reply.Overtaken by) frame path (moves, are, e) = not_path frame 136 _ path (omega arith) e
path_known (reply.Status version accepted cells comps runs) frame path (moves, are, e) = not_path frame 137 _ path (omega arith) e
path_known reply.Done frame path (moves, are, e) = not_path frame 138 _ path (omega arith) e
path_known (reply.Malformed frame_kind frame_length) frame path (moves, are, e) = not_path frame 139 _ path (omega arith) e
path_known reply.NoMemory frame path (moves, are, e) = not_path frame 140 _ path (omega arith) e
path_known reply.Welcome frame path (moves, are, e) = not_path frame 141 _ path (omega arith) e

-- the bytes behind the head of a path's frame spell moves of the one cost that the frame tells
known_cost : (frame : List ℕ) (cost : Cost) → 13 ≤ length frame
    → (moves : List Move) × (mid_of 13 (length frame - 13) frame ≡ map number_of moves) × (cost_of moves ≡ cost)
    → (p : IsPathFrame frame) → cost_of p.moves ≡ cost
known_cost frame cost long (moves, bytes, costs) p =
    let size = length-drop 13 frame in
    let whole : mid_of 13 (length frame - 13) frame ≡ drop 13 frame = take_all (length frame - 13) (drop 13 frame) (omega arith) in
    ap cost_of (same_moves p.moves moves (sym p.bytes ∙ sym whole ∙ bytes)) ∙ costs

pub not_straight : (frame : List ℕ) (cost : Cost) (straight : ℕ) → slice_index frame 0 ≡ kind.PATH → 13 ≤ length frame
    → (moves : List Move) × (mid_of 13 (length frame - 13) frame ≡ map number_of moves) × (cost_of moves ≡ cost)
    → straight < 256 ^ 4 → drop 5 frame ≡ big_bytes 4 straight ++ drop 9 frame → (cost.straight ≡ straight → ⊥)
    → (reply : Reply) → IsReplyFrame reply frame → ⊥
not_straight frame cost straight path long spelled fits told differ reply h =
    let p = path_known reply frame path h in
    differ (ap (λ c. c.straight) (sym (known_cost frame cost long spelled p)) ∙ sym p.straight ∙ ap (big_number 4) told
    ∙ big_number-reads_back 4 straight (drop 9 frame) fits)

pub not_diagonal : (frame : List ℕ) (cost : Cost) (diagonal : ℕ) → slice_index frame 0 ≡ kind.PATH → 13 ≤ length frame
    → (moves : List Move) × (mid_of 13 (length frame - 13) frame ≡ map number_of moves) × (cost_of moves ≡ cost)
    → diagonal < 256 ^ 4 → drop 9 frame ≡ big_bytes 4 diagonal ++ drop 13 frame → (cost.diagonal ≡ diagonal → ⊥)
    → (reply : Reply) → IsReplyFrame reply frame → ⊥
not_diagonal frame cost diagonal path long spelled fits told differ reply h =
    let p = path_known reply frame path h in
    differ (ap (λ c. c.diagonal) (sym (known_cost frame cost long spelled p)) ∙ sym p.diagonal ∙ ap (big_number 4) told
    ∙ big_number-reads_back 4 diagonal (drop 13 frame) fits)
