-- Replies, as they are sent: the head, and behind it the moves that it counts.
use Rattle.std.proofs.Common.{◌≡◌, ◌+◌, ℕ, List, [], ◌++◌, length, map, inl, inr, refl, sym, subst, ap, ◌∙◌, length-append}
use Rattle.std.proofs.lemmas.List.{append_assoc, length-map}
use Rattle.moves.specs.declared.Cell.{Cell}
use Rattle.moves.specs.declared.Move.{Move}
use Rattle.moves.specs.Moves.{number_of}
use Rattle.moves.proofs.CostsOfPaths.{moves_of_cost}
use Rattle.root_cost.specs.declared.Cost.{Cost}
use Rattle.byteorder.specs.Endian.{big_bytes}
use Rattle.query_proto.specs.declared.protocols.Proto.{Proto}
use Rattle.query_proto.specs.declared.replies.Reply.{Reply}
use Rattle.query_proto.specs.declared.replies.Reply.TheVariants as reply
use Rattle.query_proto.specs.declared.requests.Request.{Request}
use Rattle.query_proto.specs.declared.requests.Request.TheVariants as request
use Rattle.query_proto.specs.Frames.{head_bytes, moves_behind, reply_frame, sent_head, sent_reply}
use Rattle.versions.specs.Answers.{Answer, path, refused, unreachable}
use Rattle.session.specs.Conversations.{Exchange, ServesFrame}
use Rattle.session.specs.Served.{ServesBuild, ServesChange, ServesStatus, ServesStop, Serves, TellsAnswer}
use Rattle.session.specs.Standing.{Place, Standing}

-- a reply is its head and its moves
head_then : (told : Reply) (moves : List Move) → moves_behind told ≡ length moves → sent_head told ++ map number_of moves ≡ sent_reply told moves
head_then told moves many =
    let long : length (head_bytes told) + moves_behind told ≡ length (reply_frame told moves) =
    ap (λ n. length (head_bytes told) + n) (many ∙ sym (length-map moves number_of)) ∙ sym (length-append (head_bytes told) (map number_of moves)) in
    append_assoc (big_bytes 4 (length (head_bytes told) + moves_behind told)) (head_bytes told) (map number_of moves)
    ∙ ap (λ n. big_bytes 4 n ++ reply_frame told moves) long

-- only a path has moves behind it
none_behind : (told : Reply) → ((version : ℕ) (cost : Cost) → told ≡ reply.Path version cost → ⊥) → moves_behind told ≡ 0
none_behind (reply.Path version cost) other = absurd (other version cost refl)
none_behind (reply.Unreachable version) other = refl
none_behind (reply.Refused version why) other = refl
none_behind (reply.Accepted number) other = refl
none_behind (reply.EditRefused why) other = refl
none_behind (reply.Published prefix built kept) other = refl
none_behind (reply.NothingNew prefix) other = refl
none_behind (reply.Overtaken by) other = refl
none_behind (reply.Status version accepted cells comps runs) other = refl
none_behind reply.Done other = refl
none_behind (reply.Malformed kind size) other = refl
none_behind reply.NoMemory other = refl
none_behind reply.Welcome other = refl

no_moves : (told : Reply) (moves : List Move) → moves_behind told ≡ 0 → moves ≡ [] → moves_behind told ≡ length moves
no_moves told moves none e = none ∙ sym (ap (λ (l : List Move). length l) e)

answer_behind : (version : ℕ) (answer : Answer) (told : Reply) (moves : List Move) → TellsAnswer version answer told moves → moves_behind told ≡ length moves
answer_behind version (refused why) told moves p = no_moves told moves (ap moves_behind p.0) p.1
answer_behind version unreachable told moves p = no_moves told moves (ap moves_behind p.0) p.1
answer_behind version (path found) told moves p =
    ap moves_behind p.0 ∙ moves_of_cost found ∙ sym (ap (λ (l : List Move). length l) p.1)

served_behind : (place : Place) (asked : Request) (old : Standing) (told : Reply) (moves : List Move) (new : Standing) → Serves place asked old told moves new
    → moves_behind told ≡ length moves
served_behind place (request.Query start goal) old told moves new p = elim p.answers [
  | inl tells ↦ answer_behind _ tells.answer told moves tells.tells
  | inr lacks ↦ no_moves told moves (ap moves_behind lacks.reply_is) lacks.moves_are
]
served_behind place (request.Change edit) old told moves new p =
    no_moves told moves (none_behind told (λ v c e. subst (λ t. ServesChange place edit old.seen t new.seen) e p.0)) p.1
served_behind place request.Build old told moves new p =
    no_moves told moves (none_behind told (λ v c e. subst (λ t. ServesBuild place old.seen t new) e p.0)) p.1
served_behind place request.Status old told moves new p =
    no_moves told moves (none_behind told (λ v c e. subst (λ t. ServesStatus place old.seen t new.seen) e p.0)) p.1
served_behind place request.Bye old told moves new p = no_moves told moves (ap moves_behind p.0) p.1
served_behind place request.Stop old told moves new p =
    no_moves told moves (none_behind told (λ v c e. subst (λ t. ServesStop place old.seen t new.seen) e p.0)) p.1
served_behind place request.Hello old told moves new p = no_moves told moves (ap moves_behind p.0) p.1

frame_behind : (place : Place) (proto : Proto) (exchange : Exchange) (old new : Standing) → ServesFrame place proto exchange old new
    → moves_behind exchange.told ≡ length exchange.moves
frame_behind place proto exchange old new p = elim p [
  | inl spelled ↦ served_behind place spelled.asked old exchange.told exchange.moves new spelled.serves.served
  | inr none ↦ no_moves exchange.told exchange.moves (ap moves_behind none.told_is) none.moves_are
]

-- as many moves stand behind a reply to a frame as were written
pub bytes_behind : (place : Place) (proto : Proto) (frame : List ℕ) (told : Reply) (moves : List Move) (bytes : List ℕ) (old new : Standing)
    → ServesFrame place proto (record { frame = frame; told = told; moves = moves }) old new → bytes ≡ map number_of moves → moves_behind told ≡ length bytes
bytes_behind place proto frame told moves bytes old new serves is =
    frame_behind place proto (record { frame = frame; told = told; moves = moves }) old new serves
    ∙ sym (ap (λ (l : List ℕ). length l) is ∙ length-map moves number_of)

-- what was sent is the reply with its moves
pub sent_whole : (place : Place) (proto : Proto) (frame : List ℕ) (told : Reply) (moves : List Move) (bytes : List ℕ) (old new : Standing)
    → ServesFrame place proto (record { frame = frame; told = told; moves = moves }) old new → bytes ≡ map number_of moves → sent_head told ++ bytes ≡ sent_reply told moves
sent_whole place proto frame told moves bytes old new serves is =
    ap (λ (l : List ℕ). sent_head told ++ l) is
    ∙ head_then told moves (frame_behind place proto (record { frame = frame; told = told; moves = moves }) old new serves)

-- no moves stand behind the reply to a request that is no query
pub served_alone : (place : Place) (asked : Request) (old : Standing) (told : Reply) (moves : List Move) (new : Standing)
    → ((start goal : Cell) → asked ≡ request.Query start goal → ⊥) → Serves place asked old told moves new → moves ≡ []
served_alone place (request.Query start goal) old told moves new other p = absurd (other start goal refl)
served_alone place (request.Change edit) old told moves new other p = p.1
served_alone place request.Build old told moves new other p = p.1
served_alone place request.Status old told moves new other p = p.1
served_alone place request.Bye old told moves new other p = p.1
served_alone place request.Stop old told moves new other p = p.1
served_alone place request.Hello old told moves new other p = p.1
