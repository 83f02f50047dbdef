-- What was heard or not, by what was taken.
use Rattle.std.proofs.Common.{◌≡◌, ℕ, ◌-◌, ◌≤◌, List, ◌++◌, length, take, drop, map, Option, Result, Ok, Err, IfOk, IfErr, inr, refl, sym, subst, ap, ◌∙◌, rules}
use Rattle.std.proofs.lemmas.List.{length-append, take_at, take_rest}
use borrow.Rule.Slice.PartMut.{mid_of}
use Rattle.byteorder.specs.Endian.{big_bytes}
use Rattle.root_cost.specs.declared.Cost.{Cost}
use Rattle.moves.specs.declared.Move.{Move}
use Rattle.moves.specs.Moves.{number_of}
use Rattle.query_proto.specs.declared.TheConstants.{MAX_REPLY}
use Rattle.query_proto.specs.declared.replies.Reply.{Reply}
use Rattle.query_proto.specs.declared.replies.Reply.TheVariants as reply
use Rattle.query_proto.specs.Frames.{IsReplyFrame}
use Rattle.query_proto.proofs.SpelledMoves.{same_moves}
use Rattle.wire.specs.Talks.{Talk}
use Rattle.path_client.specs.declared.fault.ClientFault.{ClientFault}
use Rattle.path_client.specs.declared.fault.ClientFault.TheVariants.{Malformed, Closed, ReadFault, WriteFault, OldServer, NoMemory}
use Rattle.path_client.specs.declared.heard.Heard.{Heard}
use Rattle.path_client.specs.Taking.{Takes, TakesPart}
use Rattle.path_client.specs.Asking.{HearsFrom, HearsNothing, IsHeardIn, NotHeardIn, TakesSize}
use Rattle.path_client.proofs.Pieces.{takes_more}

-- fewer bytes came than the frame has
frame_torn : (before between after : Option Talk) (size : ℕ) (fault : ClientFault) → TakesSize before between size
    → TakesPart between after size 4 fault → HearsNothing before after fault
frame_torn before between after size (Closed have) p q = record {
  taken = big_bytes 4 size ++ q.part;
  takes = takes_more before between after (big_bytes 4 size) q.part p.takes q.takes;
  why = (q.why.0 ∙ sym (length-append (big_bytes 4 size) q.part), inr (record { size = size; part = q.part; is = refl; allowed = p.allowed; fewer = q.fewer }), q.why.1);
  listens = search rules;
}
frame_torn before between after size ReadFault p q = record {
  taken = big_bytes 4 size ++ q.part;
  takes = takes_more before between after (big_bytes 4 size) q.part p.takes q.takes;
  why = inr (record { size = size; part = q.part; is = refl; allowed = p.allowed; fewer = q.fewer });
  listens = search rules;
}
frame_torn before between after size Malformed p q = absurd q.why
frame_torn before between after size WriteFault p q = absurd q.why
frame_torn before between after size (OldServer kind) p q = absurd q.why
frame_torn before between after size NoMemory p q = absurd q.why

pub torn_at : (before between after : Option Talk) (size wanted : ℕ) (fault : ClientFault) → wanted ≡ size
    → TakesSize before between size → TakesPart between after wanted 4 fault → HearsNothing before after fault
torn_at before between after size wanted fault all p q =
    frame_torn before between after size fault p (subst (λ n. TakesPart between after n 4 fault) all q)

-- a whole frame was taken behind its length
whole_taken : (before between after : Option Talk) (size : ℕ) (frame : List ℕ) → TakesSize before between size
    → Takes between after frame → length frame ≡ size → Takes before after (big_bytes 4 (length frame) ++ frame)
whole_taken before between after size frame p q long =
    takes_more before between after (big_bytes 4 (length frame)) frame
    (subst (λ n. Takes before between (big_bytes 4 n)) (sym long) p.takes) q

-- it is that of a reply
whole_heard : (before between after : Option Talk) (size : ℕ) (frame : List ℕ) (told : Reply) (moves : List Move)
    → TakesSize before between size → Takes between after frame → length frame ≡ size → IsHeardIn frame told moves
    → HearsFrom before after told moves
whole_heard before between after size frame told moves p q long h = record {
  taken = big_bytes 4 (length frame) ++ frame;
  takes = whole_taken before between after size frame p q long;
  hears = record { are = h.are; is = ap (λ l. big_bytes 4 (length l) ++ l) h.is };
}

-- nothing is heard in it
whole_unheard : (before between after : Option Talk) (size : ℕ) (frame : List ℕ) (fault : ClientFault)
    → TakesSize before between size → Takes between after frame → length frame ≡ size → NotHeardIn frame fault
    → HearsNothing before after fault
whole_unheard before between after size frame Malformed p q long h = record {
  taken = big_bytes 4 (length frame) ++ frame;
  takes = whole_taken before between after size frame p q long;
  why = inr (record { frame = frame; is = refl; allowed = subst (λ n. n ≤ MAX_REPLY) (sym long) p.allowed; none = h });
  listens = search rules;
}
whole_unheard before between after size frame NoMemory p q long (told, (moves, are, is)) = record {
  taken = big_bytes 4 (length frame) ++ frame;
  takes = whole_taken before between after size frame p q long;
  why = inr (record {
    reply = told;
    moves = moves;
    hears = record { are = are; is = ap (λ l. big_bytes 4 (length l) ++ l) is };
  });
  listens = search rules;
}
whole_unheard before between after size frame (Closed have) p q long h = absurd h
whole_unheard before between after size frame ReadFault p q long h = absurd h
whole_unheard before between after size frame WriteFault p q long h = absurd h
whole_unheard before between after size frame (OldServer kind) p q long h = absurd h

-- moves with the numbers behind the head of a path are its moves
path_heard : (version : ℕ) (cost : Cost) (frame : List ℕ) (found : List Move) → IsReplyFrame (reply.Path version cost) frame
    → map number_of found ≡ drop 13 frame → IsHeardIn frame (reply.Path version cost) found
path_heard version cost frame found (moves, are, is) numbers =
    let same : found ≡ moves = same_moves found moves (numbers ∙ ap (drop 13) is) in
    subst (λ l. IsHeardIn frame (reply.Path version cost) l) (sym same) (record { are = are; is = is })

pub path_heard_all : {E : Type 0} → (told : Reply) (version : ℕ) (cost : Cost) (frame : List ℕ) (result : Result (List Move) E)
    → told ≡ reply.Path version cost → IsReplyFrame told frame
    → IfOk result (λ found. map number_of found ≡ mid_of 13 (length frame - 13) frame) → IfOk result (IsHeardIn frame told)
path_heard_all told version cost frame (Ok found) is spelled numbers =
    subst (λ r. IsHeardIn frame r found) (sym is)
    (path_heard version cost frame found (subst (λ r. IsReplyFrame r frame) is spelled) (numbers ∙ take_rest frame 13))
path_heard_all told version cost frame (Err refused) is spelled numbers = search rules

-- a list that was lent whole is what it was lent for
pub lent_whole : (came old frame : List ℕ) (size : ℕ) → frame ≡ take size (came ++ drop (length came) old) → length came ≡ size → frame ≡ came
lent_whole came old frame size is all = is ∙ take_at came (drop (length came) old) size all

-- what a whole frame tells is what was heard
pub hear_all : (before between after : Option Talk) (size : ℕ) (came frame : List ℕ) (result : Result Heard ClientFault)
    → TakesSize before between size → Takes between after came → frame ≡ came → length frame ≡ size
    → IfOk result (λ heard. IsHeardIn frame heard.reply heard.moves)
    → IfOk result (λ heard. HearsFrom before after heard.reply heard.moves)
hear_all before between after size came frame (Ok found) p q same long h =
    whole_heard before between after size frame found.reply found.moves p (subst (Takes between after) (sym same) q) long h
hear_all before between after size came frame (Err fault) p q same long h = search rules

pub hear_none : (before between after : Option Talk) (size : ℕ) (came frame : List ℕ) (result : Result Heard ClientFault)
    → TakesSize before between size → Takes between after came → frame ≡ came → length frame ≡ size
    → IfErr result (NotHeardIn frame) → IfErr result (HearsNothing before after)
hear_none before between after size came frame (Ok found) p q same long h = search rules
hear_none before between after size came frame (Err fault) p q same long h =
    whole_unheard before between after size frame fault p (subst (Takes between after) (sym same) q) long h
