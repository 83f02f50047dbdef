-- What is taken of a talk, one piece after another.
use Rattle.std.proofs.Common.{◌≡◌, ℕ, ◌+◌, ◌≤◌, List, ◌++◌, length, take, drop, Option, Some, None, sym, subst, ap, ◌∙◌, arith, rules}
use Rattle.std.proofs.Math.Seq.{take-append-add}
use Rattle.std.proofs.lemmas.List.{append_assoc, drop-drop, length-append, length-take-le, take-append-le}
use borrow.Rule.Slice.PartMut.{put_mid}
use Rattle.wire.specs.Talks.{Talk, with_taken}
use Rattle.path_client.specs.declared.fault.ClientFault.{ClientFault}
use Rattle.path_client.specs.Taking.{BeginsLeft, IsCutShort, Takes, TakesPart}

-- two pieces were taken, one after the other
both_taken : (told after : Option Talk) (first next : List ℕ) → BeginsLeft told first
    → BeginsLeft (with_taken told (length first)) next → after ≡ with_taken (with_taken told (length first)) (length next)
    → Takes told after (first ++ next)
both_taken (Some talk) after first next front behind moved =
    let seam : drop (length next) (drop (length first) talk.left) ≡ drop (length (first ++ next)) talk.left =
    drop-drop (length next) (length first) talk.left ∙ ap (λ n. drop n talk.left) (sym (length-append first next)) in
    record {
      front = front ∙ ap (λ l. first ++ l) behind ∙ sym (append_assoc first next (drop (length next) (drop (length first) talk.left)))
          ∙ ap (λ l. (first ++ next) ++ l) seam;
      moved = moved ∙ ap (λ l. Some (record talk { left = l })) seam;
    }
both_taken None after first next front behind moved = record { front = search rules; moved = moved }

-- a piece was taken, and then the next
pub takes_more : (before between after : Option Talk) (first next : List ℕ) → Takes before between first → Takes between after next
    → Takes before after (first ++ next)
takes_more before between after first next p q =
    both_taken before after first next p.front (subst (λ told. BeginsLeft told next) p.moved q.front)
    (q.moved ∙ ap (λ told. with_taken told (length next)) p.moved)

-- a piece was taken, and then fewer bytes than the rest has
pub part_more : (before between after : Option Talk) (first : List ℕ) (rest began size held : ℕ) (fault : ClientFault)
    → length first + rest ≡ size → began ≡ held + length first → Takes before between first
    → TakesPart between after rest began fault → TakesPart before after size held fault
part_more before between after first rest began size held fault whole further p q =
    let both = length-append first q.part in
    let few = q.fewer in
    let sum : began + length q.part ≡ held + length (first ++ q.part) = omega arith in
    record {
      part = first ++ q.part;
      takes = takes_more before between after first q.part p q.takes;
      fewer = omega arith;
      why = subst (λ n. IsCutShort n after fault) sum q.why;
    }

-- the front of a room, of which a part behind so many bytes was lent and filled
pub filled : (room new : List ℕ) (at rest more : ℕ) → at ≤ length room → more ≤ length new
    → take (at + more) (put_mid at rest room new) ≡ take at room ++ take more new
filled room new at rest more within few =
    let size = length-take-le at room within in
    ap (λ n. take (n + more) (put_mid at rest room new)) (sym size)
    ∙ take-append-add (take at room) (new ++ drop rest (drop at room)) more
    ∙ ap (λ l. take at room ++ l) (take-append-le more new (drop rest (drop at room)) few)
