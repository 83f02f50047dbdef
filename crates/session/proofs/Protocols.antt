-- Which protocol stands behind a frame, and which frames end a session.
use Rattle.std.proofs.Common.{◌≡◌, ◌≤◌, ℕ, Bool, true, false, cond, List, [], ◌∷◌, slice_index, None, Option, Some, refl, sym, ap, ◌∙◌, arith}
use Rattle.std.proofs.lemmas.Slice.Eq.{bytes_eq-Decides}
use Rattle.std.specs.Str.{bytes_eq}
use Rattle.edit_log.specs.declared.edit.CellChange.{CellChange}
use Rattle.query_proto.specs.declared.TheConstants.{MAX_REQUEST}
use Rattle.query_proto.specs.declared.malformed.Malformed.{Malformed}
use Rattle.query_proto.specs.declared.protocols.Proto.{Proto}
use Rattle.query_proto.specs.declared.protocols.Proto.TheVariants.{Start, One, Two}
use Rattle.query_proto.specs.declared.requests.Request.{Request}
use Rattle.query_proto.specs.declared.requests.Request.TheVariants as request
use Rattle.query_proto.specs.Frames.{IsNoRequest, IsRequestFrame, edit_bytes, limit_of, request_bytes}
use Rattle.session.specs.declared.sessions.Ended.{Ended}
use Rattle.session.specs.declared.sessions.Ended.TheVariants as ended
use Rattle.session.specs.Conversations.{Exchange, protocol_after}
use Rattle.session.specs.Turns.{EndsBehind, EndsBy, protocol_of}

-- no protocol has a longer frame than the second one
pub limits_fit : (proto : Proto) → limit_of proto ≤ MAX_REQUEST
limits_fit Start = omega arith
limits_fit One = omega arith
limits_fit Two = omega arith

-- ---- what a frame spells

-- lists that are the same begin with the same number
same_first : (a b : ℕ) {xs ys : List ℕ} → a ∷ xs ≡ b ∷ ys → a ≡ b
same_first a b e = ap (λ l. slice_index l 0) e

-- the frame of an edit begins with 2 or 8
not_an_edit : (edit : List CellChange) (k : ℕ) (rest : List ℕ) → edit_bytes edit ≡ k ∷ rest → (k ≡ 2 → ⊥) → (k ≡ 8 → ⊥) → ⊥
not_an_edit [] k rest e two eight = eight (sym (same_first 8 k e))
not_an_edit (change ∷ []) k rest e two eight = two (sym (same_first 2 k e))
not_an_edit (change ∷ next ∷ others) k rest e two eight = eight (sym (same_first 8 k e))

spells_bye : (asked : Request) → request_bytes asked ≡ request_bytes request.Bye → asked ≡ request.Bye
spells_bye (request.Query start goal) e = absurd (omega (arith, same_first 1 5 e))
spells_bye (request.Change edit) e = absurd (not_an_edit edit 5 _ e (λ k. omega (arith, k)) (λ k. omega (arith, k)))
spells_bye request.Build e = absurd (omega (arith, same_first 3 5 e))
spells_bye request.Status e = absurd (omega (arith, same_first 4 5 e))
spells_bye request.Bye e = refl
spells_bye request.Stop e = absurd (omega (arith, same_first 6 5 e))
spells_bye request.Hello e = absurd (omega (arith, same_first 7 5 e))

spells_stop : (asked : Request) → request_bytes asked ≡ request_bytes request.Stop → asked ≡ request.Stop
spells_stop (request.Query start goal) e = absurd (omega (arith, same_first 1 6 e))
spells_stop (request.Change edit) e = absurd (not_an_edit edit 6 _ e (λ k. omega (arith, k)) (λ k. omega (arith, k)))
spells_stop request.Build e = absurd (omega (arith, same_first 3 6 e))
spells_stop request.Status e = absurd (omega (arith, same_first 4 6 e))
spells_stop request.Bye e = absurd (omega (arith, same_first 5 6 e))
spells_stop request.Stop e = refl
spells_stop request.Hello e = absurd (omega (arith, same_first 7 6 e))

-- how a session ends behind a request, by the frame of the request
pub ends_behind_asked : (proto : Proto) (asked : Request) (exchange : Exchange) (end : Option Ended) → IsRequestFrame proto asked exchange.frame
    → EndsBy asked exchange.told end → EndsBehind exchange end
ends_behind_asked proto asked exchange None spells ends = record {
  no_bye = λ bye. ends.0 (spells_bye asked (sym spells.1 ∙ bye));
  no_stop = λ stop. ends.1 (spells_stop asked (sym spells.1 ∙ stop.0)) stop.1;
}
ends_behind_asked proto asked exchange (Some ended.Bye) spells ends = spells.1 ∙ ap request_bytes ends
ends_behind_asked proto asked exchange (Some ended.Stop) spells ends = (spells.1 ∙ ap request_bytes ends.0, ends.1)
ends_behind_asked proto asked exchange (Some ended.Quiet) spells ends = absurd ends
ends_behind_asked proto asked exchange (Some ended.Spent) spells ends = absurd ends

-- ---- the protocol behind the first frame

told_false : (b : Bool) → (b ≡ true → ⊥) → b ≡ false
told_false true not' = absurd (not' refl)
told_false false not' = refl

behind_hello : (frame : List ℕ) → frame ≡ request_bytes request.Hello → Two ≡ protocol_after Start frame
behind_hello frame e = sym (ap (λ b. cond b Two One) ((bytes_eq-Decides frame (request_bytes request.Hello)).1 e))

behind_other : (frame : List ℕ) → (frame ≡ request_bytes request.Hello → ⊥) → One ≡ protocol_after Start frame
behind_other frame other =
    sym (ap (λ b. cond b Two One) (told_false (bytes_eq frame (request_bytes request.Hello))
    (λ is. other ((bytes_eq-Decides frame (request_bytes request.Hello)).0 is))))

-- a frame that spells a request
pub first_read : (asked : Request) (frame : List ℕ) → IsRequestFrame Start asked frame → protocol_of asked ≡ protocol_after Start frame
first_read (request.Query start goal) frame spells = behind_other frame (λ is. omega (arith, same_first 1 7 (sym spells.1 ∙ is)))
first_read (request.Change edit) frame spells =
    behind_other frame (λ is. not_an_edit edit 7 _ (sym spells.1 ∙ is) (λ k. omega (arith, k)) (λ k. omega (arith, k)))
first_read request.Build frame spells = behind_other frame (λ is. omega (arith, same_first 3 7 (sym spells.1 ∙ is)))
first_read request.Status frame spells = behind_other frame (λ is. omega (arith, same_first 4 7 (sym spells.1 ∙ is)))
first_read request.Bye frame spells = behind_other frame (λ is. omega (arith, same_first 5 7 (sym spells.1 ∙ is)))
first_read request.Stop frame spells = behind_other frame (λ is. omega (arith, same_first 6 7 (sym spells.1 ∙ is)))
first_read request.Hello frame spells = behind_hello frame spells.1

-- one that spells none
pub first_unread : (frame : List ℕ) (what : Malformed) → IsNoRequest Start frame what → One ≡ protocol_after Start frame
first_unread frame what none = behind_other frame (λ is. none.none request.Hello (refl, is))
