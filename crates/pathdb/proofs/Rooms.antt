-- Texts that are put into rooms.
use Rattle.std.proofs.Common.{◌≡◌, ℕ, suc, ◌-◌, ◌<◌, ◌≤◌, List, [], ◌∷◌, ◌++◌, length, get_or, set, take, drop, min, refl, sym, ap, ◌∙◌, append_assoc, inl, inr, arith}
use Rattle.std.proofs.Math.Seq.{drop-cons, set-append_seam}
use Rattle.std.proofs.lemmas.Bool.{cases_lt}
use Rattle.std.proofs.lemmas.List.{length-take-le, length_push, take_all}
use Rattle.path_image.specs.Answers.{overwritten}

-- numbers for which a room has place stand at its front
overwritten_front : (room numbers : List ℕ) → length numbers ≤ length room → overwritten room numbers ≡ numbers ++ drop (length numbers) room
overwritten_front [] [] few = refl
overwritten_front [] (number ∷ numbers) few = absurd (omega arith)
overwritten_front (x ∷ room) [] few = refl
overwritten_front (x ∷ room) (number ∷ numbers) few = ap (λ rest. number ∷ rest) (overwritten_front room numbers (omega arith))

-- the front of a text in a room, and a 0 behind it
pub text_put : (text room copied : List ℕ) (count : ℕ) → 0 < length room → count ≡ min (length text) (length room - 1) → copied ≡ take count text
    → set (copied ++ drop count room) count 0 ≡ overwritten room (take (length room - 1) text ++ 0 ∷ [])
text_put text room copied count some is same =
    let front = take count text in
    let whole : take (length room - 1) text ≡ front =
    elim (cases_lt (length room - 1) (length text)) [
      | inl less ↦ (let here : length room - 1 ≡ count = omega arith in ap (λ n. take n text) here)
      | inr all ↦ take_all (length room - 1) text all ∙ sym (take_all count text (omega arith))
    ] in
    let long : length front ≡ count = length-take-le count text (omega arith) in
    let pushed = length_push front 0 in
    let behind : length (front ++ 0 ∷ []) ≡ suc count = omega arith in
    let left : set (copied ++ drop count room) count 0 ≡ front ++ 0 ∷ drop (suc count) room =
    ap (λ xs. set (xs ++ drop count room) count 0) same ∙ ap (λ xs. set (front ++ xs) count 0) (drop-cons room count 0 (omega arith))
    ∙ ap (λ n. set (front ++ get_or room count 0 ∷ drop (suc count) room) n 0) (sym long)
    ∙ set-append_seam front (get_or room count 0) (drop (suc count) room) 0 in
    let right : overwritten room (front ++ 0 ∷ []) ≡ front ++ 0 ∷ drop (suc count) room =
    overwritten_front room (front ++ 0 ∷ []) (omega arith) ∙ ap (λ n. (front ++ 0 ∷ []) ++ drop n room) behind
    ∙ append_assoc front (0 ∷ []) (drop (suc count) room) in
    left ∙ sym right ∙ ap (λ xs. overwritten room (xs ++ 0 ∷ [])) (sym whole)
