-- Bytes between two places of a room.
use Rattle.std.proofs.Common.{◌≡◌, ℕ, ◌+◌, ◌-◌, ◌≤◌, List, [], length, take, drop, min, sym, ap, ◌∙◌, arith}
use Rattle.std.specs.Prelude.{◌↔◌}
use Rattle.std.proofs.lemmas.List.{drop-take, length-drop, length-take}
use Rattle.std.proofs.Math.Seq.{drop-drop}

-- the bytes from one place up to another
abbrev pub between : List ℕ → ℕ → ℕ → List ℕ
between room from to = take (to - from) (drop from room)

module _ (room : List ℕ) (from to : ℕ) (order : from ≤ to) (within : to ≤ length room) where
  -- they are as many as lie between the places
  pub length_between : length (between room from to) ≡ to - from
  length_between = omega (arith, length-take (to - from) (drop from room), length-drop from room, order, within)

  -- there are none exactly where the places are one
  pub none_between : (from ≡ to) ↔ (between room from to ≡ [])
  none_between = (
    λ same. let none : to - from ≡ 0 = omega (arith, same) in ap (λ n. take n (drop from room)) none,
    λ none. omega (arith, length_between, order, ap (λ (l : List ℕ). length l) none),
  )

  -- behind the first of them are the rest
  pub rest_between : (count : ℕ) → count ≤ to - from → between room (from + count) to ≡ drop count (between room from to)
  rest_between count few =
      let left : to - from ≡ count + (to - (from + count)) = omega (arith, order, few) in
      sym (ap (λ n. drop count (take n (drop from room))) left
      ∙ drop-take count (to - (from + count)) (drop from room)
      ∙ ap (take (to - (from + count))) (drop-drop count from room))

-- as many as fit are no more than there are
pub few_of : (room left count all : ℕ) → count ≡ min room left → left ≡ all → count ≤ all
few_of room left count all least same = omega (arith, least, same)

-- what stands at the front of a room
pub front_between : (room : List ℕ) (count : ℕ) → between room 0 count ≡ take count room
front_between room count =
    let all : count - 0 ≡ count = omega arith in
    ap (λ n. take n room) all
